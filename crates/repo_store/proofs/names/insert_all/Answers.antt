use Rattle.std.proofs.Common.{◌++◌, [], sym, arith}
use Rattle.std.proofs.lemmas.List.{append-nil}
use Rattle.sorted_lists.proofs.Members.{same_is, same_taken, same_whole}
use Rattle.repo_store.specs.PacketTable.{Stored}
use Rattle.repo_store.specs.Indexes.{first_part}
use Rattle.repo_store.proofs.names.insert_all.Goals as goal

pub loop-next-init : goal.loop-next-init
loop-next-init c =
    let old = c.args.index.now.items in
    record {
      in_order = c.requires.in_order;
      same = same_is old (old ++ []) (sym (append-nil old));
      len = omega arith;
      capacity = omega arith;
    }

pub loop-next-preserved : goal.loop-next-preserved
loop-next-preserved c =
    let none : Stored = (first_part, 0) in
    record {
      in_order = c.insert.ensures.in_order;
      same =
          same_taken c.args.index.now.items c.args.held.now c.loop-next.next-index none c.loop-next-test.true
          c.insert.ensures.gains c.loop-next.invariant.same;
      len = omega (arith, c.insert.ensures.len, c.loop-next.invariant.len);
      capacity = omega (arith, c.insert.ensures.capacity, c.loop-next.invariant.capacity);
    }

pub returns-clause-same : goal.returns-clause-same
returns-clause-same c =
    same_whole c.args.index.now.items c.args.held.now c.loop-next.next-index c.loop-next-test.false
    c.loop-next.invariant.same
