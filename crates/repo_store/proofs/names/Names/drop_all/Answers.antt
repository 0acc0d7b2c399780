use Rattle.std.proofs.Common.{sym, subst}
use Rattle.sorted_lists.specs.Members.{In}
use Rattle.sorted_lists.proofs.Sets.{in_filter}
use Rattle.repo_store.specs.NameLayers.{is_stored}
use Rattle.repo_store.proofs.names.Names.drop_all.Goals as goal

pub returns-then-self-len-clause-waiting : goal.returns-then-self-len-clause-waiting
returns-then-self-len-clause-waiting c h i kept =
    subst (In h) (sym c.forget_dropped.ensures.waiting)
    (in_filter (is_stored c.args.kept.now.held) c.drop_ordered.new.self.waiting.items h
    (subst (In h) (sym c.drop_ordered.ensures.waiting) i) kept)

pub returns-then-self-len-clause-room : goal.returns-then-self-len-clause-room
returns-then-self-len-clause-room c n room =
    let left = c.drop_ordered.ensures.room n room in
    c.forget_dropped.ensures.room n (record {
      waiting = left.waiting;
      recent = left.recent;
      settled = left.settled;
    })

pub returns-else-self-len-clause-room : goal.returns-else-self-len-clause-room
returns-else-self-len-clause-room c n room =
    let left = c.drop_ordered.ensures.room n room in
    record { waiting = left.waiting; recent = left.recent; settled = left.settled }
