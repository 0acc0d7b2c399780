use Rattle.std.proofs.Common.{◌∙◌, not}
use Rattle.repo_plan.specs.declared.part.Part.{Part}
use Rattle.repo_plan.specs.Parts.{part_of}
use Rattle.repo_store.specs.PacketTable.{Stored}
use Rattle.repo_store.specs.Indexes.{is_of}
use Rattle.repo_store.proofs.TakenLemmas.{taking_pair_none, taking_pair_more, taking_pair_all, fewer_among}
use Rattle.repo_store.proofs.names.Names.take_pair.Goals as goal

pub loop-number-init : goal.loop-number-init
loop-number-init c = record {
  among = c.requires.among;
  settled = taking_pair_none c.args.pair c.args.self.now.settled.items;
  recent = taking_pair_none c.args.pair c.args.self.now.recent.items;
  waiting = λ i. c.args.self.now.waiting.items;
  room = λ n room. room;
}

pub loop-number-preserved : goal.loop-number-preserved
loop-number-preserved c =
    let now = c.loop-number.self in
    let next = c.take_part.new.self in
    let number = c.loop-number.number in
    let part : Part = part_of c.args.pair number in
    let so_far = c.loop-number.invariant in
    let took = c.take_part.ensures in
    record {
      among =
          fewer_among c.args.kept.now.slots c.args.kept.now.held now next (λ (h : Stored). not (is_of part h))
          took.settled took.recent so_far.among;
      settled =
          taking_pair_more c.args.pair c.args.self.now.settled.items now.settled.items next.settled.items number
          took.settled so_far.settled;
      recent =
          taking_pair_more c.args.pair c.args.self.now.recent.items now.recent.items next.recent.items number
          took.recent so_far.recent;
      waiting = took.waiting ∙ so_far.waiting;
      room = λ n room. took.room n (so_far.room n room);
    }

pub returns-clause-settled : goal.returns-clause-settled
returns-clause-settled c =
    taking_pair_all c.args.pair c.args.kept.now.held c.args.self.now.settled.items c.loop-number.self.settled.items
    c.loop-number.number c.loop-number-test.false c.requires.few c.loop-number.invariant.among.settled
    c.loop-number.invariant.settled

pub returns-clause-recent : goal.returns-clause-recent
returns-clause-recent c =
    taking_pair_all c.args.pair c.args.kept.now.held c.args.self.now.recent.items c.loop-number.self.recent.items
    c.loop-number.number c.loop-number-test.false c.requires.few c.loop-number.invariant.among.recent
    c.loop-number.invariant.recent
