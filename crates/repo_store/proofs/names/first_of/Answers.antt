use Rattle.std.proofs.Common.{◌+◌, Option, take, sym, subst, ◌∙◌}
use Rattle.repo_store.specs.PacketTable.{Stored}
use Rattle.sorted_lists.proofs.LeastOnes.{first_more, first_past, first_all}
use Rattle.repo_plan.proofs.Orders.{exact_parts}
use Rattle.repo_store.specs.Indexes.{first_part, held_part, IsFirstOf}
use Rattle.repo_store.specs.NameLayers.{is_stored_and_matches}
use Rattle.repo_store.proofs.names.first_of.Goals as goal
use Rattle.repo_store.proofs.names.first_of.Goals.{then-is_stored_and_matches, else-is_stored_and_matches}

pub loop-next-preserved : goal.loop-next-preserved
loop-next-preserved c =
    let held = c.args.held.now in
    let test = is_stored_and_matches c.args.kept.now c.args.asked.now c.args.can_be_prefix in
    let i = c.loop-next.next-index in
    let none : Stored = (first_part, 0) in
    let Next = λ (least : Option Stored). IsFirstOf (take (i + 1) held) test least in
    elim c.if-is_stored_and_matches.branch [
      | then-is_stored_and_matches w ↦
          subst Next (sym (w.least-is ∙ w.lesser-least.ensures))
          (first_more exact_parts held_part held test i none c.loop-next.least c.loop-next-test.true
          (sym c.is_stored_and_matches.ensures ∙ w.if-is_stored_and_matches.true) c.loop-next.invariant)
      | else-is_stored_and_matches w ↦
          subst Next (sym w.least-is)
          (first_past exact_parts held_part held test i none c.loop-next.least c.loop-next-test.true
          (sym c.is_stored_and_matches.ensures ∙ w.if-is_stored_and_matches.false) c.loop-next.invariant)
    ]

pub returns : goal.returns
returns c =
    first_all exact_parts held_part c.args.held.now
    (is_stored_and_matches c.args.kept.now c.args.asked.now c.args.can_be_prefix) c.loop-next.next-index
    c.loop-next.least
    c.loop-next-test.false c.loop-next.invariant
