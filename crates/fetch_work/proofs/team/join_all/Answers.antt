use Rattle.std.proofs.Common.{fold, sym, ap, subst, ◌∙◌}
use Rattle.std.specs.List.{All}
use Rattle.std.specs.Vec.Iter.{into_iter_items}
use Rattle.std.proofs.lemmas.List.Elements.{All-tail}
use Rattle.fetch_board.specs.Seats.{combined, IsSeatOf}
use Rattle.fetch_work.proofs.team.join_all.Goals as goal

pub loop-other-preserved : goal.loop-other-preserved
loop-other-preserved g c =
    let inv = c.loop-other.invariant in
    let rest = c.in-Some.ensures.steps.0 in
    let later = into_iter_items c.next.new.self in
    let board = c.args.board.now in (
      c.join.ensures.seat,
      ap (λ v. fold combined v later) c.join.ensures.joined
          ∙ (sym (ap (λ vs. fold combined c.loop-other.seat vs) rest) ∙ inv.1),
      All-tail (λ v. IsSeatOf board v) c.in-Some.other later (subst (All (λ v. IsSeatOf board v)) rest inv.2),
    )
