use Rattle.std.proofs.Common.{◌≡◌, fold, All}
use Rattle.std.specs.Vec.Iter.{into_iter_items}
use Rattle.fetch_board.specs.Seats.{combined, IsSeatOf}
use Rattle.fetch_work.proofs.team.join_all.Given as goal

abbrev pub invariant-loop-other : goal.invariant-loop-other
invariant-loop-other g l =
    let rest = into_iter_items l.other-iterator in
    IsSeatOf l.board l.seat × (fold combined l.seat rest ≡ fold combined l.initial.seat l.fn.others.items)
    × All (λ other. IsSeatOf l.board other) rest
