use Rattle.std.proofs.Common.{◌≡◌, ◌+◌, length, drop}
use Rattle.std.specs.List.{sum_by}
use Rattle.live_member.proofs.limits.are_few.Given as goal

abbrev pub invariant-loop-list : goal.invariant-loop-list
invariant-loop-list l =
    l.left + sum_by (λ x. length x.items) l.lists ≡ 200 + sum_by (λ x. length x.items) (drop l.list-index l.lists)
