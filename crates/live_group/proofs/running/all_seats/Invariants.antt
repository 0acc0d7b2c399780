use Rattle.std.proofs.Common.{◌≡◌, ◌+◌, map, length}
use Rattle.live_group.proofs.Seating.{IsSeating}
use Rattle.live_group.proofs.running.all_seats.Given as goal

abbrev pub invariant-loop-objects : goal.invariant-loop-objects
invariant-loop-objects g l =
    IsSeating g.L.Lists.meaning l.seats.items (map (λ v. v.items) l.objects-iterator.rest.items)
    × (l.all.parts + length l.seats.items ≡ l.initial.all.parts) × (l.all.amount ≡ l.initial.all.amount)
    × (length l.seats.items + length l.objects-iterator.rest.items ≡ length l.fn.lists.items)
