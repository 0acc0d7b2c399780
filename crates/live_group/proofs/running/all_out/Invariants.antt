use Rattle.std.proofs.Common.{◌≡◌, ◌+◌, ◌*◌, ◌++◌, map, length}
use Rattle.live_group.specs.Desks.{tickets_each}
use Rattle.live_group.specs.Outs.{all_left}
use Rattle.live_group.proofs.running.all_out.Given as goal

abbrev pub invariant-loop-seat : goal.invariant-loop-seat
invariant-loop-seat g l =
    (map (λ o. o.number) l.outs.items ++ l.seat-iterator.rest.items ≡ l.fn.seats.items)
    × (l.all.parts ≡ l.initial.all.parts + length l.outs.items)
    × (l.all.amount + all_left l.outs.items ≡ l.initial.all.amount + length l.outs.items * tickets_each g.L.Run.turns)
