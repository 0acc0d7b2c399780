use Rattle.std.proofs.Common.{◌≡◌, ◌+◌, length}
use Rattle.live_group.proofs.ticketed.give_back.Given as goal

abbrev pub invariant-loop-one : goal.invariant-loop-one
invariant-loop-one g l =
    (l.all.parts + length l.one-iterator.rest.items ≡ l.initial.all.parts + length l.fn.done.items)
    × (l.all.amount ≡ l.initial.all.amount)
