use Rattle.std.proofs.Common.{◌≡◌, map}
use Rattle.std.specs.List.{All}
use Rattle.live_group.specs.Outs.{IsOut}
use Rattle.live_group.proofs.TakingOut.{AreOut}
use Rattle.live_group.proofs.running.all_placed.Given as goal

abbrev pub invariant-loop-out : goal.invariant-loop-out
invariant-loop-out g l =
    AreOut g.L.Lists.meaning (map (λ o. o.number) l.fn.outs.items) l.lives.items
    (map (λ o. o.number) l.out-iterator.rest.items)
    × All (IsOut g.L.Lists.meaning g.L.Run.turns) l.lives.items
    × All (λ o. o.left ≡ 0) l.out-iterator.rest.items
