use Rattle.std.proofs.Common.{◌≡◌, length, All, ◌+◌, ◌-◌}
use Rattle.fetch_board.specs.Seats.{fresh}
use Rattle.fetch_board.proofs.board.Board.deal.Given as goal

abbrev pub invariant-loop : goal.invariant-loop
invariant-loop g l = (l.first ≡ fresh l.self (l.seats + 1 - l.counter)) × (length l.dealt.items + 1 ≡ l.counter)
    × All (λ seat. seat ≡ fresh l.self 1) l.dealt.items
