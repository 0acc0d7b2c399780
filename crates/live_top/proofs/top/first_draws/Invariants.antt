use Rattle.std.proofs.Common.{◌≡◌}
use Rattle.live_top.specs.Outcomes.{first_draws}
use Rattle.live_top.proofs.top.first_draws.Given as goal

abbrev pub invariant-loop-member : goal.invariant-loop-member
invariant-loop-member g l = l.values.items ≡ first_draws (g.D.Draws.draw l.draws) l.member
