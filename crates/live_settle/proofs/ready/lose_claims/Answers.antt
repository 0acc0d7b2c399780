use Rattle.std.proofs.Common.{◌≡◌, ℕ, subst, arith}
use Rattle.live_settle.proofs.Publishing.{IsLosing, all_lost}
use Rattle.live_settle.proofs.ready.lose_claims.Goals as goal

pub returns : goal.returns
returns g c =
    let all : c.loop-earlier.earlier ≡ 16 = omega (arith, c.loop-earlier-test.false, c.loop-earlier.auto.earlier-end) in
    all_lost g.L.Lists.meaning c.args.live.now c.loop-earlier.live
    (subst (λ (n : ℕ). IsLosing g.L.Lists.meaning n c.args.live.now c.loop-earlier.live) all c.loop-earlier.invariant)
