use Rattle.live_actors.proofs.Making.{turn_unclaimed, turn_taken}
use Rattle.live_actors.proofs.actors.take_turn.Goals as goal

pub returns : goal.returns
returns g c =
    let progress = g.P.Places.progress in
    turn_taken c.args.member c.args.f (progress c.args.places.now) (progress c.pass.new.self)
    (progress c.claim.new.self) c.in_ok-part.field-0 c.in_ok-pass.ensures c.in_ok-part.ensures.call
    c.in-Claimed.part c.in-Claimed.is (progress c.pass-2.new.self) (progress c.lend.new.self)
    (progress c.end_claim.new.places) c.in_ok-lent.lent c.in_ok-pass-2.ensures c.in_ok-lent.ensures
    c.in_ok-end_claim.ensures

pub returns-in_default : goal.returns-in_default
returns-in_default g c =
    let progress = g.P.Places.progress in
    turn_unclaimed c.args.member c.args.f (progress c.args.places.now) (progress c.pass.new.self)
    (progress c.claim.new.self) c.in_ok-part.field-0 c.in_ok-pass.ensures c.in_ok-part.ensures.call
    c.in_default.not-Claimed
