use Rattle.live_actors.proofs.Making.{one_heard}
use Rattle.live_actors.proofs.actors.hear_some.Goals as goal

pub loop-heard-preserved : goal.loop-heard-preserved
loop-heard-preserved g c =
    let progress = g.P.Places.progress in
    one_heard c.args.member c.loop-heard._heard (progress c.args.places.now) (progress c.loop-heard.places)
    c.loop-heard.invariant (progress c.take.new.self) (progress c.pass.new.self) (progress c.hear.new.self)
    c.in_ok-told.field-0 c.in-Some.told c.in_ok-hear.field-0 c.in-Some.is c.in_ok-told.ensures
    c.in_ok-pass.ensures
    c.in_ok-hear.ensures
