use Rattle.live_actors.proofs.Making.{one_published}
use Rattle.live_actors.proofs.actors.publish_next.Goals as goal

pub returns : goal.returns
returns g c =
    let progress = g.P.Places.progress in
    one_published c.args.member (progress c.args.places.now) (progress c.pass.new.self)
    (progress c.publish_next.new.self) c.in_ok-told.field-0 c.in_ok-pass.ensures c.in_ok-told.ensures
    c.in-Some.told
    c.in-Some.is (progress c.tell_others.new.places) (progress c.hear_some.new.places) c.args.members
    c.requires.members c.in_ok-tell_others.ensures c.in_ok-hear_some.ensures
