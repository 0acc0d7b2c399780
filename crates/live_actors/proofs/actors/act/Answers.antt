use Rattle.std.proofs.Common.{◌≡◌, subst, arith}
use Rattle.live_actors.specs.declared.actor.Actor.{Actor}
use Rattle.live_actors.specs.ActorCalls.{tickets_of}
use Rattle.live_actors.proofs.Making.{last_left, tickets_left}
use Rattle.live_actors.proofs.actors.act.Goals as goal

pub returns-in_ok-publish-in-Publish-clause-tickets : goal.returns-in_ok-publish-in-Publish-clause-tickets
returns-in_ok-publish-in-Publish-clause-tickets g c =
    let progress = g.P.Places.progress in
    let left =
    last_left c.in-Publish.member (progress c.args.places.now) (progress c.publish.new.places)
    c.in_ok-publish-in-Publish.ensures in
    let had : (progress c.args.places.now).left ≡ 1 =
    subst (λ (a : Actor). (progress c.args.places.now).left ≡ tickets_of a c.args.turns) c.in-Publish.is
    c.requires.tickets in
    omega (arith, left, had)

pub returns-in_ok-fetch-in-First-clause-tickets : goal.returns-in_ok-fetch-in-First-clause-tickets
returns-in_ok-fetch-in-First-clause-tickets g c =
    let progress = g.P.Places.progress in
    let left =
    tickets_left c.in-First.member 1 c.args.turns (progress c.args.places.now)
    (progress c.fetch.new.places) c.in_ok-fetch-in-First.ensures in
    let had : (progress c.args.places.now).left ≡ c.args.turns =
    subst (λ (a : Actor). (progress c.args.places.now).left ≡ tickets_of a c.args.turns) c.in-First.is
    c.requires.tickets in
    omega (arith, left, had)

pub returns-in_ok-fetch-in-Second-clause-tickets : goal.returns-in_ok-fetch-in-Second-clause-tickets
returns-in_ok-fetch-in-Second-clause-tickets g c =
    let progress = g.P.Places.progress in
    let left =
    tickets_left c.in-Second.member 2 c.args.turns (progress c.args.places.now)
    (progress c.fetch-in-Second.new.places) c.in_ok-fetch-in-Second.ensures in
    let had : (progress c.args.places.now).left ≡ c.args.turns =
    subst (λ (a : Actor). (progress c.args.places.now).left ≡ tickets_of a c.args.turns) c.in-Second.is
    c.requires.tickets in
    omega (arith, left, had)
