use Rattle.std.proofs.Common.{arith}
use Rattle.live_actors.proofs.Making.{one_turn, tickets_left}
use Rattle.live_actors.proofs.actors.fetch.Goals as goal

pub take_turn-requires-clause-ticket : goal.take_turn-requires-clause-ticket
take_turn-requires-clause-ticket g c =
    let progress = g.P.Places.progress in
    let left =
    tickets_left c.args.member c.args.f c.loop-turn._turn (progress c.args.places.now) (progress c.loop-turn.places)
    c.loop-turn.invariant in
    let enough = c.requires.tickets in omega (arith, left, enough)

pub loop-turn-preserved : goal.loop-turn-preserved
loop-turn-preserved g c =
    let progress = g.P.Places.progress in
    one_turn c.args.member c.args.f c.loop-turn._turn (progress c.args.places.now) (progress c.loop-turn.places)
    (progress c.take_turn.new.places) c.loop-turn.invariant c.in_ok-take_turn.ensures
