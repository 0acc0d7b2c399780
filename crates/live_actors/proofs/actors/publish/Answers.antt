use Rattle.std.proofs.Common.{Bool, sym, subst, ◌∙◌, arith}
use Rattle.live_actors.specs.ActorCalls.{PublishesNext}
use Rattle.live_actors.proofs.Making.{one_round, rounds_left}
use Rattle.live_actors.proofs.actors.publish.Goals as goal

pub publish_next-requires : goal.publish_next-requires
publish_next-requires g c =
    let progress = g.P.Places.progress in
    let can = c.requires in
    let made = c.loop-round.invariant.2 in
    let same =
    rounds_left c.args.member (progress c.args.places.now) (progress c.loop-round.places) c.loop-round.invariant in
    record {
      members = can.members ∙ sym made.0;
      senders = can.senders ∙ sym made.1;
      member = can.member;
      ticket = omega (arith, same, can.ticket);
    }

pub loop-round-preserved : goal.loop-round-preserved
loop-round-preserved g c =
    let progress = g.P.Places.progress in
    one_round c.args.member (progress c.args.places.now) (progress c.loop-round.places)
    (progress c.publish_next.new.places) c.loop-round.invariant
    (subst (λ (more : Bool). PublishesNext c.args.member more (progress c.loop-round.places)
    (progress c.publish_next.new.places)) c.if-not-branch.false c.in_ok-publish_next.ensures)
