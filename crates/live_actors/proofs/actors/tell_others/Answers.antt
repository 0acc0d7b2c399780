use Rattle.std.proofs.Common.{◌+◌, sym, subst}
use Rattle.live_actors.specs.ActorCalls.{Makes, tells}
use Rattle.live_actors.proofs.Making.{one_received, itself_passed}
use Rattle.live_actors.proofs.actors.tell_others.Goals as goal
use Rattle.live_actors.proofs.actors.tell_others.Goals.{then-other-member+in_ok-tell, else-other-member}

pub loop-other-preserved : goal.loop-other-preserved
loop-other-preserved g c =
    let progress = g.P.Places.progress in
    let octets = c.args.told.now in
    let n = c.loop-other.other in
    let first = progress c.args.places.now in
    let now = progress c.loop-other.places in
    elim c.if-other-member.branch [
      | then-other-member+in_ok-tell w ↦
          subst (λ places. Makes (tells (n + 1) c.args.member octets) first (progress places)) (sym w.places-is)
          (one_received c.args.member n octets first now (progress w.tell.new.self) c.loop-other.invariant
          w.if-other-member.true w.in_ok-tell.ensures)
      | else-other-member w ↦
          subst (λ places. Makes (tells (n + 1) c.args.member octets) first (progress places)) (sym w.places-is)
          (itself_passed c.args.member n octets first now now c.loop-other.invariant w.if-other-member.false)
    ]
