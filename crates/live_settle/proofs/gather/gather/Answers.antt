use Rattle.std.proofs.Common.{arith}
use Rattle.live_settle.proofs.Passes.{no_turn, turns_end}
use Rattle.live_settle.proofs.Places.{ready_still}
use Rattle.live_settle.proofs.gather.gather.Goals as goal

pub loop-init : goal.loop-init
loop-init g c = no_turn g.L.Lists.meaning c.args.j c.args.lives.now c.requires.can.gathering

pub turn-requires-clause-can : goal.turn-requires-clause-can
turn-requires-clause-can g c =
    let is = c.loop.invariant in
    let can = c.requires.can in
    record {
      ready =
          ready_still c.args.j c.args.lives.now c.loop.lives is.only g.L.Lists.meaning can.there can.ready
          is.gathering.ready;
      there = omega (arith, can.there, is.only.width);
      gathering = is.gathering;
    }

pub turn-requires-clause-room : goal.turn-requires-clause-room
turn-requires-clause-room g c =
    let is = c.loop.invariant in
    let few = turns_end g.L.Lists.meaning c.args.j _ c.args.lives.now c.loop.lives is in
    omega (arith, few, is.few, c.requires.room)
