use Rattle.std.proofs.Common.{List, [], ◌∷◌, length, ap, arith}
use Rattle.std.proofs.lemmas.List.{length-append}
use Rattle.live_group.specs.Desks.{tickets_each}
use Rattle.live_group.specs.Outs.{OutView}
use Rattle.live_group.proofs.Tickets.{out_more, moved_over}
use Rattle.live_group.proofs.running.all_out.Goals as goal

pub loop-seat-preserved : goal.loop-seat-preserved
loop-seat-preserved g c =
    let is = c.loop-seat.invariant in
    let outs = c.loop-seat.outs.items in
    let o = c.out.result in
    let more = ap (λ (os : List OutView). length os) c.in_ok-push.ensures.items in
    let long = length-append outs (o ∷ []) in (
      moved_over (λ (o : OutView). o.number) outs c.push.new.self.items o c.in-Some.seat
          c.loop-seat.seat-iterator.rest.items c.next.new.self.rest.items c.args.seats.items c.in_ok-push.ensures.items
          c.out.ensures.number is.0 c.in-Some.ensures.steps.0,
      omega (arith, is.1, c.out.ensures.parts, more, long),
      out_more outs c.push.new.self.items o (tickets_each g.L.Run.turns) c.loop-seat.all.amount c.out.new.all.amount
          c.args.all.now.amount c.in_ok-push.ensures.items is.2 c.out.ensures.amount,
    )
