use Rattle.std.proofs.Common.{◌≡◌, List, map, sym, ap, subst}
use Rattle.std.specs.List.{All}
use Rattle.std.proofs.lemmas.List.Elements.{All-push}
use Rattle.live_member.specs.Lives.{Living}
use Rattle.live_group.specs.Outs.{OutView, IsOut}
use Rattle.live_group.proofs.TakingOut.{AreOut, one_out}
use Rattle.live_group.proofs.Tickets.{first_of, others_of}
use Rattle.live_group.proofs.running.all_placed.Goals as goal

pub loop-out-preserved : goal.loop-out-preserved
loop-out-preserved g c =
    let t = g.L.Lists.meaning in
    let numbers = λ (os : List OutView). map (λ (o : OutView). o.number) os in
    let seats = numbers c.args.outs.items in
    let rest = c.loop-out.out-iterator.rest.items in
    let later = c.next.new.self.rest.items in
    let is = c.loop-out.invariant in
    let lives = c.loop-out.lives.items in (
      subst (λ (ls : List Living). AreOut t seats ls (numbers later)) (sym c.in_ok-push.ensures.items)
          (one_out t seats lives (numbers rest) (numbers later) c.in-Some.out.number c.in_ok-placed.field-0 is.0
          (ap numbers c.in-Some.ensures.steps.0) c.in_ok-placed.ensures.number c.in_ok-placed.ensures.live
          c.in_ok-placed.ensures.room),
      subst (All (IsOut t g.L.Run.turns)) (sym c.in_ok-push.ensures.items)
          (All-push (IsOut t g.L.Run.turns) lives c.in_ok-placed.field-0 is.1 c.in_ok-placed.ensures.out),
      others_of (λ (o : OutView). o.left ≡ 0) rest later c.in-Some.out c.in-Some.ensures.steps.0 is.2,
    )

pub placed-requires-clause-none_left : goal.placed-requires-clause-none_left
placed-requires-clause-none_left g c =
    first_of (λ (o : OutView). o.left ≡ 0) c.loop-out.out-iterator.rest.items c.next.new.self.rest.items c.in-Some.out
    c.in-Some.ensures.steps.0 c.loop-out.invariant.2
