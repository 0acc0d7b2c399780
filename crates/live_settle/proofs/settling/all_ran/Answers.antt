use Rattle.std.proofs.Common.{List, sym, subst}
use Rattle.std.specs.List.{All}
use Rattle.std.proofs.lemmas.List.Elements.{All-head}
use Rattle.live_settle.specs.declared.ran.Ran.{Ran}
use Rattle.live_settle.specs.Ready.{IsJoined}
use Rattle.live_settle.proofs.Ending.{IsEnding, one_ended}
use Rattle.live_settle.proofs.settling.all_ran.Goals as goal

pub ran-requires : goal.ran-requires
ran-requires g c =
    let t = g.L.Lists.meaning in
    All-head (IsJoined t) c.in-Some.live _
    (subst (All (IsJoined t)) c.in-Some.ensures.steps.0 c.loop-live.invariant.joined)

pub loop-live-preserved : goal.loop-live-preserved
loop-live-preserved g c =
    let t = g.L.Lists.meaning in
    subst (λ (rans : List Ran). IsEnding t c.args.lives.items rans c.next.new.self.rest.items)
    (sym c.in_ok-push.ensures.items)
    (one_ended t c.args.lives.items c.loop-live.rans.items c.loop-live.live-iterator.rest.items
    c.next.new.self.rest.items c.in-Some.live c.ran.result c.loop-live.invariant c.in-Some.ensures.steps.0
    c.ran.ensures.journal c.ran.ensures.member c.ran.ensures.ran)
