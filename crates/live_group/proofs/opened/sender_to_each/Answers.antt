use Rattle.std.proofs.Common.{◌+◌, length, set, sym, ap, ◌∙◌, subst, arith}
use Rattle.live_group.specs.Senders.{OpenedView}
use Rattle.live_group.proofs.Dealing.{AreDealt, one_dealt}
use Rattle.live_group.proofs.opened.sender_to_each.Goals as goal

pub loop-i-preserved : goal.loop-i-preserved
loop-i-preserved g c =
    let at = c.index-inboxes-i.is in
    let told = c.in_ok-sender.ensures in
    subst
    (AreDealt (c.loop-i.i + 1) c.args.inboxes.now (set c.loop-i.inboxes c.loop-i.i c.sender.new.self))
    (sym c.in_ok-push.ensures.items)
    (one_dealt c.loop-i.i c.args.inboxes.now c.loop-i.inboxes c.loop-i.senders.items c.index-inboxes-i.result
    c.sender.new.self c.in_ok-sender.field-0 c.loop-i.invariant (omega arith) at
    (told.sender ∙ ap (λ (o : OpenedView). o.inbox) (sym at))
    (told.inbox ∙ ap (λ (o : OpenedView). o.inbox) (sym at))
    (told.ports ∙ ap (λ (o : OpenedView). length o.ports) (sym at)))
