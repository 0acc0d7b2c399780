use Rattle.std.proofs.Common.{◌+◌, List, [], ◌∷◌, ◌++◌, sym, subst}
use Rattle.live_group.specs.Senders.{ReceiverView, OpenedView}
use Rattle.live_group.proofs.Dealing.{AreOpen, one_open}
use Rattle.live_group.proofs.opened.all_inboxes.Goals as goal

pub loop-member-preserved : goal.loop-member-preserved
loop-member-preserved g c =
    let n = c.loop-member._member in
    let opened = c.loop-member.inboxes.items in
    let ears = c.loop-member.ears.items in
    let o = c.in_ok-opened.opened in
    let e = c.in_ok-opened.receiver in
    subst (λ (os : List OpenedView). AreOpen c.args.members (n + 1) os c.push-in-loop-member.new.self.items)
    (sym c.in_ok-push.ensures.items)
    (subst (λ (es : List ReceiverView). AreOpen c.args.members (n + 1) (opened ++ o ∷ []) es)
    (sym c.in_ok-push-2.ensures.items)
    (one_open c.args.members n opened ears o e c.loop-member.invariant c.in_ok-opened.ensures.inbox
    c.in_ok-opened.ensures.capacity c.in_ok-opened.ensures.ports))
