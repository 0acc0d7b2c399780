use Rattle.live_group.proofs.Dealing.{AreDealt}
use Rattle.live_group.proofs.opened.sender_to_each.Given as goal

abbrev pub invariant-loop-i : goal.invariant-loop-i
invariant-loop-i g l = AreDealt l.i l.initial.inboxes l.inboxes l.senders.items
