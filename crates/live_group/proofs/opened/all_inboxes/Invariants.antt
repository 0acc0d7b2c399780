use Rattle.live_group.proofs.Dealing.{AreOpen}
use Rattle.live_group.proofs.opened.all_inboxes.Given as goal

abbrev pub invariant-loop-member : goal.invariant-loop-member
invariant-loop-member g l = AreOpen l.members l._member l.inboxes.items l.ears.items
