use Rattle.live_group.proofs.Dealing.{inboxes_of}
use Rattle.live_group.proofs.Wiring.{AreWired}
use Rattle.live_group.proofs.jobs.all_jobs.Given as goal

abbrev pub invariant-loop-receiver : goal.invariant-loop-receiver
invariant-loop-receiver g l =
    AreWired l.members l.member (inboxes_of l.initial.inboxes.items) l.inboxes.items l.jobs.items
    l.receiver-iterator.rest.items
