use Rattle.std.proofs.Common.{◌≡◌, ◌+◌, ◌++◌, map, length}
use Rattle.live_group.specs.Jobs.{actor_of, all_tickets}
use Rattle.live_group.proofs.ticketed.all_ticketed.Given as goal

abbrev pub invariant-loop-job : goal.invariant-loop-job
invariant-loop-job g l =
    (map (λ t. t.job) l.ticketed.items ++ l.job-iterator.rest.items ≡ l.fn.jobs.items)
    × (l.all.parts + length l.ticketed.items ≡ l.initial.all.parts)
    × (l.all.amount + all_tickets l.turns (map actor_of (map (λ t. t.job) l.ticketed.items)) ≡ l.initial.all.amount)
