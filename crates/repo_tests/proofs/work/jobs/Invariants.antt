use Rattle.std.proofs.Common.{All}
use Rattle.fetch_work.specs.Attempts.{CanBeTried}
use Rattle.repo_tests.proofs.work.jobs.Given as goal

abbrev pub invariant-loop-seq : goal.invariant-loop-seq
invariant-loop-seq g l = All (λ job. CanBeTried 1 5 job) l.jobs.items
