use Rattle.std.proofs.Common.{sym}
use Rattle.repo_tests.proofs.mirror.take_first.Goals as goal

pub take_outcome-came-requires : goal.take_outcome-came-requires
take_outcome-came-requires g c = record {
  outcome =
      c.requires.outcome c.in_ok-job.job.now c.checked-part.result (sym c.in_ok-job.ensures.value)
      c.checked-part.ensures;
}
