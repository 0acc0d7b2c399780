use Rattle.repo_mirror.proofs.HolderLemmas.{mirror_is_holder}
use Rattle.repo_mirror.proofs.PlannedLemmas.{mirrors_plan_jobs, mirrors_plan_jobs_that, holder_outcomes_are_mirrors}
use Rattle.repo_mirror.proofs.laws.mirrors_are_holders.Goals as goal

pub returns-clause-holders : goal.returns-clause-holders
returns-clause-holders c = mirror_is_holder

pub returns-clause-jobs : goal.returns-clause-jobs
returns-clause-jobs c = mirrors_plan_jobs

pub returns-clause-passing : goal.returns-clause-passing
returns-clause-passing c = mirrors_plan_jobs_that

pub returns-clause-outcomes : goal.returns-clause-outcomes
returns-clause-outcomes c = holder_outcomes_are_mirrors
