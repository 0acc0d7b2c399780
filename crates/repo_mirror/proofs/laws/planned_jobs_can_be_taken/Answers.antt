use Rattle.repo_mirror.proofs.PlannedLemmas.{planned_jobs_are_outcomes, rising_jobs_are_outcomes}
use Rattle.repo_mirror.proofs.laws.planned_jobs_can_be_taken.Goals as goal

pub returns-clause-planned : goal.returns-clause-planned
returns-clause-planned c = planned_jobs_are_outcomes

pub returns-clause-rising : goal.returns-clause-rising
returns-clause-rising c = rising_jobs_are_outcomes
