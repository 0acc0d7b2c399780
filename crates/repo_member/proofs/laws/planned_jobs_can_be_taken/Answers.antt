use Rattle.repo_member.proofs.OutcomeLemmas.{holder_jobs_are_planned, rising_jobs_are_planned, holder_jobs_are_outcomes}
use Rattle.repo_member.proofs.OutcomeLemmas.{jobs_are_planned, planned_jobs_are_outcomes}
use Rattle.repo_member.proofs.laws.planned_jobs_can_be_taken.Goals as goal

pub returns-clause-holders : goal.returns-clause-holders
returns-clause-holders c = holder_jobs_are_planned

pub returns-clause-rising : goal.returns-clause-rising
returns-clause-rising c = rising_jobs_are_planned

pub returns-clause-taken : goal.returns-clause-taken
returns-clause-taken c = holder_jobs_are_outcomes

pub returns-clause-planned : goal.returns-clause-planned
returns-clause-planned c = jobs_are_planned

pub returns-clause-outcomes : goal.returns-clause-outcomes
returns-clause-outcomes c = planned_jobs_are_outcomes
