-- The laws and lemmas that crates above may cite.
pub use Rattle.repo_mirror.proofs.PlannedLemmas.{planned_jobs_are_outcomes, rising_jobs_are_outcomes}
pub use Rattle.repo_mirror.proofs.PlannedLemmas.{mirrors_plan_jobs, mirrors_plan_jobs_that}
pub use Rattle.repo_mirror.proofs.PlannedLemmas.{holder_outcomes_are_mirrors}
pub use Rattle.repo_mirror.proofs.HolderLemmas.{mirror_is_holder}
pub use Rattle.repo_mirror.proofs.GroupLemmas.{mirrors_plan_alike, mirrors_want_alike, mirrors_list_alike}
pub use Rattle.repo_mirror.proofs.GroupLemmas.{mirrors_begin_consistent, mirrors_learn_consistent}
pub use Rattle.repo_mirror.proofs.GrownLemmas.{mirrors_grow_consistent}
pub use Rattle.repo_mirror.proofs.ConsistentLemmas.{mirrors_take_consistent}
pub use Rattle.repo_mirror.proofs.AskedLemmas.{length-asked}
