-- The counts of fetches.
use Rattle.std.specs.Prelude.{ℕ, ◌≡◌, List, Option, length, is_some, count_by, sum_by}
use Rattle.repo_object.specs.Verdict.{CheckedPart}
use Rattle.group_model.specs.World.{World, Environment, logs}
use Rattle.group_model.specs.Steps.{planned_parts, fetched_parts, attempts_made}
use Rattle.repo_member.specs.declared.member.outcome.FetchCounts.{FetchCounts}
use Rattle.repo_member.specs.Groups.{GroupKeys}
use Rattle.repo_member.specs.Outcomes.{octets_in}
use Rattle.bench_world.specs.Sizes.{size_of}
use Rattle.bench_world.specs.declared.fetch.FetchReport.{FetchReport}

-- The counts `kept` are those of the packets in `came`, and of their octets.
pub record AreCountsOf (came : List (Option CheckedPart)) (kept : FetchCounts) : Type 0 where
  pub parts : kept.parts ≡ count_by is_some came
  pub octets : kept.octets ≡ sum_by octets_in came

-- The report `r` has the counts of the model's fetch by member `j`: the parts that were asked for, the parts that were
-- received and their octets, and the attempts.
pub record AreFetchCounts (g : GroupKeys) (env : Environment) (w : World) (j tries loss : ℕ) (r : FetchReport) : Type
    0 where
  pub planned : r.planned ≡ length (planned_parts w j)
  pub parts : r.kept.parts ≡ length (fetched_parts env w j tries loss)
  pub octets : r.kept.octets ≡ sum_by (size_of g (logs w)) (fetched_parts env w j tries loss)
  pub attempts : r.attempts ≡ attempts_made env w j tries loss
