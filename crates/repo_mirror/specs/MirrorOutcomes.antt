-- The result of a fetch that a mirror planned.
use Rattle.std.specs.Prelude.{◌≡◌, ℕ, ◌+◌, ◌<◌, Bool, true, List, [], ◌∷◌, map, take, Option, IfSome}
use Rattle.std.specs.List.{All, filter}
use Rattle.ndn_name.specs.Names.{Component}
use Rattle.repo_plan.specs.declared.part.Part.{Part}
use Rattle.sorted_lists.specs.SortedList.{Rises}
use Rattle.repo_plan.specs.Parts.{part_cmp}
use Rattle.repo_plan.specs.Plan.{is_wanted, wanted, unclaimed, is_after, attempts_of}
use Rattle.repo_object.specs.declared.job.Job.{Job}
use Rattle.repo_object.specs.Verdict.{CheckedPart}
use Rattle.repo_holdings.specs.HoldingsState.{held_plan}
use Rattle.repo_holdings.specs.Taking.{PartsDiffer}
use Rattle.repo_holdings.specs.Wanting.{want_at, job_at}
use Rattle.repo_member.specs.Groups.{GroupKeys}
use Rattle.repo_member.specs.Outcomes.{IsOutcomeOf, jobs_of}
use Rattle.repo_mirror.specs.MirrorState.{MirrorState, mirror_holdings, fetch_plan}

-- The jobs of the first parts after `after` that the mirror wants, at most `most` of them, by the names of the
-- publishers and their group.
abbrev pub planned_jobs : List (List Component) → List Component → MirrorState → Option Part → ℕ → List Job
planned_jobs publishers group m after most =
    map (job_at publishers group (mirror_holdings m)) (take most (filter (is_after after) (wanted (fetch_plan m))))

-- The jobs of the first parts after `after` that the mirror wants and that pass a test, at most `most` of them.
abbrev pub planned_jobs_that
    : (Part → Bool) → List (List Component) → List Component → MirrorState → Option Part → ℕ → List Job
planned_jobs_that test publishers group m after most =
    map (job_at publishers group (mirror_holdings m))
    (take most (filter test (filter (is_after after) (wanted (fetch_plan m)))))

-- A job of the mirror, with its result: its part is wanted, its want is the one that the mirror has of that part by the
-- names of publishers and their group, a packet that was received was checked for this want, and it was not tried too
-- often. Under which key it was checked isn't asked.
pub record IsFetchedFor (m : MirrorState) (job : Job) (part : Option CheckedPart) (n : ℕ) : Type 0 where
  pub publishers : List (List Component)
  pub group : List Component
  pub part_wanted : is_wanted (fetch_plan m) job.want.part ≡ true
  pub want : job.want ≡ want_at publishers group m.store job.want.part
  pub checked : IfSome part (λ c. c.want ≡ job.want)
  pub few : attempts_of (fetch_plan m) job.want.part + n < 2097152

-- The jobs, the parts and the attempts are lists of the same length, and at each place stands a job with its result.
abbrev pub AreFetchedFor : MirrorState → List Job → List (Option CheckedPart) → List ℕ → Type 0
AreFetchedFor m [] [] [] = Unit {0}
AreFetchedFor m (job ∷ jobs) (part ∷ parts) (n ∷ ns) = IsFetchedFor m job part n × AreFetchedFor m jobs parts ns
AreFetchedFor m _ _ _ = ⊥

-- The outcome of a fetch that the mirror planned, of different parts.
pub record IsMirrorOutcome (m : MirrorState) (jobs : List Job) (parts : List (Option CheckedPart)) (attempts : List ℕ)
    : Type 0 where
  pub apart : PartsDiffer (map (λ (job : Job). job.want.part) jobs)
  pub each : AreFetchedFor m jobs parts attempts

-- Each packet that was received was checked for its job's want, and no job was tried too often.
abbrev pub WereTriedFor : List Job → List (Option CheckedPart) → List ℕ → Type 0
WereTriedFor [] [] [] = Unit {0}
WereTriedFor (job ∷ jobs) (part ∷ parts) (n ∷ ns) =
    IfSome part (λ c. c.want ≡ job.want) × (job.base + n < 2097152) × WereTriedFor jobs parts ns
WereTriedFor _ _ _ = ⊥

-- Each result of planned jobs that satisfies `WereTriedFor` is an outcome that the mirror can take.
abbrev pub PlannedJobsAreOutcomes : Type 0
PlannedJobsAreOutcomes = (publishers : List (List Component)) (group : List Component) (m : MirrorState)
    (after : Option Part) (most : ℕ) (jobs : List Job) (parts : List (Option CheckedPart)) (attempts : List ℕ)
    → jobs ≡ planned_jobs publishers group m after most → WereTriedFor jobs parts attempts
    → IsMirrorOutcome m jobs parts attempts

-- Each result that satisfies `WereTriedFor` of the jobs of any wanted parts, in order, is an outcome that the mirror
-- can take.
abbrev pub RisingJobsAreOutcomes : Type 0
RisingJobsAreOutcomes = (publishers : List (List Component)) (group : List Component) (m : MirrorState)
    (ts : List Part) (parts : List (Option CheckedPart)) (attempts : List ℕ) → Rises part_cmp ts
    → All (λ t. is_wanted (fetch_plan m) t ≡ true) ts
    → WereTriedFor (map (job_at publishers group (mirror_holdings m)) ts) parts attempts
    → IsMirrorOutcome m (map (job_at publishers group (mirror_holdings m)) ts) parts attempts

-- In a group whose names and keys are known, the mirror plans the jobs that a holder with its holdings plans.
abbrev pub MirrorsPlanJobs : Type 0
MirrorsPlanJobs = (g : GroupKeys) (m : MirrorState) (after : Option Part) (most : ℕ)
    → planned_jobs g.members.names g.name m after most ≡ jobs_of g (mirror_holdings m) after most

-- The mirror plans the jobs that a holder with its holdings has of its wanted parts that pass a test.
abbrev pub MirrorsPlanJobsThat : Type 0
MirrorsPlanJobsThat = (test : Part → Bool) (g : GroupKeys) (m : MirrorState) (after : Option Part) (most : ℕ)
    → planned_jobs_that test g.members.names g.name m after most
    ≡ map (job_at g.members.names g.name (mirror_holdings m))
    (take most (filter test (filter (is_after after) (unclaimed (held_plan (mirror_holdings m))))))

-- An outcome that a holder with the mirror's holdings can take, the mirror can take too.
abbrev pub HolderOutcomesAreMirrors : Type 0
HolderOutcomesAreMirrors = (g : GroupKeys) (m : MirrorState) (jobs : List Job) (parts : List (Option CheckedPart))
    (attempts : List ℕ) → IsOutcomeOf g (mirror_holdings m) jobs parts attempts → IsMirrorOutcome m jobs parts attempts
