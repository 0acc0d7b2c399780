-- Jobs of a fetch that a member or a mirror planned, and which results of a fetch it can take.
use Rattle.std.specs.Prelude.{◌≡◌, ℕ, ◌+◌, ◌<◌, true, List, [], ◌∷◌, map, take, length, Option, option_map}
use Rattle.std.specs.Prelude.{unwrap_or, IfSome}
use Rattle.std.specs.List.{All, filter}
use Rattle.repo_plan.specs.declared.part.Part.{Part}
use Rattle.sorted_lists.specs.SortedList.{Rises}
use Rattle.repo_plan.specs.Parts.{part_cmp}
use Rattle.repo_plan.specs.Plan.{is_unclaimed, unclaimed, is_after, attempts_of}
use Rattle.repo_object.specs.declared.job.Job.{Job}
use Rattle.repo_object.specs.Wants.{WantedPart}
use Rattle.repo_object.specs.Verdict.{CheckedPart, publisher_key}
use Rattle.repo_member.specs.Groups.{GroupKeys, HaveKeys}
use Rattle.repo_member.specs.MemberState.{MemberState, IsOfGroup, member_holdings}
use Rattle.repo_holdings.specs.HoldingsState.{HoldingsState, held_plan}
use Rattle.repo_holdings.specs.Taking.{Fetched, PartsDiffer}
use Rattle.repo_holdings.specs.Wanting.{want_at, job_at}

-- the job of part `t`: the member's want of it, and the number of attempts that were made for it so far
abbrev pub job_for : GroupKeys → MemberState → Part → Job
job_for g a t = job_at g.members.names g.name (member_holdings a) t

-- for each job its part, the packet that was received for it, if any, and how often it was tried
abbrev pub outcome_of : List Job → List (Option CheckedPart) → List ℕ → List Fetched
outcome_of (job ∷ jobs) (part ∷ parts) (n ∷ ns) =
    record { part = job.want.part; packet = option_map (λ c. c.octets) part; attempts = n } ∷ outcome_of jobs parts ns
outcome_of _ _ _ = []

-- how many octets were received for a job: 0 if no packet was
abbrev pub octets_in : Option CheckedPart → ℕ
octets_in part = length (unwrap_or (option_map (λ c. c.octets) part) [])

-- the packet `c` was checked for `want`, under the key that the group has for its publisher
pub record IsCheckedFor (g : GroupKeys) (want : WantedPart) (c : CheckedPart) : Type 0 where
  pub same : c.want ≡ want
  pub key_name : c.key_name ≡ (publisher_key g.members.ring want).name
  pub key : c.key ≡ (publisher_key g.members.ring want).key

-- a job of the holder `h`, with its result: its part is wanted and unclaimed, its want is the one that `h` has of that
-- part by the names of the group, a packet that was received was checked for this want, and all attempts, with the `n`
-- of this fetch, are fewer than 2,097,152
pub record IsFetchedOf (g : GroupKeys) (h : HoldingsState) (job : Job) (part : Option CheckedPart) (n : ℕ) : Type 0
  where
    pub unclaimed : is_unclaimed (held_plan h) job.want.part ≡ true
    pub wanted : job.want ≡ want_at g.members.names g.name h.store job.want.part
    pub checked : IfSome part (IsCheckedFor g job.want)
    pub few : attempts_of (held_plan h) job.want.part + n < 2097152

-- the jobs, `parts` and `ns` have the same length, and at each place stands a job of the holder `h` with its result
abbrev pub AreFetchedOf : GroupKeys → HoldingsState → List Job → List (Option CheckedPart) → List ℕ → Type 0
AreFetchedOf g h [] [] [] = Unit {0}
AreFetchedOf g h (job ∷ jobs) (part ∷ parts) (n ∷ ns) = IsFetchedOf g h job part n × AreFetchedOf g h jobs parts ns
AreFetchedOf g h _ _ _ = ⊥

-- the outcome of a fetch that the holder `h` planned: its jobs are of different parts, and each has its result
pub record IsOutcomeOf (g : GroupKeys) (h : HoldingsState) (jobs : List Job) (parts : List (Option CheckedPart))
    (attempts : List ℕ) : Type 0 where
  pub apart : PartsDiffer (map (λ (job : Job). job.want.part) jobs)
  pub each : AreFetchedOf g h jobs parts attempts

-- a job of a member, with its result
abbrev pub IsFetched : GroupKeys → MemberState → Job → Option CheckedPart → ℕ → Type 0
IsFetched g a job part n = IsFetchedOf g (member_holdings a) job part n

-- the jobs, `parts` and `ns` have the same length, and at each place stands a job of the member with its result
abbrev pub AreFetched : GroupKeys → MemberState → List Job → List (Option CheckedPart) → List ℕ → Type 0
AreFetched g a jobs parts ns = AreFetchedOf g (member_holdings a) jobs parts ns

-- the outcome of a fetch that the member planned
abbrev pub IsOutcome : GroupKeys → MemberState → List Job → List (Option CheckedPart) → List ℕ → Type 0
IsOutcome g a jobs parts attempts = IsOutcomeOf g (member_holdings a) jobs parts attempts

-- ---- jobs that were planned

-- a job that the holder `h` planned: its part is wanted and unclaimed, and of a member that the ring has a key of; its
-- want is the one that `h` has of that part by the names of the group; and its attempts go on from those that were made
pub record IsJobOf (g : GroupKeys) (h : HoldingsState) (job : Job) : Type 0 where
  pub unclaimed : is_unclaimed (held_plan h) job.want.part ≡ true
  pub publisher : job.want.part.publisher < length g.members.ring
  pub wanted : job.want ≡ want_at g.members.names g.name h.store job.want.part
  pub base : job.base ≡ attempts_of (held_plan h) job.want.part

-- jobs that the holder `h` planned, of different parts
pub record AreJobsOf (g : GroupKeys) (h : HoldingsState) (jobs : List Job) : Type 0 where
  pub apart : PartsDiffer (map (λ (job : Job). job.want.part) jobs)
  pub each : All (IsJobOf g h) jobs

-- the jobs of the first parts after `after` that the holder `h` wants and no fetcher claims, at most `most` of them
abbrev pub jobs_of : GroupKeys → HoldingsState → Option Part → ℕ → List Job
jobs_of g h after most =
    map (job_at g.members.names g.name h) (take most (filter (is_after after) (unclaimed (held_plan h))))

-- jobs that a member planned, of different parts
abbrev pub ArePlannedJobs : GroupKeys → MemberState → List Job → Type 0
ArePlannedJobs g a jobs = AreJobsOf g (member_holdings a) jobs

-- the jobs of the first parts after `after` that the member wants and no fetcher claims, at most `most` of them
abbrev pub jobs_after : GroupKeys → MemberState → Option Part → ℕ → List Job
jobs_after g a after most = jobs_of g (member_holdings a) after most

-- each packet that was received was checked for its job's want, and no job was tried too often
abbrev pub WereChecked : GroupKeys → List Job → List (Option CheckedPart) → List ℕ → Type 0
WereChecked g [] [] [] = Unit {0}
WereChecked g (job ∷ jobs) (part ∷ parts) (n ∷ ns) =
    IfSome part (IsCheckedFor g job.want) × (job.base + n < 2097152) × WereChecked g jobs parts ns
WereChecked g _ _ _ = ⊥

-- the jobs that `jobs_of` gives are jobs that the holder `h` planned
abbrev pub HolderJobsArePlanned : Type 0
HolderJobsArePlanned = (g : GroupKeys) (h : HoldingsState) (after : Option Part) (most : ℕ) → HaveKeys g.members
    → length g.members.names ≡ length h.known → AreJobsOf g h (jobs_of g h after most)

-- the jobs of any parts `ts`, in order, that the holder `h` wants and no fetcher claims are jobs that it planned
abbrev pub RisingJobsArePlanned : Type 0
RisingJobsArePlanned = (g : GroupKeys) (h : HoldingsState) (ts : List Part) → HaveKeys g.members
    → length g.members.names ≡ length h.known → Rises part_cmp ts
    → All (λ t. is_unclaimed (held_plan h) t ≡ true) ts → AreJobsOf g h (map (job_at g.members.names g.name h) ts)

-- each result of planned jobs that satisfies `WereChecked` is an outcome that the holder `h` can take
abbrev pub HolderJobsAreOutcomes : Type 0
HolderJobsAreOutcomes = (g : GroupKeys) (h : HoldingsState) (jobs : List Job) (parts : List (Option CheckedPart))
    (attempts : List ℕ) → AreJobsOf g h jobs → WereChecked g jobs parts attempts → IsOutcomeOf g h jobs parts attempts

-- the jobs that `jobs_after` gives are jobs that the member planned
abbrev pub JobsArePlanned : Type 0
JobsArePlanned = (g : GroupKeys) (a : MemberState) (after : Option Part) (most : ℕ) → HaveKeys g.members → IsOfGroup g a
    → ArePlannedJobs g a (jobs_after g a after most)

-- each result of a member's planned jobs that satisfies `WereChecked` is an outcome that it can take
abbrev pub PlannedJobsAreOutcomes : Type 0
PlannedJobsAreOutcomes = (g : GroupKeys) (a : MemberState) (jobs : List Job) (parts : List (Option CheckedPart))
    (attempts : List ℕ) → ArePlannedJobs g a jobs → WereChecked g jobs parts attempts
    → IsOutcome g a jobs parts attempts
