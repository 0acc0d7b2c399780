-- A phase, from the code's values.
use Rattle.std.proofs.Common.{◌≡◌, ℕ, ◌≤◌, Bool, true, false, cond, List, [], ◌∷◌, map, length, replicate, Option, Some}
use Rattle.std.proofs.Common.{None, refl, sym, ap, ◌∙◌, subst, arith}
use Rattle.std.specs.Prelude.{is_some, unwrap_or, filter, count_by, sum_by, slice_get, slice_index_or}
use Rattle.std.specs.List.{All}
use Rattle.std.proofs.lemmas.List.{length-map, length-replicate}
use Rattle.std.proofs.lemmas.List.Sums.{length-filter}
use Rattle.std.proofs.lemmas.Bool.{and_parts}
use Rattle.ndn_sign.specs.Ring.{NamedKey}
use Rattle.repo_plan.specs.declared.part.Part.{Part}
use Rattle.sorted_lists.specs.SortedList.{contains}
use Rattle.repo_plan.specs.Parts.{part_cmp}
use Rattle.repo_plan.specs.Plan.{is_wanted, is_unclaimed}
use Rattle.repo_plan.proofs.Orders.{exact_parts}
use Rattle.sorted_lists.proofs.Sets.{In, from_map, contains_in}
use Rattle.repo_object.specs.declared.job.Job.{Job}
use Rattle.repo_object.specs.Verdict.{CheckedPart}
use Rattle.fetch_work.specs.Attempts.{CanBeTried}
use Rattle.fetch_work.specs.Phases.{AreFirst}
use Rattle.group_model.specs.Publications.{Logs, all_parts}
use Rattle.group_model.proofs.Among.{in_all_parts}
use Rattle.repo_member.specs.Groups.{GroupKeys}
use Rattle.repo_holdings.specs.HoldingsState.{HoldingsState, held_plan}
use Rattle.repo_holdings.specs.Taking.{Fetched}
use Rattle.repo_holdings.specs.Wanting.{job_at}
use Rattle.repo_member.specs.MemberState.{MemberState}
use Rattle.repo_member.specs.InGroup.{AreLogs, published_packet, parts_fetched}
use Rattle.repo_member.specs.Outcomes.{outcome_of, octets_in, AreJobsOf, IsOutcomeOf}
use Rattle.repo_member.specs.ConsistentHolders.{IsConsistentHolder}
use Rattle.repo_member.proofs.PublicLaws.{holders_want_published, rising_jobs_are_planned, holder_jobs_are_outcomes}
use Rattle.bench_world.specs.Worlds.{AreConsistentMembers}
use Rattle.bench_world.specs.Truth.{TriedFew}
use Rattle.bench_world.specs.Sizes.{size_of}
use Rattle.bench_world.specs.Lending.{lent, lends, attempt_passes, lent_answer}
use Rattle.bench_world.specs.Gathering.{lent_one, lent_all}
use Rattle.bench_world.specs.Fetching.{attempt_at, fetched_one, fetched_all}
use Rattle.bench_world.proofs.NextParts.{AreAsked, all_from_in, from_slice_get}
use Rattle.bench_world.proofs.PhaseOutcomes.{lends_consistent, were_tried, none_counted, first_lengths, counted}
use Rattle.bench_world.proofs.PhaseOutcomes.{octets_sum}
use Rattle.bench_world.proofs.PhaseOutcomes.{fetched_is, lent_is, came_lent, want_part}

-- If a packet that is passed on under a condition is there, it is that packet.
pub from_packet : (b : Bool) (o : Option (List ℕ)) (octets : List ℕ) → cond b o None ≡ Some octets → o ≡ Some octets
from_packet true o octets e = e
from_packet false o octets e = absurd cc

-- The outcome of a fetch's phase, and how often each part was tried.
pub record FetchComes (g : GroupKeys) (logs : Logs) (h : HoldingsState) (came : List Fetched) (jobs : List Job)
    (values : List (Option CheckedPart)) (counts : List ℕ) : Type 0 where
  pub outcome : IsOutcomeOf g h jobs values counts
  pub is : outcome_of jobs values counts ≡ came
  pub parts : count_by is_some values ≡ length (parts_fetched came)
  pub octets : sum_by octets_in values ≡ sum_by (size_of g logs) (parts_fetched came)
  pub attempts : counts ≡ map (λ (x : Fetched). x.attempts) came
  pub many : length counts ≡ length jobs

-- The outcome of a phase of a settle, in which no attempt is counted.
pub record GatherComes (g : GroupKeys) (logs : Logs) (h : HoldingsState) (others : List MemberState) (ts : List Part)
    (jobs : List Job) (values : List (Option CheckedPart)) (zeros : List ℕ) : Type 0 where
  pub outcome : IsOutcomeOf g h jobs values zeros
  pub is : outcome_of jobs values zeros ≡ lent_all others ts
  pub parts : count_by is_some values ≡ length ts
  pub octets : sum_by octets_in values ≡ sum_by (size_of g logs) ts

module _ (passes : ℕ → ℕ → ℕ → ℕ → ℕ → ℕ → Bool) (g : GroupKeys) (logs : Logs) (h : HoldingsState)
    (others : List MemberState)
    (asker : ℕ) (loss : Option ℕ) (are : AreLogs g logs) (consistent : IsConsistentHolder g logs h)
    (all : AreConsistentMembers g logs others)
    (tried : TriedFew h) (ts : List Part) (asks : AreAsked h ts) (jobs : List Job)
    (jobs_are : jobs ≡ map (job_at g.members.names g.name h) ts) (ring : List NamedKey)
    (ring_is : ring ≡ g.members.ring) where
  planned : AreJobsOf g h jobs
  planned =
      subst (AreJobsOf g h) (sym jobs_are)
      (rising_jobs_are_planned g h ts are.group.members (sym (consistent.vector.width ∙ are.width)) asks.rise
      (all_from_in (λ t. is_unclaimed (held_plan h) t ≡ true) ts asks.unclaimed))

  wanted : (t : Part) → In t ts → is_wanted (held_plan h) t ≡ true
  wanted t i = (and_parts (is_wanted (held_plan h) t) _ (asks.unclaimed t i)).0

  pub few_jobs : length jobs ≤ 4096
  few_jobs =
      let e : length jobs ≡ length ts = ap length jobs_are ∙ length-map ts (job_at g.members.names g.name h) in
      let few = asks.few in
      omega (arith, e, few)

  pub count_jobs : length jobs ≡ length ts
  count_jobs = ap length jobs_are ∙ length-map ts (job_at g.members.names g.name h)

  can_be_tried_here : (tries : ℕ) → tries ≤ 16 → All (CanBeTried (length g.members.ring) tries) jobs
  can_be_tried_here tries few k d l =
      let job = planned.each k d l in
      let most = tried (slice_index_or jobs k d).want.part in
      record { known = job.publisher; few = omega (arith, job.base, few, most) }

  pub can_be_tried : (tries : ℕ) → tries ≤ 16 → All (CanBeTried (length ring) tries) jobs
  can_be_tried tries few =
      subst (λ (r : List NamedKey). All (CanBeTried (length r) tries) jobs) (sym ring_is) (can_be_tried_here tries few)

  pub planned_place : (job : Job) (k : ℕ) → slice_get jobs k ≡ Some job
      → contains part_cmp ts job.want.part ≡ true
  planned_place job k at =
      let among : In job (map (job_at g.members.names g.name h) ts) =
      from_slice_get (map (job_at g.members.names g.name h) ts) k job
      (ap (λ (js : List Job). slice_get js k) (sym jobs_are) ∙ at) in
      let r : (t : Part) × (In t ts) × (job ≡ job_at g.members.names g.name h t) =
      from_map (job_at g.members.names g.name h) ts job among in
      ap (contains part_cmp ts) (ap (λ (j : Job). j.want.part) r.2 ∙ want_part g h r.0)
      ∙ contains_in exact_parts ts r.0 r.1

  -- A wanted part has the size of what is lent of it.
  size_lent : (t : Part) (octets : List ℕ) → In t ts → lent others t ≡ Some octets
      → size_of g logs t ≡ length octets
  size_lent t octets i e =
      let there : contains part_cmp (all_parts logs) t ≡ true =
      contains_in exact_parts (all_parts logs) t
      (in_all_parts logs t (holders_want_published g logs h t are consistent (wanted t i))) in
      ap (λ (b : Bool). cond b (length (unwrap_or (published_packet g logs t) [])) 0) there
      ∙ ap (λ (o : Option (List ℕ)). length (unwrap_or o [])) (lends_consistent g logs others all t octets e)

  module _ (tries : ℕ) (few : tries ≤ 16) (asked : List Job)
      (asked_are : asked ≡ map (job_at g.members.names g.name h) ts) (parts values : List (Option CheckedPart))
      (values_are : values ≡ parts) (ns counts : List ℕ) (counts_are : counts ≡ ns)
      (first : AreFirst (lent_answer passes others asker loss) ring tries asked parts ns) where
    first_here : AreFirst (lent_answer passes others asker loss) g.members.ring tries jobs values counts
    first_here =
        subst (λ (cs : List ℕ). AreFirst (lent_answer passes others asker loss) g.members.ring tries jobs values cs)
        (sym counts_are)
        (subst (λ (vs : List (Option CheckedPart)).
        AreFirst (lent_answer passes others asker loss) g.members.ring tries jobs vs ns) (sym values_are)
        (subst (λ (js : List Job). AreFirst (lent_answer passes others asker loss) g.members.ring tries js parts ns)
        (asked_are ∙ sym jobs_are)
        (subst (λ (r : List NamedKey). AreFirst (lent_answer passes others asker loss) r tries asked parts ns) ring_is
        first)))

    first_planned : AreFirst (lent_answer passes others asker loss) g.members.ring tries
        (map (job_at g.members.names g.name h) ts) values counts
    first_planned =
        subst (λ (js : List Job). AreFirst (lent_answer passes others asker loss) g.members.ring tries js values counts)
        jobs_are first_here

    count_attempts : length counts ≡ length jobs
    count_attempts = (first_lengths (lent_answer passes others asker loss) g tries jobs values counts first_here).1

    count_parts : length values ≡ length jobs
    count_parts = (first_lengths (lent_answer passes others asker loss) g tries jobs values counts first_here).0

    -- ---- a fetch

    fetch_outcome : IsOutcomeOf g h jobs values counts
    fetch_outcome =
        holder_jobs_are_outcomes g h jobs values counts planned
        (were_tried (lent_answer passes others asker loss) g tries jobs values counts (can_be_tried_here tries few)
        first_here)

    fetch_is : outcome_of jobs values counts
        ≡ fetched_all (attempt_passes passes asker loss) others tries h ts
    fetch_is =
        ap (λ (js : List Job). outcome_of js values counts) jobs_are
        ∙ fetched_is passes g logs h others asker loss are consistent all tries ts wanted values counts
        first_planned

    fetch_parts : count_by is_some values
        ≡ length (parts_fetched (fetched_all (attempt_passes passes asker loss) others tries h ts))
    fetch_parts =
        sym (length-filter is_some values)
        ∙ counted jobs values counts count_parts count_attempts
        ∙ ap (λ (xs : List Fetched). length (parts_fetched xs)) fetch_is

    fetch_octets : sum_by octets_in values
        ≡ sum_by (size_of g logs)
        (parts_fetched (fetched_all (attempt_passes passes asker loss) others tries h ts))
    fetch_octets =
        octets_sum (size_of g logs) jobs values counts count_parts count_attempts (λ x octets i e.
        let r =
        from_map (fetched_one (attempt_passes passes asker loss) others tries h) ts x
        (subst (In x) fetch_is i) in
        ap (size_of g logs) (ap (λ (y : Fetched). y.part) r.2)
        ∙ size_lent r.0 octets r.1
        (from_packet (is_some (attempt_at (attempt_passes passes asker loss) others tries h r.0)) (lent others r.0)
        octets (sym (ap (λ (y : Fetched). y.packet) r.2) ∙ e)))
        ∙ ap (λ (xs : List Fetched). sum_by (size_of g logs) (parts_fetched xs)) fetch_is

    fetch_attempts : counts
        ≡ map (λ (x : Fetched). x.attempts)
        (fetched_all (attempt_passes passes asker loss) others tries h ts)
    fetch_attempts =
        attempts_in jobs values counts count_parts count_attempts
        ∙ ap (map (λ (x : Fetched). x.attempts)) fetch_is where
          attempts_in : (js : List Job) (ps : List (Option CheckedPart)) (cs : List ℕ) → length ps ≡ length js
              → length cs ≡ length js → cs ≡ map (λ (x : Fetched). x.attempts) (outcome_of js ps cs)
          attempts_in [] [] [] e f = refl
          attempts_in [] [] (c ∷ cs) e f = absurd (omega (arith, f))
          attempts_in [] (p ∷ ps) cs e f = absurd (omega (arith, e))
          attempts_in (j ∷ js) [] cs e f = absurd (omega (arith, e))
          attempts_in (j ∷ js) (p ∷ ps) [] e f = absurd (omega (arith, f))
          attempts_in (j ∷ js) (p ∷ ps) (c ∷ cs) e f =
              ap (λ (xs : List ℕ). c ∷ xs) (attempts_in js ps cs (omega (arith, e)) (omega (arith, f)))

    pub fetch_comes : FetchComes g logs h
        (fetched_all (attempt_passes passes asker loss) others tries h ts) jobs values counts
    fetch_comes = record {
      outcome = fetch_outcome;
      is = fetch_is;
      parts = fetch_parts;
      octets = fetch_octets;
      attempts = fetch_attempts;
      many = count_attempts;
    }

  -- ---- a phase of a settle

  module _ (none : loss ≡ None) (all_come : filter (lends others) ts ≡ ts) (asked : List Job)
      (asked_are : asked ≡ map (job_at g.members.names g.name h) ts) (parts values : List (Option CheckedPart))
      (values_are : values ≡ parts) (ns : List ℕ)
      (first : AreFirst (lent_answer passes others asker loss) ring 1 asked parts ns) (zeros : List ℕ)
      (zeros_are : zeros ≡ replicate (length jobs) 0) where
    count_zeros : length zeros ≡ length jobs
    count_zeros = ap length zeros_are ∙ length-replicate (length jobs) 0

    gather_outcome : IsOutcomeOf g h jobs values zeros
    gather_outcome =
        subst (IsOutcomeOf g h jobs values) (sym zeros_are)
        (holder_jobs_are_outcomes g h jobs values (replicate (length jobs) 0) planned
        (none_counted (lent_answer passes others asker loss) g 1 jobs values ns (can_be_tried_here 1 (omega arith))
        (first_here 1 (omega arith) asked asked_are parts values values_are ns ns refl first)))

    gather_is : outcome_of jobs values zeros ≡ lent_all others ts
    gather_is =
        ap (outcome_of jobs values) zeros_are
        ∙ ap (λ (js : List Job). outcome_of js values (replicate (length js) 0)) jobs_are
        ∙ lent_is passes g logs h others asker loss are consistent all none ts wanted values ns
        (first_planned 1 (omega arith) asked asked_are parts values values_are ns ns refl first)

    gather_parts : count_by is_some values ≡ length ts
    gather_parts =
        sym (length-filter is_some values)
        ∙ counted jobs values zeros
        (count_parts 1 (omega arith) asked asked_are parts values values_are ns ns refl first) count_zeros
        ∙ ap (λ (xs : List Fetched). length (parts_fetched xs)) gather_is
        ∙ ap length (came_lent others ts ∙ all_come)

    gather_octets : sum_by octets_in values ≡ sum_by (size_of g logs) ts
    gather_octets =
        octets_sum (size_of g logs) jobs values zeros
        (count_parts 1 (omega arith) asked asked_are parts values values_are ns ns refl first) count_zeros
        (λ x octets i e.
        let r = from_map (lent_one others) ts x (subst (In x) gather_is i) in
        ap (size_of g logs) (ap (λ (y : Fetched). y.part) r.2)
        ∙ size_lent r.0 octets r.1 (sym (ap (λ (y : Fetched). y.packet) r.2) ∙ e))
        ∙ ap (λ (xs : List Fetched). sum_by (size_of g logs) (parts_fetched xs)) gather_is
        ∙ ap (sum_by (size_of g logs)) (came_lent others ts ∙ all_come)

    pub gather_comes : GatherComes g logs h others ts jobs values zeros
    gather_comes = record { outcome = gather_outcome; is = gather_is; parts = gather_parts; octets = gather_octets }
