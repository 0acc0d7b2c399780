-- What a mirror plans can be taken, whatever its results.
use Rattle.std.proofs.Common.{◌≡◌, inl, inr, ℕ, true, List, [], ◌∷◌, map, take, not, Option, Some, None, refl, sym, ap}
use Rattle.std.proofs.Common.{◌∙◌, subst, arith}
use Rattle.std.specs.Prelude.{IfSome}
use Rattle.std.specs.List.{filter}
use Rattle.std.proofs.lemmas.Bool.{and_parts}
use Rattle.ndn_name.specs.Names.{Component}
use Rattle.repo_plan.specs.declared.part.Part.{Part}
use Rattle.repo_plan.specs.Plan.{is_wanted, is_claimed, is_after, wanted, known_parts, attempts_of}
use Rattle.sorted_lists.proofs.Sets.{In}
use Rattle.sorted_lists.proofs.Members.{in_all, in_filtered, in_take}
use Rattle.repo_object.specs.declared.job.Job.{Job}
use Rattle.repo_object.specs.Wants.{WantedPart}
use Rattle.repo_object.specs.Verdict.{CheckedPart}
use Rattle.repo_holdings.specs.Taking.{PartsDiffer}
use Rattle.repo_holdings.specs.Wanting.{want_at, job_at}
use Rattle.repo_member.specs.Groups.{GroupKeys}
use Rattle.repo_member.specs.Outcomes.{IsCheckedFor, AreFetchedOf}
use Rattle.repo_member.proofs.MemberLemmas.{want_at_part}
use Rattle.repo_member.proofs.OutcomeLemmas.{parts_of_jobs, next_differ, apart_in_order}
use Rattle.repo_mirror.specs.MirrorState.{MirrorState, mirror_holdings, fetch_plan}
use Rattle.repo_mirror.specs.MirrorOutcomes.{AreFetchedFor, IsMirrorOutcome, WereTriedFor, PlannedJobsAreOutcomes}
use Rattle.repo_mirror.specs.MirrorOutcomes.{RisingJobsAreOutcomes, MirrorsPlanJobs, MirrorsPlanJobsThat}
use Rattle.repo_mirror.specs.MirrorOutcomes.{HolderOutcomesAreMirrors}
use Rattle.repo_mirror.proofs.MirrorLemmas.{all_unclaimed}

module _ (publishers : List (List Component)) (group : List Component) (m : MirrorState) where
  abbrev job_of : Part → Job
  job_of t = job_at publishers group (mirror_holdings m) t

  all_fetched : (ts : List Part) → ((t : Part) → In t ts → is_wanted (fetch_plan m) t ≡ true)
      → (parts : List (Option CheckedPart)) (ns : List ℕ) → WereTriedFor (map job_of ts) parts ns
      → AreFetchedFor m (map job_of ts) parts ns
  all_fetched [] each [] [] were = tt
  all_fetched [] each [] (n ∷ ns) were = were
  all_fetched [] each (part ∷ parts) ns were = were
  all_fetched (t ∷ ts) each [] ns were = were
  all_fetched (t ∷ ts) each (part ∷ parts) [] were = were
  all_fetched (t ∷ ts) each (part ∷ parts) (n ∷ ns) were =
      let same : (want_at publishers group m.store t).part ≡ t = want_at_part publishers group m.store t in (
        record {
          publishers = publishers;
          group = group;
          part_wanted = ap (is_wanted (fetch_plan m)) same ∙ each t (inl refl);
          want = ap (want_at publishers group m.store) (sym same);
          checked = were.0;
          few = let tried = ap (attempts_of (fetch_plan m)) same in omega (arith, tried, were.1);
        },
        all_fetched ts (λ u i. each u (inr i)) parts ns were.2,
      )

  -- the results of jobs of different wanted parts are an outcome
  are_outcomes : (ts : List Part) → PartsDiffer ts → ((t : Part) → In t ts → is_wanted (fetch_plan m) t ≡ true)
      → (parts : List (Option CheckedPart)) (ns : List ℕ) → WereTriedFor (map job_of ts) parts ns
      → IsMirrorOutcome m (map job_of ts) parts ns
  are_outcomes ts differ each parts ns were = record {
    apart = subst PartsDiffer (sym (parts_of_jobs publishers group (mirror_holdings m) ts)) differ;
    each = all_fetched ts each parts ns were;
  }

pub rising_jobs_are_outcomes : RisingJobsAreOutcomes
rising_jobs_are_outcomes publishers group m ts parts attempts rises all were =
    are_outcomes publishers group m ts (apart_in_order ts rises)
    (λ t i. in_all (λ u. is_wanted (fetch_plan m) u ≡ true) ts t all i) parts attempts were

pub planned_jobs_are_outcomes : PlannedJobsAreOutcomes
planned_jobs_are_outcomes publishers group m after most jobs parts attempts planned were =
    let next : List Part = filter (is_after after) (wanted (fetch_plan m)) in
    let ts : List Part = take most next in
    let differ : PartsDiffer ts =
    subst (λ (us : List Part). PartsDiffer (take most (filter (is_after after) us))) (all_unclaimed m)
    (next_differ (mirror_holdings m) after most) in
    let each : (t : Part) → In t ts → is_wanted (fetch_plan m) t ≡ true = λ t i.
    (in_filtered (is_wanted (fetch_plan m)) (known_parts (fetch_plan m)) t
    (in_filtered (is_after after) (wanted (fetch_plan m)) t (in_take most next t i)).0).1 in
    subst (λ (js : List Job). IsMirrorOutcome m js parts attempts) (sym planned)
    (are_outcomes publishers group m ts differ each parts attempts
    (subst (λ (js : List Job). WereTriedFor js parts attempts) planned were))

-- ---- the same jobs, as those of a holder with the mirror's holdings

pub mirrors_plan_jobs : MirrorsPlanJobs
mirrors_plan_jobs g m after most =
    ap (λ (ts : List Part).
    map (job_at g.members.names g.name (mirror_holdings m)) (take most (filter (is_after after) ts)))
    (sym (all_unclaimed m))

pub mirrors_plan_jobs_that : MirrorsPlanJobsThat
mirrors_plan_jobs_that test g m after most =
    ap (λ (ts : List Part).
    map (job_at g.members.names g.name (mirror_holdings m)) (take most (filter test (filter (is_after after) ts))))
    (sym (all_unclaimed m))

want_checked : (g : GroupKeys) (want : WantedPart) (o : Option CheckedPart) → IfSome o (IsCheckedFor g want)
    → IfSome o (λ c. c.want ≡ want)
want_checked g want None is = tt
want_checked g want (Some c) is = is.same

all_for_mirror : (g : GroupKeys) (m : MirrorState) (jobs : List Job) (parts : List (Option CheckedPart)) (ns : List ℕ)
    → AreFetchedOf g (mirror_holdings m) jobs parts ns → AreFetchedFor m jobs parts ns
all_for_mirror g m [] [] [] are = tt
all_for_mirror g m [] [] (n ∷ ns) are = are
all_for_mirror g m [] (part ∷ parts) ns are = are
all_for_mirror g m (job ∷ jobs) [] ns are = are
all_for_mirror g m (job ∷ jobs) (part ∷ parts) [] are = are
all_for_mirror g m (job ∷ jobs) (part ∷ parts) (n ∷ ns) are = (
  record {
    publishers = g.members.names;
    group = g.name;
    part_wanted =
        (and_parts (is_wanted (fetch_plan m) job.want.part) (not (is_claimed (fetch_plan m) job.want.part))
        are.0.unclaimed).0;
    want = are.0.wanted;
    checked = want_checked g job.want part are.0.checked;
    few = are.0.few;
  },
  all_for_mirror g m jobs parts ns are.1,
)

pub holder_outcomes_are_mirrors : HolderOutcomesAreMirrors
holder_outcomes_are_mirrors g m jobs parts attempts is =
    record { apart = is.apart; each = all_for_mirror g m jobs parts attempts is.each }
