-- The jobs of a mirror, one after another, and their results.
use Rattle.std.proofs.Common.{◌≡◌, ℕ, suc, true, false, List, [], ◌∷◌, map, length, refl, sym, ap, ◌∙◌, subst}
use Rattle.std.proofs.Common.{Option, Some, None, option_map, is_some, Bor}
use Rattle.std.specs.Prelude.{IfSome}
use Rattle.std.specs.Option.{option_copied}
use Rattle.std.proofs.lemmas.Bool.{true≢false, and_parts, false_from_ne_true, eqb-true}
use Rattle.repo_plan.specs.declared.part.Part.{Part}
use Rattle.sorted_lists.specs.SortedList.{contains}
use Rattle.repo_plan.specs.declared.shape.Shape.{Shape}
use Rattle.repo_plan.specs.Parts.{Pair, pair_cmp, pair_of, part_of}
use Rattle.repo_plan.specs.Plan.{PlanState, holds, shape_of, is_listed_part, may_be_asked_for, knows, is_wanted}
use Rattle.repo_plan.specs.Sound.{PlanIsSound}
use Rattle.repo_plan.proofs.Changes.{wanted_parts}
use Rattle.repo_object.specs.declared.job.Job.{Job}
use Rattle.repo_object.specs.Wants.{WantedPart}
use Rattle.repo_object.specs.Verdict.{CheckedPart}
use Rattle.repo_holdings.specs.StoredParents.{lists_at}
use Rattle.repo_holdings.specs.Gaining.{IsArrival}
use Rattle.repo_holdings.specs.Taking.{Fetched, came, CanBeTaken, PartsDiffer}
use Rattle.repo_holdings.specs.declared.holdings.taking.Tried.{Tried}
use Rattle.repo_holdings.specs.declared.record_summary.Arrival.{Arrival}
use Rattle.repo_member.specs.Outcomes.{outcome_of}
use Rattle.repo_member.proofs.MemberLemmas.{want_at_lists}
use Rattle.repo_mirror.specs.MirrorState.{MirrorState, fetch_plan}
use Rattle.repo_mirror.specs.MirrorOutcomes.{IsFetchedFor, AreFetchedFor}
use Rattle.repo_mirror.specs.Passing.{IsUnknownIn}
use Rattle.repo_mirror.proofs.MirrorLemmas.{nothing_claimed}

pub wants_lists : (m : MirrorState) (job : Job) (part : Option CheckedPart) (n : ℕ) → IsFetchedFor m job part n
    → job.want.lists ≡ lists_at m.store job.want.part
wants_lists m job part n is =
    ap (λ (w : WantedPart). w.lists) is.want ∙ want_at_lists is.publishers is.group m.store job.want.part

-- what is lent
pub lent_if : {X : Type 0} (P : X → Type 0) (o : Option (Bor X)) (p : Option X) → option_copied o ≡ p → IfSome p P
    → IfSome o (λ b. P b.now)
lent_if P None p h k = tt
lent_if P (Some b) p h k = subst (λ (q : Option _). IfSome q P) (sym h) k

pub lent_octets : (o : Option (Bor CheckedPart)) (p : Option CheckedPart) → option_copied o ≡ p
    → option_map (λ (c : Bor CheckedPart). c.now.octets) o ≡ option_map (λ (c : CheckedPart). c.octets) p
lent_octets o p h = same o ∙ ap (option_map (λ (c : CheckedPart). c.octets)) h where
  same : (q : Option (Bor CheckedPart))
      → option_map (λ (c : Bor CheckedPart). c.now.octets) q
      ≡ option_map (λ (c : CheckedPart). c.octets) (option_copied q)
  same None = refl
  same (Some b) = refl

-- ---- one after another

module _ (m : MirrorState) where
  pub as_many : (jobs : List Job) (parts : List (Option CheckedPart)) (ns : List ℕ) → AreFetchedFor m jobs parts ns
      → length parts ≡ length jobs
  as_many [] [] [] are = refl
  as_many [] [] (n ∷ ns) are = absurd are
  as_many [] (part ∷ parts) ns are = absurd are
  as_many (job ∷ jobs) [] ns are = absurd are
  as_many (job ∷ jobs) (part ∷ parts) [] are = absurd are
  as_many (job ∷ jobs) (part ∷ parts) (n ∷ ns) are = ap suc (as_many jobs parts ns are.1)

  parts_fetched : (jobs : List Job) (parts : List (Option CheckedPart)) (ns : List ℕ) → AreFetchedFor m jobs parts ns
      → map (λ (y : Fetched). y.part) (outcome_of jobs parts ns) ≡ map (λ (job : Job). job.want.part) jobs
  parts_fetched [] [] [] are = refl
  parts_fetched [] [] (n ∷ ns) are = absurd are
  parts_fetched [] (part ∷ parts) ns are = absurd are
  parts_fetched (job ∷ jobs) [] ns are = absurd are
  parts_fetched (job ∷ jobs) (part ∷ parts) [] are = absurd are
  parts_fetched (job ∷ jobs) (part ∷ parts) (n ∷ ns) are =
      ap (λ (ts : List Part). job.want.part ∷ ts) (parts_fetched jobs parts ns are.1)

  pub outcome_differs : (jobs : List Job) (parts : List (Option CheckedPart)) (ns : List ℕ)
      → AreFetchedFor m jobs parts ns → PartsDiffer (map (λ (job : Job). job.want.part) jobs)
      → PartsDiffer (map (λ (y : Fetched). y.part) (outcome_of jobs parts ns))
  outcome_differs jobs parts ns are apart = subst PartsDiffer (sym (parts_fetched jobs parts ns are)) apart

  module _ (job : Job) (part : Option CheckedPart) (n : ℕ) where
    pub first_job : (jobs later : List Job) (parts after : List (Option CheckedPart)) (ns rest : List ℕ)
        → jobs ≡ job ∷ later → parts ≡ part ∷ after → ns ≡ n ∷ rest → AreFetchedFor m jobs parts ns
        → IsFetchedFor m job part n × AreFetchedFor m later after rest
    first_job jobs later parts after ns rest j p t are = rw (j, p, t) at are

    -- the result of the job `job`
    abbrev pub fetched : Fetched
    fetched = record {
      part = job.want.part;
      packet = option_map (λ (c : CheckedPart). c.octets) part;
      attempts = n;
    }

    pub first_outcome : (jobs later : List Job) (parts after : List (Option CheckedPart)) (ns rest : List ℕ)
        → jobs ≡ job ∷ later → parts ≡ part ∷ after → ns ≡ n ∷ rest
        → outcome_of jobs parts ns ≡ fetched ∷ outcome_of later after rest
    first_outcome jobs later parts after ns rest j p t = rw (j, p, t) refl

    module _ (x : Tried) (is : IsFetchedFor m job part n) (same : x.part ≡ job.want.part) (tried : x.attempts ≡ n) where
      pub came_is : option_map (λ (y : Arrival). y.packet) x.arrival ≡ option_map (λ (c : CheckedPart). c.octets) part
          → came x ≡ fetched
      came_is packet = λ i. record { part = same i; packet = packet i; attempts = tried i }

      pub can_be_taken : IfSome x.arrival (λ y. IsArrival m.store x.part y.packet y.summary)
          → CanBeTaken (fetch_plan m) m.store x
      can_be_taken arrived =
          let wanted = wanted_parts (fetch_plan m) job.want.part is.part_wanted in
          record {
            asked = ap (may_be_asked_for (fetch_plan m)) same ∙ wanted.asked;
            not_held = ap (holds (fetch_plan m)) same ∙ wanted.not_held;
            not_hidden = ap (λ (t : Part). contains pair_cmp m.passed (pair_of t)) same ∙ wanted.not_hidden;
            not_claimed = nothing_claimed m x.part;
            arrived = arrived;
            few = rw (same, tried) is.few;
          }

-- ---- a wanted record's publication is unknown

record_known : (plan : PlanState) (pair : Pair) → PlanIsSound plan → holds plan (part_of pair 0) ≡ false → (t : Part)
    → pair_of t ≡ pair → may_be_asked_for plan t ≡ true → t.part ≡ 0
record_known plan pair sound none t same asked =
    go (shape_of plan pair) (sound.shapes pair ∙ none)
    (ap (λ (q : Pair). is_listed_part plan.held (shape_of plan q) t) (sym same)
    ∙ (and_parts (knows plan (pair_of t)) (is_listed_part plan.held (shape_of plan (pair_of t)) t) asked).1) where
      go : (o : Option Shape) → is_some o ≡ false → is_listed_part plan.held o t ≡ true → t.part ≡ 0
      go None h k = eqb-true t.part 0 k
      go (Some shape) h k = absurd (true≢false h)

pub wanted_unknown : (plan : PlanState) (t : Part) → PlanIsSound plan → is_wanted plan t ≡ true → t.part ≡ 0
    → IsUnknownIn plan (pair_of t)
wanted_unknown plan t sound wanted zero =
    let free = (wanted_parts plan t wanted).not_held in
    let none : holds plan (part_of (pair_of t) 0) ≡ false =
    ap (λ (x : ℕ). holds plan (part_of (pair_of t) x)) (sym zero) ∙ free in
    record {
      none_held = λ u same. false_from_ne_true (holds plan u) (λ h.
          true≢false
          (sym (sound.held u h).with_record ∙ ap (λ (pair : Pair). holds plan (part_of pair 0)) same ∙ none));
      record_alone = λ u same asked. record_known plan (pair_of t) sound none u same asked;
    }
