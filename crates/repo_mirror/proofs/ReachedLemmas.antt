-- What holds of every mirror that calls reach.
use Rattle.std.proofs.Common.{◌≡◌, ◌⊎◌, inl, inr, ℕ, Bool, true, false, cond, List, [], ◌∷◌, Option, Some, None}
use Rattle.std.proofs.Common.{is_some, option_map, sym, ap, ◌∙◌, subst}
use Rattle.std.specs.Prelude.{not, IfSome}
use Rattle.std.specs.List.{All, filter}
use Rattle.std.specs.Option.{option_and_then}
use Rattle.std.proofs.lemmas.Bool.{true≢false, and_parts, or_cases, false_from_ne_true, eqb-true, not-true}
use Rattle.sorted_lists.specs.SortedList.{Rises, contains, keys, with_value}
use Rattle.sorted_lists.proofs.Sets.{In, contains_in, in_contains, in_map, from_map, rises_with_value}
use Rattle.sorted_lists.proofs.Sets.{contains-insert_keys}
use Rattle.sorted_lists.proofs.Members.{all_in, in_filtered}
use Rattle.repo_plan.specs.declared.part.Part.{Part}
use Rattle.repo_plan.specs.declared.shape.Shape.{Shape}
use Rattle.repo_plan.specs.Parts.{Pair, pair_cmp, part_cmp, pair_of, part_of, record_of}
use Rattle.repo_plan.specs.Plan.{holds, shape_of, is_listed_part, may_be_asked_for, knows}
use Rattle.repo_plan.specs.Sound.{PlanIsSound}
use Rattle.repo_plan.proofs.Orders.{exact_parts, exact_pairs}
use Rattle.repo_plan.proofs.Changes.{wanted_parts}
use Rattle.repo_object.specs.declared.job.Job.{Job}
use Rattle.repo_object.specs.Publication.{shape_stated}
use Rattle.repo_object.specs.Verdict.{CheckedPart, IsChecked, stated_in}
use Rattle.repo_holdings.specs.Records.{Packet}
use Rattle.repo_holdings.specs.Listed.{stated_at, stored_at}
use Rattle.repo_holdings.specs.Taking.{Fetched, PartsDiffer, with_fetched, with_all_fetched}
use Rattle.repo_holdings.proofs.CatalogueLemmas.{shapes_value}
use Rattle.repo_holdings.proofs.GainingLemmas.{contains-value}
use Rattle.repo_member.specs.Outcomes.{outcome_of}
use Rattle.repo_member.proofs.HolderTakes.{is_stored, still_there, from_there}
use Rattle.repo_mirror.specs.MirrorState.{MirrorState, fetch_plan}
use Rattle.repo_mirror.specs.MirrorOutcomes.{IsMirrorOutcome}
use Rattle.repo_mirror.specs.Passing.{is_fetch_for, fetches_for, not_kept, passed_over, mirror_takes}
use Rattle.repo_mirror.specs.PacketsFor.{IsCheckedFetch, ArePacketsFor}
use Rattle.repo_mirror.proofs.JobLemmas.{outcome_differs}
use Rattle.repo_mirror.proofs.KeptLemmas.{CameSo, each_came, kept_packets}
use Rattle.repo_mirror.proofs.SortedLemmas.{parts_in, passed_record, kept_apart}
use Rattle.repo_mirror.proofs.TakenLemmas.{hidden_is}

-- what is stored is in order, and of each publication the record is stored too; of one that was passed over nothing is;
-- and each stored packet passed its checks and is none that is passed over
pub record IsReached (m : MirrorState) : Type 0 where
  pub in_order : Rises part_cmp (keys m.store)
  pub recorded : (t : Part) → is_stored m.store t ≡ true → is_stored m.store (record_of t) ≡ true
  pub gone : (t : Part) → contains pair_cmp m.passed (pair_of t) ≡ true → is_stored m.store t ≡ false
  pub packets : ArePacketsFor m.pattern m.store

pub sound_reached : (m : MirrorState) → PlanIsSound (fetch_plan m) → ArePacketsFor m.pattern m.store → IsReached m
sound_reached m s are = record {
  in_order = s.in_order.held;
  recorded = λ t h. (s.held t h).with_record;
  gone = s.hidden;
  packets = are;
}

-- ---- a record's publication tells its shape

-- what the stored record tells
pub shape_is : (m : MirrorState) (pair : Pair) → Rises part_cmp (keys m.store)
    → shape_of (fetch_plan m) pair ≡ option_map shape_stated (stated_at m.store pair)
shape_is m pair r = shapes_value m.store pair r

-- a part that could be asked for is a record, or its record is stored
asked_so : (m : MirrorState) (t : Part) → Rises part_cmp (keys m.store) → may_be_asked_for (fetch_plan m) t ≡ true
    → (t.part ≡ 0) ⊎ (is_stored m.store (record_of t) ≡ true)
asked_so m t r asked =
    go (stored_at m.store (pair_of t) 0) (contains-value m.store (record_of t))
    (ap (λ (o : Option Shape). is_listed_part (keys m.store) o t) (sym (shape_is m (pair_of t) r))
    ∙ (and_parts (knows (fetch_plan m) (pair_of t))
    (is_listed_part (keys m.store) (shape_of (fetch_plan m) (pair_of t)) t) asked).1) where
      go : (o : Option (List ℕ)) → is_stored m.store (record_of t) ≡ is_some o
          → is_listed_part (keys m.store) (option_map shape_stated (option_and_then stated_in o)) t ≡ true
          → (t.part ≡ 0) ⊎ (is_stored m.store (record_of t) ≡ true)
      go None e h = inl (eqb-true t.part 0 h)
      go (Some octets) e h = inr e

-- ---- the results of a fetch are taken

rises_fetched : (xs : List Fetched) (es : List Packet) → Rises part_cmp (keys es)
    → Rises part_cmp (keys (with_all_fetched xs es))
rises_fetched [] es r = r
rises_fetched (x ∷ xs) es r = rises_fetched xs (with_fetched x.part x.packet es) (one x.packet) where
  put : (octets : List ℕ) (b : Bool) → Rises part_cmp (keys (cond b es (with_value part_cmp x.part octets es)))
  put octets true = r
  put octets false = rises_with_value exact_parts x.part octets es r

  one : (o : Option (List ℕ)) → Rises part_cmp (keys (with_fetched x.part o es))
  one None = r
  one (Some octets) = put octets (contains part_cmp (keys es) x.part)

module _ (m : MirrorState) (xs : List Fetched) (r : IsReached m) (each : (x : Fetched) → In x xs → CameSo m x)
    (apart : PartsDiffer (parts_in m.pattern xs)) where
  abbrev kept : List Fetched
  kept = fetches_for m.pattern xs

  abbrev next : MirrorState
  next = mirror_takes xs m

  -- the record of what is passed over newly isn't stored
  new_record : (t : Part) → contains pair_cmp (passed_over m.pattern xs) (pair_of t) ≡ true
      → is_stored m.store (record_of t) ≡ false
  new_record t h =
      let among : contains pair_cmp (not_kept m.pattern xs) (pair_of t) ≡ true =
      elim (or_cases (contains pair_cmp (not_kept m.pattern xs) (pair_of t)) false
      (sym (contains-insert_keys exact_pairs (not_kept m.pattern xs) [] (pair_of t)) ∙ h)) [
        | inl c ↦ c
        | inr none ↦ absurd (true≢false (sym none))
      ] in
      let x = from_map (λ (y : Fetched). pair_of y.part)
      (filter (λ y. not (is_fetch_for m.pattern y)) xs) (pair_of t)
      (in_contains exact_pairs (not_kept m.pattern xs) (pair_of t) among) in
      let f = in_filtered (λ y. not (is_fetch_for m.pattern y)) xs x.0 x.1 in
      let zero = passed_record m.pattern x.0 (not-true (is_fetch_for m.pattern x.0) f.1) in
      let same : record_of t ≡ x.0.part = (λ i. part_of (x.2 i) (sym zero i)) in
      ap (is_stored m.store) same
      ∙ (wanted_parts (fetch_plan m) x.0.part (each x.0 f.0).part_wanted).not_held

  -- what is kept newly
  in_kept : (x : Fetched) → In x kept → In x xs
  in_kept x i = (in_filtered (is_fetch_for m.pattern) xs x i).0

  new_asked : (x : Fetched) → In x kept → (x.part.part ≡ 0) ⊎ (is_stored m.store (record_of x.part) ≡ true)
  new_asked x i =
      asked_so m x.part r.in_order
      (wanted_parts (fetch_plan m) x.part (each x (in_kept x i)).part_wanted).asked

  -- is of no publication that is passed over
  new_free : (x : Fetched) → In x kept → contains pair_cmp (passed_over m.pattern xs) (pair_of x.part) ≡ false
  new_free x i = elim (new_asked x i) [
    | inl zero ↦
        kept_apart m.pattern xs apart x.part zero
        (contains_in exact_parts (parts_in m.pattern kept) x.part (in_map (λ (y : Fetched). y.part) kept x i))
    | inr there ↦
        false_from_ne_true (contains pair_cmp (passed_over m.pattern xs) (pair_of x.part))
        (λ h. true≢false (sym there ∙ new_record x.part h))
  ]

  old_free : (x : Fetched) → In x kept → contains pair_cmp m.passed (pair_of x.part) ≡ false
  old_free x i = (wanted_parts (fetch_plan m) x.part (each x (in_kept x i)).part_wanted).not_hidden

  gone_then : (t : Part) → contains pair_cmp next.passed (pair_of t) ≡ true → is_stored next.store t ≡ false
  gone_then t h = false_from_ne_true (is_stored next.store t) (λ k.
      elim (or_cases (contains pair_cmp (passed_over m.pattern xs) (pair_of t)) (contains pair_cmp m.passed (pair_of t))
      (sym (hidden_is (passed_over m.pattern xs) m.passed (pair_of t)) ∙ h)) [
        | inl new ↦ elim (from_there kept m.store t k) [
          | inl old ↦ true≢false (sym (r.recorded t old) ∙ new_record t new)
          | inr x ↦
              true≢false
              (sym new
              ∙ ap (λ (u : Part). contains pair_cmp (passed_over m.pattern xs) (pair_of u)) (sym x.2)
              ∙ new_free x.0 x.1)
        ]
        | inr was ↦ elim (from_there kept m.store t k) [
          | inl old ↦ true≢false (sym old ∙ r.gone t was)
          | inr x ↦
              true≢false
              (sym was
              ∙ ap (λ (u : Part). contains pair_cmp m.passed (pair_of u)) (sym x.2)
              ∙ old_free x.0 x.1)
        ]
      ])

  recorded_then : (t : Part) → is_stored next.store t ≡ true → is_stored next.store (record_of t) ≡ true
  recorded_then t h = elim (from_there kept m.store t h) [
    | inl old ↦ still_there kept m.store (record_of t) (r.recorded t old)
    | inr x ↦
        let record_there : is_stored next.store (record_of x.0.part) ≡ true =
        elim (new_asked x.0 x.1) [
          | inl zero ↦
              ap (λ (n : ℕ). is_stored next.store (part_of (pair_of x.0.part) n)) (sym zero)
              ∙ ap (is_stored next.store) x.2 ∙ h
          | inr there ↦ still_there kept m.store (record_of x.0.part) there
        ] in
        subst (λ (u : Part). is_stored next.store (record_of u) ≡ true) x.2 record_there
  ]

  taken_so : IsReached next
  taken_so = record {
    in_order = rises_fetched kept m.store r.in_order;
    recorded = recorded_then;
    gone = gone_then;
    packets =
        kept_packets m.pattern xs m.store
        (all_in IsCheckedFetch kept (λ x i. (each x (in_kept x i)).checked)) r.packets;
  }

pub reached_takes : (m : MirrorState) (jobs : List Job) (parts : List (Option CheckedPart)) (ns : List ℕ)
    → IsMirrorOutcome m jobs parts ns → All (λ part. IfSome part IsChecked) parts → IsReached m
    → IsReached (mirror_takes (outcome_of jobs parts ns) m)
reached_takes m jobs parts ns is checked r =
    taken_so m (outcome_of jobs parts ns) r (each_came m jobs parts ns is.each checked)
    (outcome_differs m jobs parts ns is.each is.apart)
