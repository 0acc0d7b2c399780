-- Entries in canonical order: their names rise, and they are the entries that were given.
use Rattle.std.proofs.Common.{◌≡◌, ℕ, Bool, true, false, cond, not, eqb, List, [], ◌∷◌, ◌++◌, fold, refl, sym, ap}
use Rattle.std.proofs.Common.{subst, ◌∙◌}
use Rattle.std.specs.List.{All, AllByRecursion, IsDistinct}
use Rattle.std.specs.List.Sorted.{IsStrictlySortedBy, IsPermutation}
use Rattle.std.specs.Map.{keys_of}
use Rattle.std.specs.Ordering.{match_ordering, ordering_reverse}
use Rattle.std.specs.declared.cmp.Ordering.{Ordering}
use Rattle.std.specs.declared.cmp.Ordering.TheVariants.{Less, Equal, Greater}
use Rattle.std.proofs.lemmas.Bool.{true≢false}
use Rattle.std.proofs.lemmas.Slice.Eq.{bytes_eq-Decides}
use Rattle.std.proofs.lemmas.List.{append-nil}
use Rattle.std.proofs.lemmas.List.Elements.{All-from_recursion, recursion_from_All, All-nil, All-head, All-tail}
use Rattle.std.proofs.lemmas.List.Sorted.{IsPermutation-refl, IsPermutation-sym, IsPermutation-trans}
use Rattle.std.proofs.lemmas.List.Sorted.{IsPermutation-cons, IsPermutation-middle, IsPermutation-append_right}
use Rattle.std.proofs.lemmas.Map.Views.{All-keys-insert_entry}
use Rattle.ndn_name.specs.Names.{Component, encoding}
use Rattle.ndn_name.specs.CanonicalOrder.{canonical_cmp, canonical_cmp_total}
use Rattle.ndn_name.proofs.Prefixes.{canonical_cmp-equal}
use Rattle.svs_vector.specs.Rosters.{has_same_octets, IsRoster}
use Rattle.svs_vector.specs.StateVector.{Entry}
use Rattle.svs_vector.specs.WrittenVector.{in_canonical_order, known_entries}
use Rattle.svs_vector.proofs.OrderLemmas.{put, names_known}

-- ---- the names rise

abbrev Rises : List Entry → Type 0
Rises es = IsStrictlySortedBy canonical_cmp (keys_of es)

abbrev Above : List Component → List (List Component) → Type 0
Above name names = AllByRecursion (λ other. canonical_cmp name other ≡ Less) names

above_more : (low name : List Component) (names : List (List Component)) → canonical_cmp low name ≡ Less
    → Above name names → Above low names
above_more low name [] h above = above
above_more low name (other ∷ names) h above =
    (canonical_cmp_total.trans low name other h above.0, above_more low name names h above.1)

module _ (e x : Entry) (es : List Entry) (rises : Rises (x ∷ es)) (rest : Rises (put es e)) where
  rises_match : (o : Ordering) → canonical_cmp e.0 x.0 ≡ o
      → Rises (match_ordering o (e ∷ x ∷ es) ((x.0, e.1) ∷ es) (x ∷ put es e))
  unfolding IsStrictlySortedBy
  rises_match Less h = ((h, above_more e.0 x.0 (keys_of es) h rises.0), rises)
  rises_match Equal h = rises
  rises_match Greater h =
      let below : canonical_cmp x.0 e.0 ≡ Less = canonical_cmp_total.antisymm x.0 e.0 ∙ ap ordering_reverse h in
      let P : List Component → Type 0 = λ name. canonical_cmp x.0 name ≡ Less in (
        recursion_from_All P (keys_of (put es e))
            (All-keys-insert_entry canonical_cmp e.0 e.1 P es (All-from_recursion P (keys_of es) rises.0) below),
        rest,
      )

rises_put : (e : Entry) (es : List Entry) → Rises es → Rises (put es e)
unfolding IsStrictlySortedBy
rises_put e [] rises = (tt, tt)
rises_put e (x ∷ es) rises = rises_match e x es rises (rises_put e es rises.1) (canonical_cmp e.0 x.0) refl

rises_placed : (so_far es : List Entry) → Rises so_far → Rises (fold put so_far es)
rises_placed so_far [] rises = rises
rises_placed so_far (e ∷ es) rises = rises_placed (put so_far e) es (rises_put e so_far rises)

pub names_rise : (es : List Entry) → Rises (in_canonical_order es)
unfolding IsStrictlySortedBy
names_rise es = rises_placed [] es tt

-- ---- the entries are those that were given, where their names differ

other_name : (a b : List Component) → has_same_octets a b ≡ false → canonical_cmp a b ≡ Equal → ⊥
other_name a b other equal =
    let same : has_same_octets a b ≡ true =
    (bytes_eq-Decides (encoding a) (encoding b)).1 (ap encoding (canonical_cmp-equal a b equal)) in
    true≢false (sym same ∙ other)

pub other_way : (a b : List Component) → has_same_octets a b ≡ false → has_same_octets b a ≡ false
other_way a b other = by (has_same_octets b a) refl where
  by : (r : Bool) → has_same_octets b a ≡ r → r ≡ false
  by true h =
      absurd (true≢false
      (sym ((bytes_eq-Decides (encoding a) (encoding b)).1 (sym ((bytes_eq-Decides (encoding b) (encoding a)).0 h)))
      ∙ other))
  by false h = refl

abbrev Differs : List Component → List Entry → Type 0
Differs name es = All (λ other. has_same_octets name other ≡ false) (keys_of es)

module _ (e x : Entry) (es : List Entry) (other : has_same_octets e.0 x.0 ≡ false)
    (rest : IsPermutation (e ∷ es) (put es e)) where
  same_match : (o : Ordering) → canonical_cmp e.0 x.0 ≡ o
      → IsPermutation (e ∷ x ∷ es) (match_ordering o (e ∷ x ∷ es) ((x.0, e.1) ∷ es) (x ∷ put es e))
  same_match Less h = IsPermutation-refl (e ∷ x ∷ es)
  same_match Equal h = absurd (other_name e.0 x.0 other h)
  same_match Greater h =
      IsPermutation-trans (e ∷ x ∷ es) (x ∷ e ∷ es) (x ∷ put es e) (IsPermutation-middle (e ∷ []) x es)
      (IsPermutation-cons x (e ∷ es) (put es e) rest)

same_put : (e : Entry) (es : List Entry) → Differs e.0 es → IsPermutation (e ∷ es) (put es e)
same_put e [] differs = IsPermutation-refl (e ∷ [])
same_put e (x ∷ es) differs =
    let P : List Component → Type 0 = λ other. has_same_octets e.0 other ≡ false in
    same_match e x es (All-head P x.0 (keys_of es) differs) (same_put e es (All-tail P x.0 (keys_of es) differs))
    (canonical_cmp e.0 x.0) refl

-- each differs from those before it
abbrev Differ : List Entry → List Entry → Type 0
Differ so_far es = AllByRecursion (λ e. Differs e.0 so_far) es

differ_more : (so_far : List Entry) (e : Entry) (es : List Entry) → Differ so_far es
    → AllByRecursion (λ name. has_same_octets e.0 name ≡ false) (keys_of es)
    → Differ (put so_far e) es
differ_more so_far e [] differ apart = tt
differ_more so_far e (x ∷ es) differ apart =
    let P : List Component → Type 0 = λ other. has_same_octets x.0 other ≡ false in (
      All-keys-insert_entry canonical_cmp e.0 e.1 P so_far differ.0 (other_way e.0 x.0 apart.0),
      differ_more so_far e es differ.1 apart.1,
    )

same_placed : (so_far es : List Entry) → Differ so_far es → IsDistinct has_same_octets (keys_of es)
    → IsPermutation (es ++ so_far) (fold put so_far es)
unfolding IsDistinct
same_placed so_far [] differ apart = IsPermutation-refl so_far
same_placed so_far (e ∷ es) differ apart =
    let moved = IsPermutation-sym (es ++ e ∷ so_far) (e ∷ (es ++ so_far)) (IsPermutation-middle es e so_far) in
    let placed = IsPermutation-append_right es (e ∷ so_far) (put so_far e) (same_put e so_far differ.0) in
    IsPermutation-trans (e ∷ (es ++ so_far)) (es ++ e ∷ so_far) (fold put (put so_far e) es) moved
    (IsPermutation-trans (es ++ e ∷ so_far) (es ++ put so_far e) (fold put (put so_far e) es) placed
    (same_placed (put so_far e) es (differ_more so_far e es differ.1 apart.0) apart.1))

differ_first : (es : List Entry) → Differ [] es
differ_first [] = tt
differ_first (e ∷ es) = (All-nil (λ other. has_same_octets e.0 other ≡ false), differ_first es)

pub same_entries : (es : List Entry) → IsDistinct has_same_octets (keys_of es)
    → IsPermutation es (in_canonical_order es)
same_entries es apart =
    subst (λ (l : List Entry). IsPermutation l (in_canonical_order es)) (append-nil es)
    (same_placed [] es (differ_first es) apart)

-- ---- the known entries of a roster

distinct_cond : (b : Bool) (e : Entry) (es : List Entry)
    → AllByRecursion (λ name. has_same_octets e.0 name ≡ false) (keys_of es)
    → IsDistinct has_same_octets (keys_of es) → IsDistinct has_same_octets (keys_of (cond b (e ∷ es) es))
unfolding IsDistinct
distinct_cond true e es here apart = (here, apart)
distinct_cond false e es here apart = apart

distinct_known : (roster : List (List Component)) (vector : List ℕ) → IsDistinct has_same_octets roster
    → IsDistinct has_same_octets (keys_of (known_entries roster vector))
unfolding IsDistinct
distinct_known [] vector apart = tt
distinct_known (name ∷ names) [] apart = tt
distinct_known (name ∷ names) (n ∷ ns) apart =
    let P : List Component → Type 0 = λ other. has_same_octets name other ≡ false in
    let here =
    recursion_from_All P (keys_of (known_entries names ns))
    (names_known P names ns (All-from_recursion P names apart.0)) in
    distinct_cond (not (eqb n 0)) (name, n) (known_entries names ns) here (distinct_known names ns apart.1)

pub known_in_order : (roster : List (List Component)) (vector : List ℕ) → IsRoster roster
    → IsPermutation (known_entries roster vector) (in_canonical_order (known_entries roster vector))
known_in_order roster vector are =
    same_entries (known_entries roster vector) (distinct_known roster vector are.different)
