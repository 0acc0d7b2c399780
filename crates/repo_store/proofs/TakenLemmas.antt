-- What is left where parts are taken out of what is in order.
use Rattle.std.proofs.Common.{◌≡◌, inl, inr, ℕ, zero, suc, ◌+◌, ◌≤◌, Bool, true, false, cond, not, List, []}
use Rattle.std.proofs.Common.{◌∷◌, drop, take, Option, Some, None, refl, sym, ap, subst, ◌∙◌, arith}
use Rattle.std.specs.Prelude.{◌&&◌, slice_get}
use Rattle.std.specs.List.{filter, remove}
use Rattle.std.specs.Ordering.{is_le, eq_by_cmp}
use Rattle.std.proofs.lemmas.Bool.{true≢false, false_from_ne_true}
use Rattle.std.proofs.lemmas.List.{take-append-drop}
use Rattle.std.proofs.lemmas.List.Elements.{filter_agree}
use Rattle.sorted_lists.specs.SortedList.{Rises, keys, value_of}
use Rattle.sorted_lists.specs.Members.{In}
use Rattle.sorted_lists.proofs.Sets.{in_append, eq_same, eq_itself}
use Rattle.sorted_lists.proofs.RunOrder.{le_itself, lt_not_le, unique}
use Rattle.sorted_lists.proofs.Lookups.{there_value, value_there}
use Rattle.sorted_lists.proofs.Members.{in_filtered, filter_whole, filter-filter}
use Rattle.sorted_lists.proofs.LeastOnes.{le_both}
use Rattle.sorted_lists.proofs.Climbs.{climbs_parts, climbs_filter}
use Rattle.repo_plan.specs.declared.part.Part.{Part}
use Rattle.repo_plan.specs.Parts.{Pair, part_cmp, part_of, pair_of}
use Rattle.repo_plan.specs.Plan.{is_in}
use Rattle.repo_plan.proofs.Orders.{exact_pairs, exact_parts}
use Rattle.repo_store.specs.declared.names.Names.{Names}
use Rattle.repo_store.specs.PacketTable.{Slots, Stored}
use Rattle.repo_store.specs.Slots.{held_outside, HasFew}
use Rattle.repo_store.specs.Indexes.{Key, key_cmp, key_in, AreInOrder, IsPlace, is_of, outside_part, IsAlone, is_one_of}
use Rattle.repo_store.specs.NameLayers.{AreAmong, IsIndexOf}
use Rattle.repo_store.proofs.IndexLemmas.{exact_keys}

-- ---- what is of a part

-- what comes first from the place of one on is of its part, where anything is
pub none_of : (slots : Slots) (held : List Stored) (one : Stored) (place : ℕ) → AreInOrder slots held → IsAlone one held
    → IsPlace slots held (key_in slots one) place → is_one_of one.0 (slice_get (drop place held) 0) ≡ false
    → (h : Stored) → In h held → is_of one.0 h ≡ false
none_of slots held one place climbs alone at other h i = false_from_ne_true (is_of one.0 h) (λ own.
    let same = alone h i (sym (eq_same exact_parts one.0 h.0 own)) in
    elim (in_append (take place held) (drop place held) h (subst (In h) (sym (take-append-drop place held)) i)) [
      | inl before ↦
          lt_not_le exact_keys (key h) (key one) (at.before h before)
          (subst (λ (o : Stored). is_le (key_cmp (key one) (key o)) ≡ true) (sym same) (le_itself exact_keys (key one)))
      | inr after ↦
          in_back (drop place held) (climbs_parts exact_keys (key_in slots) place held climbs).1 at.after other
          (subst (λ (o : Stored). In o (drop place held)) same after)
    ])
  where
    key : Stored → Key
    key x = key_in slots x

    in_back : (xs : List Stored) → AreInOrder slots xs
        → ((x : Stored) → In x xs → is_le (key_cmp (key one) (key x)) ≡ true)
        → is_one_of one.0 (slice_get xs 0) ≡ false → In one xs → ⊥
    in_back [] c after none j = absurd j
    in_back (x ∷ xs) c after none (inl e) =
        true≢false
        (sym (subst (λ (o : Stored). is_of one.0 o ≡ true) e (eq_itself exact_parts one.0)) ∙ none)
    in_back (x ∷ xs) c after none (inr j) =
        let same : key one ≡ key x = le_both exact_keys (key one) (key x) (after x (inl refl)) (c.0 one j) in
        true≢false
        (sym (subst (λ (k : Key). eq_by_cmp part_cmp one.0 k.1 ≡ true) same (eq_itself exact_parts one.0)) ∙ none)

in_removed : (xs : List Stored) (i : ℕ) (x : Stored) → In x (remove xs i) → In x xs
in_removed [] zero x j = j
in_removed [] (suc i) x j = j
in_removed (y ∷ xs) zero x j = inr j
in_removed (y ∷ xs) (suc i) x (inl e) = inl e
in_removed (y ∷ xs) (suc i) x (inr j) = inr (in_removed xs i x j)

climbs_removed : (slots : Slots) (xs : List Stored) (i : ℕ) → AreInOrder slots xs → AreInOrder slots (remove xs i)
climbs_removed slots [] zero c = c
climbs_removed slots [] (suc i) c = c
climbs_removed slots (x ∷ xs) zero c = c.1
climbs_removed slots (x ∷ xs) (suc i) c = ((λ y j. c.0 y (in_removed xs i y j)), climbs_removed slots xs i c.1)

outside_removed : (t : Part) (xs : List Stored) (i : ℕ) → is_one_of t (slice_get (drop i xs) 0) ≡ true
    → outside_part t (remove xs i) ≡ outside_part t xs
outside_removed t [] zero h = refl
outside_removed t [] (suc i) h = refl
outside_removed t (x ∷ xs) zero h =
    sym (ap (λ (b : Bool). cond (not b) (x ∷ outside_part t xs) (outside_part t xs)) h)
outside_removed t (x ∷ xs) (suc i) h =
    ap (λ (ys : List Stored). cond (not (is_of t x)) (x ∷ ys) ys) (outside_removed t xs i h)

-- how far what is of a part is taken out
pub record Taking (slots : Slots) (one : Stored) (old now : List Stored) : Type 0 where
  pub outside : outside_part one.0 now ≡ outside_part one.0 old
  pub in_order : AreInOrder slots now
  pub alone : IsAlone one now

pub taking_more : (slots : Slots) (one : Stored) (old now : List Stored) (place : ℕ)
    → is_one_of one.0 (slice_get (drop place now) 0) ≡ true → Taking slots one old now
    → Taking slots one old (remove now place)
taking_more slots one old now place own t = record {
  outside = outside_removed one.0 now place own ∙ t.outside;
  in_order = climbs_removed slots now place t.in_order;
  alone = λ h i. t.alone h (in_removed now place h i);
}

-- nothing is of the part
pub none_outside : (t : Part) (held : List Stored) → ((h : Stored) → In h held → is_of t h ≡ false)
    → held ≡ outside_part t held
none_outside t held none = sym (filter_whole (λ (h : Stored). not (is_of t h)) held (λ h i. ap not (none h i)))

-- no part is held twice
pub alone_among : (held xs : List Stored) (t : Part) (slot : ℕ) → Rises part_cmp (keys held)
    → ((h : Stored) → In h xs → In h held) → value_of part_cmp held t ≡ Some slot → IsAlone (t, slot) xs
alone_among held xs t slot rises among found h i same =
    unique exact_parts held rises h (t, slot) (among h i) (there_value exact_parts held t slot found) same

pub no_part : (held xs : List Stored) (t : Part) → Rises part_cmp (keys held) → ((h : Stored) → In h xs → In h held)
    → value_of part_cmp held t ≡ None → xs ≡ outside_part t xs
no_part held xs t rises among none =
    none_outside t xs (λ h i. false_from_ne_true (is_of t h) (λ own.
    let some =
    ap (value_of part_cmp held) (eq_same exact_parts t h.0 own) ∙ value_there exact_parts held h rises (among h i) in
    let e : (let r : Option ℕ = None in r) ≡ Some h.1 = sym none ∙ some in
    cc))

-- ---- what is of a publication

-- how far the parts of a publication are taken out: those of lesser numbers are
pub record TakingPair (pair : Pair) (old now : List Stored) (number : ℕ) : Type 0 where
  pub outside : held_outside pair now ≡ held_outside pair old
  pub numbers : (h : Stored) → In h now → is_in pair h.0 ≡ true → number ≤ h.0.part

pub taking_pair_none : (pair : Pair) (held : List Stored) → TakingPair pair held held 0
taking_pair_none pair held = record { outside = refl; numbers = λ h i inside. omega arith }

-- what is outside of a publication is of other parts than its own
outside_both : (pair : Pair) (t : Part) (h : Stored) → is_in pair t ≡ true
    → (not (is_of t h) && not (is_in pair h.0)) ≡ not (is_in pair h.0)
outside_both pair t h inside = go (is_of t h) refl where
  go : (b : Bool) → is_of t h ≡ b → (not b && not (is_in pair h.0)) ≡ not (is_in pair h.0)
  go true own = sym (ap not (ap (is_in pair) (sym (eq_same exact_parts t h.0 own)) ∙ inside))
  go false other = refl

pub taking_pair_more : (pair : Pair) (old now new : List Stored) (number : ℕ)
    → new ≡ outside_part (part_of pair number) now → TakingPair pair old now number
    → TakingPair pair old new (number + 1)
taking_pair_more pair old now new number is t = record {
  outside =
      ap (held_outside pair) is
      ∙ filter-filter out others now
      ∙ filter_agree (λ (h : Stored). others h && out h) out
      (λ h. outside_both pair part h (eq_itself exact_pairs pair)) now
      ∙ t.outside;
  numbers =
      λ h i inside.
      let both = in_filtered others now h (subst (In h) is i) in
      let low = t.numbers h both.0 inside in
      let its : part_of pair h.0.part ≡ h.0 =
      ap (λ (p : Pair). part_of p h.0.part) (eq_same exact_pairs pair (pair_of h.0) inside) in
      let other : number ≡ h.0.part → ⊥ =
      λ e.
      let own : is_of part h ≡ true =
      subst (λ (u : Part). eq_by_cmp part_cmp part u ≡ true) (ap (part_of pair) e ∙ its) (eq_itself exact_parts part) in
      true≢false (sym both.1 ∙ ap not own) in
      omega (arith, low, other);
}
  where
    part : Part
    part = part_of pair number

    others : Stored → Bool
    others h = not (is_of part h)

    out : Stored → Bool
    out h = not (is_in pair h.0)

pub taking_pair_all : (pair : Pair) (held old now : List Stored) (number : ℕ) → 4 ≤ number → HasFew pair held
    → ((h : Stored) → In h now → In h held) → TakingPair pair old now number → now ≡ held_outside pair old
taking_pair_all pair held old now number whole few among t =
    sym (filter_whole (λ (h : Stored). not (is_in pair h.0)) now
    (λ h i. ap not (false_from_ne_true (is_in pair h.0) (λ inside.
    let low = t.numbers h i inside in
    let high = few h (among h i) inside in
    absurd (omega (arith, low, high, whole))))))
    ∙ t.outside

-- ---- in layers

pub among : (slots : Slots) (held : List Stored) (index : Names) → IsIndexOf slots held index
    → AreAmong slots held index
among slots held index indexed = record {
  rises = indexed.rises;
  in_order = indexed.in_order;
  settled = indexed.settled;
  recent = indexed.recent;
}

pub fewer_among : (slots : Slots) (held : List Stored) (old new : Names) (p : Stored → Bool)
    → new.settled.items ≡ filter p old.settled.items → new.recent.items ≡ filter p old.recent.items
    → AreAmong slots held old → AreAmong slots held new
fewer_among slots held old new p settled recent a = record {
  rises = a.rises;
  in_order = record {
    settled =
        subst (AreInOrder slots) (sym settled)
        (climbs_filter exact_keys (key_in slots) p old.settled.items a.in_order.settled);
    recent =
        subst (AreInOrder slots) (sym recent)
        (climbs_filter exact_keys (key_in slots) p old.recent.items a.in_order.recent);
  };
  settled = λ h i. a.settled h (in_filtered p old.settled.items h (subst (In h) settled i)).0;
  recent = λ h i. a.recent h (in_filtered p old.recent.items h (subst (In h) recent i)).0;
}
