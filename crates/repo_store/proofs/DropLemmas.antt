-- What is left where the parts of publications are dropped.
use Rattle.std.proofs.Common.{◌≡◌, ◌≢◌, ℕ, ◌+◌, ◌-◌, ◌*◌, ◌<◌, ◌≤◌, Bool, true, false, cond, not, inl, inr, List, []}
use Rattle.std.proofs.Common.{◌∷◌, length, get_or, drop, Some, None, refl, sym, ap, subst, ◌∙◌, arith}
use Rattle.std.specs.Ordering.{nat_cmp, is_le, eq_by_cmp}
use Rattle.std.specs.declared.cmp.Ordering.{Ordering}
use Rattle.std.specs.declared.cmp.Ordering.TheVariants.{Less, Equal, Greater}
use Rattle.std.proofs.lemmas.Bool.{true≢false, false_from_ne_true}
use Rattle.std.proofs.lemmas.List.{drop_more, at_drop_all}
use Rattle.std.proofs.lemmas.List.Filters.{length-filter_both}
use Rattle.sorted_lists.specs.SortedList.{by_order, keys, Rises, without_key, first_from}
use Rattle.sorted_lists.specs.Members.{In}
use Rattle.sorted_lists.proofs.Orders.{then_second}
use Rattle.sorted_lists.proofs.TwoOrders.{first_le, then_then, nat_le, less_nat}
use Rattle.sorted_lists.proofs.Sets.{eq_same, eq_itself}
use Rattle.sorted_lists.proofs.MapChanges.{length-without}
use Rattle.sorted_lists.proofs.RunOrder.{Le, le_itself, lt_not_le, in_without, first_is, none_from_on}
use Rattle.sorted_lists.proofs.Members.{in_filtered, filter_whole}
use Rattle.sorted_lists.proofs.LeastOnes.{le_both}
use Rattle.sorted_lists.proofs.Lookups.{value_there}
use Rattle.repo_plan.specs.declared.part.Part.{Part}
use Rattle.repo_plan.specs.Parts.{Pair, pair_cmp, pair_of, part_cmp, part_of}
use Rattle.repo_plan.specs.Plan.{is_in}
use Rattle.repo_plan.proofs.Orders.{exact_pairs, exact_parts}
use Rattle.repo_store.specs.PacketTable.{Stored, PacketTableState}
use Rattle.repo_store.specs.StoreList.{is_in_any}
use Rattle.repo_store.specs.Slots.{PacketsStay, held_outside, held_outside_all, HasFew}
use Rattle.repo_store.proofs.StoreLemmas.{outside_more}
use Rattle.repo_store.proofs.IndexLemmas.{PartLe}

abbrev PairLe : Pair → Pair → Type 0
PairLe a b = Le exact_pairs a b

-- how far the parts of a publication are dropped: some are, and what is outside of it stays
pub record Dropping (pair : Pair) (old now : PacketTableState) : Type 0 where
  pub outside : held_outside pair now.held ≡ held_outside pair old.held
  pub same : PacketsStay old now
  pub spare : now.spare ≡ old.spare
  pub few : length old.held ≤ length now.held + 65536
  pub by_number : (h : Stored) → In h now.held → is_in pair h.0 ≡ true → length old.held ≤ length now.held + h.0.part

pub dropping_none : (pair : Pair) (k : PacketTableState) → Dropping pair k k
dropping_none pair k = record {
  outside = refl;
  same = λ h i. refl;
  spare = refl;
  few = omega arith;
  by_number = λ h i inside. omega arith;
}

-- a part of the publication goes, and what is outside of it stays
outside_without : (pair : Pair) (t : Part) (held : List Stored) → is_in pair t ≡ true
    → held_outside pair (without_key part_cmp t held) ≡ held_outside pair held
outside_without pair t [] inside = refl
outside_without pair t (h ∷ held) inside = go (part_cmp t h.0) refl (outside_without pair t held inside) where
  left : List Stored
  left = held_outside pair held

  go : (o : Ordering) → part_cmp t h.0 ≡ o → held_outside pair (without_key part_cmp t held) ≡ left
      → held_outside pair (by_order o (h ∷ held) held (h ∷ without_key part_cmp t held))
      ≡ cond (not (is_in pair h.0)) (h ∷ left) left
  go Less e same = refl
  go Equal e same =
      sym (ap (λ (b : Bool). cond (not b) (h ∷ left) left)
      (ap (is_in pair) (sym (exact_parts.same t h.0 e)) ∙ inside))
  go Greater e same = ap (λ (xs : List Stored). cond (not (is_in pair h.0)) (h ∷ xs) xs) same

-- ---- the end

abbrev pub first_of : Pair → Part
first_of pair = record { publisher = pair.0; seq = pair.1; part = 0 }

-- of parts in order, the publications are too
pair_up_to : (a b : Part) → PartLe a b → PairLe (pair_of a) (pair_of b)
pair_up_to a b h =
    first_le (pair_cmp (pair_of a) (pair_of b)) (nat_cmp a.part b.part)
    (sym (ap is_le (then_then (nat_cmp a.publisher b.publisher) (nat_cmp a.seq b.seq) (nat_cmp a.part b.part))) ∙ h)

-- what stands between two parts of a publication is of it too
in_between : (pair : Pair) (low t u : Part) → is_in pair low ≡ true → is_in pair u ≡ true → PartLe low t → PartLe t u
    → is_in pair t ≡ true
in_between pair low t u own inside above high =
    let to : PairLe (pair_of t) pair =
    subst (PairLe (pair_of t)) (sym (eq_same exact_pairs pair (pair_of u) inside)) (pair_up_to t u high) in
    let from : PairLe pair (pair_of t) =
    subst (λ (p : Pair). PairLe p (pair_of t)) (sym (eq_same exact_pairs pair (pair_of low) own))
    (pair_up_to low t above) in
    ap (eq_by_cmp pair_cmp pair) (sym (le_both exact_pairs pair (pair_of t) from to)) ∙ eq_itself exact_pairs pair

first_up_to : (pair : Pair) (t : Part) → is_in pair t ≡ true → part_cmp t (first_of pair) ≢ Less
first_up_to pair t inside less =
    let same : pair ≡ pair_of t = eq_same exact_pairs pair (pair_of t) inside in
    let tied : pair_cmp pair (pair_of t) ≡ Equal = ap (pair_cmp pair) (sym same) ∙ exact_pairs.itself pair in
    lt_not_le exact_parts t (first_of pair) less
    (ap is_le (then_then (nat_cmp pair.0 t.publisher) (nat_cmp pair.1 t.seq) (nat_cmp 0 t.part)
    ∙ then_second (pair_cmp pair (pair_of t)) (nat_cmp 0 t.part) tied)
    ∙ nat_le 0 t.part (omega arith))

-- of two parts of a publication the later has the greater number
later_part : (pair : Pair) (t u : Part) → is_in pair t ≡ true → is_in pair u ≡ true → PartLe t u → (u ≡ t → ⊥)
    → t.part < u.part
later_part pair t u t_inside u_inside le other = go (part_cmp t u) refl le where
  tied : pair_cmp (pair_of t) (pair_of u) ≡ Equal
  tied =
      ap (λ (p : Pair). pair_cmp p (pair_of u)) (sym (eq_same exact_pairs pair (pair_of t) t_inside))
      ∙ ap (pair_cmp pair) (sym (eq_same exact_pairs pair (pair_of u) u_inside))
      ∙ exact_pairs.itself pair

  by_part : part_cmp t u ≡ nat_cmp t.part u.part
  by_part =
      then_then (nat_cmp t.publisher u.publisher) (nat_cmp t.seq u.seq) (nat_cmp t.part u.part)
      ∙ then_second (pair_cmp (pair_of t) (pair_of u)) (nat_cmp t.part u.part) tied

  go : (o : Ordering) → part_cmp t u ≡ o → is_le o ≡ true → t.part < u.part
  go Less e h = less_nat t.part u.part (sym by_part ∙ e)
  go Equal e h = absurd (other (sym (exact_parts.same t u e)))
  go Greater e h = absurd cc

-- the first part that is left goes: at most as many went before it as its number says
pub dropping_more : (pair : Pair) (old now new : PacketTableState) (x : Stored) → is_in pair x.0 ≡ true
    → x.0.part < 65536
    → Rises part_cmp (keys now.held) → first_from part_cmp (first_of pair) now.held ≡ Some x
    → new.held ≡ without_key part_cmp x.0 now.held → PacketsStay now new → new.spare ≡ now.spare → Dropping pair old now
    → Dropping pair old new
dropping_more pair old now new x inside small rises is held same spare d =
    let found = first_is exact_parts (first_of pair) now.held rises x is in
    let there = value_there exact_parts now.held x rises found.is_in in
    let fewer : length new.held + 1 ≡ length now.held =
    ap (λ (es : List Stored). length es + 1) held ∙ length-without exact_parts.total x.0 x.1 now.held rises there in
    let before = d.by_number x found.is_in inside in
    record {
      outside = ap (held_outside pair) held ∙ outside_without pair x.0 now.held inside ∙ d.outside;
      same =
          λ h i.
          same h i ∙ d.same h (in_without exact_parts x.0 now.held rises h (subst (In h) held i)).0;
      spare = spare ∙ d.spare;
      few = omega (arith, fewer, before, small);
      by_number =
          λ h i within.
          let was = in_without exact_parts x.0 now.held rises h (subst (In h) held i) in
          let high : PartLe x.0 h.0 =
          elim (found.others h was.0) [
            | inl less ↦ absurd (first_up_to pair h.0 within less)
            | inr after ↦ after
          ] in
          omega (arith, fewer, before, later_part pair x.0 h.0 inside within high was.1);
    }

all_outside : (pair : Pair) (old now : PacketTableState) → Dropping pair old now
    → ((h : Stored) → In h now.held → is_in pair h.0 ≡ true → ⊥) → now.held ≡ held_outside pair old.held
all_outside pair old now d none =
    sym (filter_whole (λ (h : Stored). not (is_in pair h.0)) now.held
    (λ h i. ap not (false_from_ne_true (is_in pair h.0) (none h i))))
    ∙ d.outside

module _ (pair : Pair) (old now : PacketTableState) (d : Dropping pair old now) where
  pub dropped_none : first_from part_cmp (first_of pair) now.held ≡ None → now.held ≡ held_outside pair old.held
  dropped_none none = all_outside pair old now d (λ h i inside.
      first_up_to pair h.0 inside (none_from_on exact_parts (first_of pair) now.held none h i))

  pub dropped_other : (x : Stored) → Rises part_cmp (keys now.held)
      → first_from part_cmp (first_of pair) now.held ≡ Some x → is_in pair x.0 ≡ false
      → now.held ≡ held_outside pair old.held
  dropped_other x rises is other = all_outside pair old now d (λ h i inside.
      let found = first_is exact_parts (first_of pair) now.held rises x is in
      elim (found.others h i) [
        | inl less ↦ first_up_to pair h.0 inside less
        | inr high ↦ true≢false
            (sym (in_between pair (first_of pair) x.0 h.0 (eq_itself exact_pairs pair) inside found.above
            high) ∙ other)
      ])

  -- the next one is gone, and there are fewer
  pub fewer_held : (new : PacketTableState) (x : Stored) → Rises part_cmp (keys now.held) → In x now.held
      → new.held ≡ without_key part_cmp x.0 now.held → length new.held < length now.held
  fewer_held new x rises i held =
      let less = length-without exact_parts.total x.0 x.1 now.held rises (value_there exact_parts now.held x rises i) in
      omega (arith, less, ap length held)

-- ---- few parts

-- what comes before a part of the publication has a lesser number
lesser_number : (pair : Pair) (t : Part) (number : ℕ) → is_in pair t ≡ true → part_cmp t (part_of pair number) ≡ Less
    → t.part < number
lesser_number pair t number inside less =
    let end : Part = part_of pair number in
    later_part pair t end inside (eq_itself exact_pairs pair) (ap is_le less)
    (λ e. lt_not_le exact_parts t end less (subst (λ (u : Part). PartLe end u) e (le_itself exact_parts end)))

pub few_none : (pair : Pair) (held : List Stored) → first_from part_cmp (part_of pair 4) held ≡ None → HasFew pair held
few_none pair held none h i inside =
    lesser_number pair h.0 4 inside (none_from_on exact_parts (part_of pair 4) held none h i)

pub few_other : (pair : Pair) (held : List Stored) (x : Stored) → Rises part_cmp (keys held)
    → first_from part_cmp (part_of pair 4) held ≡ Some x → is_in pair x.0 ≡ false → HasFew pair held
few_other pair held x rises is other h i inside =
    let from : Part = part_of pair 4 in
    let found = first_is exact_parts from held rises x is in
    elim (found.others h i) [
      | inl less ↦ lesser_number pair h.0 4 inside less
      | inr high ↦
          let own = in_between pair from x.0 h.0 (eq_itself exact_pairs pair) inside found.above high in
          absurd (true≢false (sym own ∙ other))
    ]

-- ---- the parts of many publications

-- how far the parts of these publications are dropped: those of the first i are
pub record DroppingAll (pairs : List Pair) (i : ℕ) (old now : PacketTableState) : Type 0 where
  pub left : held_outside_all (drop i pairs) now.held ≡ held_outside_all pairs old.held
  pub same : PacketsStay old now
  pub spare : now.spare ≡ old.spare
  pub few : length old.held ≤ length now.held + (length pairs - (length pairs - i)) * 65536

pub dropping_all_none : (pairs : List Pair) (k : PacketTableState) → DroppingAll pairs 0 k k
dropping_all_none pairs k = record { left = refl; same = λ h i. refl; spare = refl; few = omega arith }

pub dropping_all_more : (pairs : List Pair) (i : ℕ) (d : Pair) (old now new : PacketTableState) → i < length pairs
    → new.held ≡ held_outside (get_or pairs i d) now.held → PacketsStay now new → new.spare ≡ now.spare
    → length now.held ≤ length new.held + 65536 → DroppingAll pairs i old now → DroppingAll pairs (i + 1) old new
dropping_all_more pairs i d old now new low held same spare few all = record {
  left =
      ap (held_outside_all (drop (i + 1) pairs)) held
      ∙ sym (outside_more (get_or pairs i d) (drop (i + 1) pairs) now.held)
      ∙ ap (λ (ps : List Pair). held_outside_all ps now.held) (sym (drop_more pairs i d low))
      ∙ all.left;
  same = λ h j.
      same h j
      ∙ all.same h
      (in_filtered (λ (o : Stored). not (is_in (get_or pairs i d) o.0)) now.held h (subst (In h) held j)).0;
  spare = spare ∙ all.spare;
  few = omega (arith, few, all.few, low);
}

pub dropping_all_end : (pairs : List Pair) (i : ℕ) (old now : PacketTableState) → length pairs ≤ i
    → DroppingAll pairs i old now → now.held ≡ held_outside_all pairs old.held
dropping_all_end pairs i old now whole all =
    sym (filter_whole (λ (h : Stored). not (is_in_any [] h.0)) now.held (λ h j. refl))
    ∙ sym (at_drop_all (λ (ps : List Pair). held_outside_all ps now.held) pairs i whole)
    ∙ all.left

-- no more entries are held after a drop than before
pub fewer_left : (pairs : List Pair) (i : ℕ) (old now : PacketTableState) → length pairs ≤ i
    → DroppingAll pairs i old now
    → length now.held ≤ length old.held
fewer_left pairs i old now whole all =
    let out : Stored → Bool = λ h. not (is_in_any pairs h.0) in
    omega (
      arith,
      ap length (dropping_all_end pairs i old now whole all),
      length-filter_both (λ (h : Stored). is_in_any pairs h.0) out (λ h. refl) old.held,
    )
