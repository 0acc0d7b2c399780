-- The parts of a phase, which come in order after a place.
use Rattle.std.proofs.Common.{◌≡◌, ◌⊎◌, inl, inr, ℕ, suc, zero, ◌≤◌, ◌<◌, Bool, true, false, List, [], ◌∷◌, length}
use Rattle.std.proofs.Common.{get_or, take, Option, Some, None, refl, sym, ap, ◌∙◌, arith}
use Rattle.std.specs.Prelude.{filter, slice_get}
use Rattle.std.specs.List.{All}
use Rattle.std.specs.Ordering.{is_lt}
use Rattle.std.specs.declared.cmp.Ordering.{Ordering}
use Rattle.std.specs.declared.cmp.Ordering.TheVariants.{Less, Equal, Greater}
use Rattle.std.proofs.lemmas.Bool.{true≢false, cases_Bool}
use Rattle.repo_plan.specs.declared.part.Part.{Part}
use Rattle.sorted_lists.specs.SortedList.{Rises}
use Rattle.repo_plan.specs.Parts.{part_cmp}
use Rattle.repo_plan.specs.Plan.{is_unclaimed, unclaimed, is_after}
use Rattle.repo_plan.proofs.Orders.{exact_parts}
use Rattle.sorted_lists.proofs.Sets.{In, in_filter, contains_in, in_contains, rises_filter}
use Rattle.sorted_lists.proofs.Members.{filter_whole, in_at, in_filtered, in_take}
use Rattle.repo_plan.proofs.Known.{unclaimed_rises, contains-unclaimed}
use Rattle.group_model.proofs.Tries.{rises_take, take_short}
use Rattle.repo_holdings.specs.HoldingsState.{HoldingsState, held_plan}
use Rattle.repo_member.specs.MemberState.{MemberState}
use Rattle.bench_world.specs.Lending.{lends}
use Rattle.bench_world.specs.Gathering.{next_parts, next_lent}
use Rattle.bench_world.proofs.SetSums.{filter_fewer}

-- ---- lists

pub all_from_in : {A : Type 0} (P : A → Type 0) (xs : List A) → ((x : A) → In x xs → P x) → All P xs
all_from_in P xs h k d l = h (get_or xs k d) (in_at xs k d l)

pub in_some : {A : Type 0} (xs : List A) (x : A) → In x xs → 0 < length xs
in_some [] x i = absurd i
in_some (y ∷ ys) x i = omega arith

take_some : {A : Type 0} (n : ℕ) (xs : List A) → 0 < n → take n xs ≡ [] → (x : A) → In x xs → ⊥
take_some zero xs l e x i = omega (arith, l)
take_some (suc n) [] l e x i = i
take_some (suc n) (y ∷ ys) l e x i = cc

pub none_pass : {A : Type 0} (p : A → Bool) (xs : List A) → length (filter p xs) ≡ 0 → (x : A) → In x xs → p x ≡ false
none_pass p xs e x i = elim (cases_Bool (p x)) [
  | inl on ↦
      let some : 0 < length (filter p xs) = in_some (filter p xs) x (in_filter p xs x i on) in
      absurd (omega (arith, some, e))
  | inr off ↦ off
]

pub from_slice_get : {A : Type 0} (xs : List A) (k : ℕ) (x : A) → slice_get xs k ≡ Some x → In x xs
from_slice_get [] k x e = absurd cc
from_slice_get (y ∷ ys) zero x e = let same : y ≡ x = cc in inl (sym same)
from_slice_get (y ∷ ys) (suc k) x e = inr (from_slice_get ys k x e)

-- ---- the next parts

-- Parts that a phase asks for: in order, few, and each wanted and claimed by no fetcher.
pub record AreAsked (h : HoldingsState) (ts : List Part) : Type 0 where
  pub rise : Rises part_cmp ts
  pub few : length ts ≤ 4096
  pub unclaimed : (t : Part) → In t ts → is_unclaimed (held_plan h) t ≡ true

module _ (h : HoldingsState) (after : Option Part) where
  -- The wanted and unclaimed parts after the place.
  abbrev later_parts : List Part
  later_parts = filter (is_after after) (unclaimed (held_plan h))

  later_rise : Rises part_cmp later_parts
  later_rise =
      rises_filter exact_parts.total (is_after after) (unclaimed (held_plan h)) (unclaimed_rises (held_plan h))

  in_later : (t : Part) → is_unclaimed (held_plan h) t ≡ true → is_after after t ≡ true → In t later_parts
  in_later t u later =
      in_filter (is_after after) (unclaimed (held_plan h)) t
      (in_contains exact_parts (unclaimed (held_plan h)) t (contains-unclaimed (held_plan h) t ∙ u)) later

  pub from_later : (t : Part) → In t later_parts → (is_unclaimed (held_plan h) t ≡ true) × (is_after after t ≡ true)
  from_later t i =
      let r = in_filtered (is_after after) (unclaimed (held_plan h)) t i in
      (sym (contains-unclaimed (held_plan h) t) ∙ contains_in exact_parts (unclaimed (held_plan h)) t r.0, r.1)

  -- ---- of a fetch

  pub next_rise : Rises part_cmp (next_parts after h)
  next_rise = rises_take 4096 later_parts later_rise

  pub few_next : length (next_parts after h) ≤ 4096
  few_next = take_short 4096 later_parts

  pub next_unclaimed : (t : Part) → In t (next_parts after h) → is_unclaimed (held_plan h) t ≡ true
  next_unclaimed t i = (from_later t (in_take 4096 later_parts t i)).0

  pub next_asked : AreAsked h (next_parts after h)
  next_asked = record { rise = next_rise; few = few_next; unclaimed = next_unclaimed }

  -- ---- of a settle

  module _ (others : List MemberState) where
    abbrev lent_parts : List Part
    lent_parts = filter (lends others) later_parts

    from_lent : (t : Part) → In t (next_lent others after h) → In t later_parts × (lends others t ≡ true)
    from_lent t i = in_filtered (lends others) later_parts t (in_take 4096 lent_parts t i)

    pub lent_asked : AreAsked h (next_lent others after h)
    lent_asked = record {
      rise = rises_take 4096 lent_parts (rises_filter exact_parts.total (lends others) later_parts later_rise);
      few = take_short 4096 lent_parts;
      unclaimed = λ t i. (from_later t (from_lent t i).0).0;
    }

    pub lent_later : (t : Part) → In t (next_lent others after h) → is_after after t ≡ true
    lent_later t i = (from_later t (from_lent t i).0).1

    pub all_lent : filter (lends others) (next_lent others after h) ≡ next_lent others after h
    all_lent = filter_whole (lends others) (next_lent others after h) (λ t i. (from_lent t i).1)

    -- Where there is none, each open part was passed, or nobody lends it.
    pub lent_none : next_lent others after h ≡ [] → (t : Part) → is_unclaimed (held_plan h) t ≡ true
        → (is_after after t ≡ false) ⊎ (lends others t ≡ false)
    lent_none e t u = elim (cases_Bool (is_after after t)) [
      | inl later ↦
          elim (cases_Bool (lends others t)) [
            | inl lent ↦
                absurd
                (take_some 4096 lent_parts (omega arith) e t
                (in_filter (lends others) later_parts t (in_later t u later) lent))
            | inr unlent ↦ inr unlent
          ]
      | inr passed ↦ inl passed
    ]

-- A later place leaves fewer parts after it.
pub place_later : (after : Option Part) (place : Part) (parts : List Part) → In place parts
    → is_after after place ≡ true
    → length (filter (is_after (Some place)) parts) < length (filter (is_after after) parts)
place_later after place parts i later =
    filter_fewer (is_after after) (is_after (Some place)) (sharper after later) parts place i later
    (ap is_lt (exact_parts.itself place)) where
      less : (o : Ordering) → is_lt o ≡ true → o ≡ Less
      less Less h = refl
      less Equal h = absurd (true≢false (sym h))
      less Greater h = absurd (true≢false (sym h))

      sharper : (o : Option Part) → is_after o place ≡ true → (y : Part) → is_after (Some place) y ≡ true
          → is_after o y ≡ true
      sharper None l y h = refl
      sharper (Some u) l y h =
          ap is_lt (exact_parts.total.trans u place y (less (part_cmp u place) l) (less (part_cmp place y) h))
