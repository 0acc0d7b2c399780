-- The least held part from a part on, and the search that leaps from wanted parts to held ones.
use Rattle.std.proofs.Common.{◌≡◌, ◌⊎◌, inl, inr, ℕ, ◌≤◌, ◌<◌, Bool, true, false, cond}
use Rattle.std.proofs.Common.{List, [], ◌∷◌, Option, Some, None, refl, sym, ap, ◌∙◌, subst, arith}
use Rattle.std.proofs.lemmas.Bool.{true≢false, false_from_ne_true, and_parts, and_right, leb-true, cases_lt}
use Rattle.std.specs.Prelude.{nat_le, is_some}
use Rattle.std.specs.List.{filter}
use Rattle.std.specs.Ordering.{is_le}
use Rattle.std.specs.declared.cmp.Ordering.TheVariants.{Less}
use Rattle.repo_plan.specs.declared.part.Part.{Part}
use Rattle.sorted_lists.specs.SortedList.{Rises, first_from}
use Rattle.sorted_lists.specs.Least.{IsFirstBy}
use Rattle.sorted_lists.proofs.Orders.{first_less}
use Rattle.sorted_lists.proofs.Sets.{In, contains_in, in_contains, each_before}
use Rattle.sorted_lists.proofs.RunOrder.{Le, tri, lt_le, le_itself, lt_not_le, lt_le_trans}
use Rattle.sorted_lists.proofs.RunOrder.{le_split, IsFirst, first_is, none_from_on}
use Rattle.sorted_lists.proofs.LeastOnes.{first_same, le_both}
use Rattle.sorted_lists.proofs.Lookups.{there_value, value_there}
use Rattle.sorted_lists.proofs.Numbers.{size_le, le_size}
use Rattle.repo_plan.specs.Parts.{Pair, Shape, pair_cmp, part_cmp, pair_of, part_of}
use Rattle.repo_plan.specs.Plan.{PlanState, knows, holds, shape_of, first}
use Rattle.repo_plan.specs.Sound.{PlanIsSound}
use Rattle.repo_plan.specs.Leaps.{is_from, PassesFrom, IsLeastFrom, IsHeldHere, IsNextKnown, IsHeldLater, IsLeastLater}
use Rattle.repo_plan.proofs.Orders.{exact_pairs, exact_parts}
use Rattle.repo_plan.proofs.Held.{part_as_number, tells}
use Rattle.repo_plan.proofs.Views.{holds_is}
use Rattle.repo_plan.specs.declared.plan.Plan.TheInside.{Inside}
use Rattle.repo_plan.specs.PlanFields.{holdings, is_noted, IsPlan}
use Rattle.repo_plan.specs.Parts.{last_part}

-- ---- parts of one publication, and of a later one

pub le_here : (pair : Pair) (x y : ℕ) → x ≤ y → is_from (part_of pair x) (part_of pair y) ≡ true
le_here pair x y l =
    ap is_le (part_as_number (part_of pair x) (part_of pair y))
    ∙ size_le exact_pairs.total exact_pairs.same pair x y l

here_le : (pair : Pair) (x y : ℕ) → is_from (part_of pair x) (part_of pair y) ≡ true → x ≤ y
here_le pair x y l =
    le_size exact_pairs.total exact_pairs.same pair x y
    (sym (ap is_le (part_as_number (part_of pair x) (part_of pair y))) ∙ l)

pub later_less : (t u : Part) → pair_cmp (pair_of t) (pair_of u) ≡ Less → part_cmp t u ≡ Less
later_less t u h = part_as_number t u ∙ first_less (pair_cmp (pair_of t) (pair_of u)) _ h

-- a part that is not below another is of its publication or of a later one
pub from_cases : (t u : Part) → is_from t u ≡ true
    → ((pair_of u ≡ pair_of t) × (t.part ≤ u.part)) ⊎ (pair_cmp (pair_of t) (pair_of u) ≡ Less)
from_cases t u l = elim (tri exact_pairs (pair_of t) (pair_of u)) [
  | inl less ↦ inr less
  | inr rest ↦ elim rest [
    | inl same ↦ inl (
      sym same,
      here_le (pair_of t) t.part u.part
          (subst (λ (q : Pair). is_from t (part_of q u.part) ≡ true) (sym same) l),
    )
    | inr greater ↦ absurd (lt_not_le exact_parts u t (later_less u t greater) l)
  ]
]

-- ---- the least of a list in order

module _ (test : Part → Bool) where
  abbrev pub PassesIn : List Part → Part → Type 0
  PassesIn xs u = In u xs × (test u ≡ true)

  pub least_first : (xs : List Part) → Rises part_cmp xs
      → IsFirstBy part_cmp (λ u. u) (PassesIn xs) (first (filter test xs))
  least_first [] r = λ y i. i.0
  least_first (x ∷ xs) r = go (test x) refl (least_first xs r.1) where
    go : (b : Bool) → test x ≡ b → IsFirstBy part_cmp (λ u. u) (PassesIn xs) (first (filter test xs))
        → IsFirstBy part_cmp (λ u. u) (PassesIn (x ∷ xs))
        (first (cond b (x ∷ filter test xs) (filter test xs)))
    go true h least = record {
      there = (inl refl, h);
      least = λ y i. elim (let j : (y ≡ x) ⊎ In y xs = i.0 in j) [
        | inl same ↦ subst (λ (z : Part). Le exact_parts x z) (sym same) (le_itself exact_parts x)
        | inr j ↦ lt_le exact_parts x y (each_before exact_parts.total x xs r.0 y j)
      ];
    }
    go false h least =
        first_same exact_parts (λ u. u) (PassesIn xs) (PassesIn (x ∷ xs)) (λ y i. (inr i.0, i.1))
        (λ y i. elim (let j : (y ≡ x) ⊎ In y xs = i.0 in j) [
          | inl same ↦ absurd (true≢false (sym i.1 ∙ ap test same ∙ h))
          | inr j ↦ (j, i.1)
        ])
        (first (filter test xs)) least

-- there is one least
pub one_least : (P : Part → Type 0) (a b : Option Part) → IsFirstBy part_cmp (λ u. u) P a
    → IsFirstBy part_cmp (λ u. u) P b → a ≡ b
one_least P None None p q = refl
one_least P None (Some b) p q = absurd (p b q.there)
one_least P (Some a) None p q = absurd (q a p.there)
one_least P (Some a) (Some b) p q =
    ap (λ (u : Part). Some u) (le_both exact_parts a b (p.least b q.there) (q.least a p.there))

module _ (p : PlanState) (s : PlanIsSound p) (t : Part) where
  pub listed_least : (r : Option Part) → IsLeastFrom (holds p) t r → r ≡ first (filter (is_from t) p.held)
  listed_least r h =
      one_least (PassesFrom (holds p) t) r (first (filter (is_from t) p.held)) h
      (first_same exact_parts (λ u. u) (PassesIn (is_from t) p.held) (PassesFrom (holds p) t)
      (λ u i. (i.1, contains_in exact_parts p.held u i.0)) (λ u i. (in_contains exact_parts p.held u i.1, i.0))
      (first (filter (is_from t) p.held)) (least_first (is_from t) p.held s.in_order.held))

  -- ---- in its publication, or in a later one

  pub found_here : (u : Part) → IsHeldHere p t (Some u) → IsLeastFrom (holds p) t (Some u)
  found_here u h =
      let same : pair_of u ≡ pair_of t = ap pair_of h.0 in
      record {
        there = (
          subst (λ (v : Part). is_from t v ≡ true) (sym h.0) (le_here (pair_of t) t.part u.part h.1),
          h.2,
        );
        least = λ v i. elim (from_cases t v i.0) [
          | inl here ↦ elim (cases_lt v.part u.part) [
            | inl below ↦
                absurd (true≢false
                (sym (ap (λ (q : Pair). holds p (part_of q v.part)) (sym here.0) ∙ i.1) ∙ h.3 v.part here.1 below))
            | inr above ↦
                subst (λ (w : Part). is_from w v ≡ true) (sym h.0)
                (ap (λ (q : Pair). is_from (part_of (pair_of t) u.part) (part_of q v.part)) here.0
                ∙ le_here (pair_of t) u.part v.part above)
          ]
          | inr later ↦
              lt_le exact_parts u v
              (later_less u v (ap (λ (q : Pair). pair_cmp q (pair_of v)) same ∙ later))
        ];
      }

  pub found_later : IsHeldHere p t None → (r : Option Part) → IsLeastLater p t r → IsLeastFrom (holds p) t r
  found_later none r h =
      first_same exact_parts (λ u. u) (IsHeldLater p t) (PassesFrom (holds p) t)
      (λ u i. (lt_le exact_parts t u (later_less t u i.0), i.1))
      (λ u i. elim (from_cases t u i.0) [
        | inl here ↦
            absurd (true≢false
            (sym (ap (λ (q : Pair). holds p (part_of q u.part)) (sym here.0) ∙ i.1) ∙ none u.part here.1))
        | inr later ↦ (later, i.1)
      ]) r h

  -- ---- the record of the next publication

  held_known : (u : Part) → holds p u ≡ true → knows p (pair_of u) ≡ true
  held_known u h = (and_parts (knows p (pair_of u)) _ (s.held u h).asked).0

  pub none_known : IsNextKnown p (pair_of t) None → IsLeastLater p t None
  none_known none = λ u i. none (pair_of u) (held_known u i.1) i.0

  module _ (n : Pair) (next : IsNextKnown p (pair_of t) (Some n)) where
    -- what the record of a held part tells
    entry_of : (u : Part) → holds p u ≡ true → (shape : Shape) × In (pair_of u, shape) p.shapes
    entry_of u h = go (shape_of p (pair_of u)) refl (s.shapes (pair_of u) ∙ (s.held u h).with_record) where
      go : (o : Option Shape) → shape_of p (pair_of u) ≡ o → is_some o ≡ true
          → (shape : Shape) × In (pair_of u, shape) p.shapes
      go None e k = absurd (true≢false (sym k))
      go (Some shape) e k = (shape, there_value exact_pairs p.shapes (pair_of u) shape e)

    pub none_later : first_from pair_cmp n p.shapes ≡ None → IsLeastLater p t None
    none_later none = λ u i.
        let entry = entry_of u i.1 in
        lt_not_le exact_pairs (pair_of u) n (none_from_on exact_pairs n p.shapes none (pair_of u, entry.0) entry.1)
        (next.1 (pair_of u) (held_known u i.1) i.0)

    pub record_found : (y : Pair × Shape) → first_from pair_cmp n p.shapes ≡ Some y
        → IsLeastLater p t (Some (part_of y.0 0))
    record_found y found =
        let f : IsFirst exact_pairs n p.shapes y = first_is exact_pairs n p.shapes s.in_order.shapes y found in
        let listed : shape_of p y.0 ≡ Some y.1 = value_there exact_pairs p.shapes y s.in_order.shapes f.is_in in
        record {
          there = (
            lt_le_trans exact_pairs (pair_of t) n y.0 next.0 f.above,
            sym (s.shapes y.0) ∙ ap is_some listed,
          );
          least = λ u i.
              let entry = entry_of u i.1 in
              elim (f.others (pair_of u, entry.0) entry.1) [
                | inl before ↦
                    absurd (lt_not_le exact_pairs (pair_of u) n before
                    (next.1 (pair_of u) (held_known u i.1) i.0))
                | inr le ↦ elim (le_split exact_pairs y.0 (pair_of u) le) [
                  | inl less ↦ lt_le exact_parts (part_of y.0 0) u (later_less (part_of y.0 0) u less)
                  | inr same ↦
                      ap (λ (q : Pair). is_from (part_of q 0) u) same
                      ∙ le_here (pair_of u) 0 u.part (omega arith)
                ]
              ];
        }

-- ---- what no held record counts isn't held

pub beyond_last : (p : Inside) (i : IsPlan p) (pair : Pair) (x : ℕ) (shape : Shape)
    → shape_of (holdings p) pair ≡ Some shape → last_part shape < x → holds (holdings p) (part_of pair x) ≡ false
beyond_last p i pair x shape e l =
    holds_is p i (part_of pair x)
    ∙ and_right (is_noted p.done.runs p.held.runs (pair, x)) _
    (ap (λ (o : Option Shape). tells o (part_of pair x)) e
    ∙ false_from_ne_true (nat_le x (last_part shape))
    (λ h. let le = leb-true x (last_part shape) h in absurd (omega (arith, le, l))))
