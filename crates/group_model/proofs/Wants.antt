-- What a member wants and claims.
use Rattle.std.proofs.Common.{◌≡◌, ◌≢◌, inl, inr, true, false, not, List, [], ◌∷◌, refl, sym, ◌∙◌, subst, arith, Some}
use Rattle.std.proofs.Common.{None}
use Rattle.std.proofs.lemmas.Bool.{true≢false, and_parts, and_from, not-true, not_from_false, true_from_ne_false}
use Rattle.std.proofs.lemmas.Bool.{cases_eq}
use Rattle.std.specs.declared.cmp.Ordering.TheVariants.{Less}
use Rattle.repo_plan.specs.declared.part.Part.{Part}
use Rattle.sorted_lists.specs.SortedList.{Rises}
use Rattle.repo_plan.specs.Parts.{part_cmp, pair_of, parent}
use Rattle.repo_plan.specs.Plan.{is_wanted, is_claimed, unclaimed, first}
use Rattle.repo_plan.proofs.Orders.{exact_parts}
use Rattle.sorted_lists.proofs.Sets.{In, contains_in, in_contains, each_before}
use Rattle.repo_plan.proofs.Known.{contains-wanted, contains-unclaimed, unclaimed_rises}
use Rattle.group_model.specs.Publications.{Logs, shape_at}
use Rattle.group_model.specs.Member.{Member, plan_of}
use Rattle.group_model.specs.World.{member, logs}
use Rattle.group_model.specs.Steps.{unclaimed_at}
use Rattle.group_model.specs.Wanted.{HoldsRecords, AllHoldRecords, IsWantedPart, WantsThose, TestsThose, ClaimsFirst}
use Rattle.group_model.specs.Wanted.{ClaimsNoneWhere}
use Rattle.group_model.specs.Reached.{InSoundGroups}
use Rattle.group_model.proofs.Plans.{IsWanted, wanted_parts, wanted_from}

-- ---- wanted parts

in_words : (ls : Logs) (m : Member) (t : Part) → is_wanted (plan_of ls m) t ≡ true → IsWantedPart ls m t
in_words ls m t h =
    let w : IsWanted ls m t = wanted_parts ls m t h in
    record {
      known = w.known;
      part = elim w.with_record [
        | inl z ↦ inl z
        | inr r ↦ elim (cases_eq t.part 0) [
          | inl z ↦ inl z
          | inr p ↦ inr (record {
            from_one = omega (arith, p);
            counted = w.counted;
            with_parent = r.with_parent;
          })
        ]
      ];
      not_held = w.not_held;
      not_hidden = w.not_hidden;
    }

from_words : (ls : Logs) (m : Member) (t : Part) → HoldsRecords m → IsWantedPart ls m t
    → is_wanted (plan_of ls m) t ≡ true
from_words ls m t records w = wanted_from ls m t (record {
  known = w.known;
  counted = elim w.part [ inl z ↦ omega (arith, z) | inr s ↦ s.counted ];
  with_record = elim w.part [
    | inl z ↦ inl z
    | inr s ↦ inr (record {
      with_record = records (parent (shape_at ls (pair_of t)) t) s.with_parent;
      with_parent = s.with_parent;
    })
  ];
  not_held = w.not_held;
  not_hidden = w.not_hidden;
})

pub all_hold_records : InSoundGroups AllHoldRecords
all_hold_records env w s j l t h = ((s.members j l).held t h).with_record

pub tests_those : TestsThose
tests_those ls m t records = (in_words ls m t, from_words ls m t records)

pub wants_those : WantsThose
wants_those ls m t records = (
  λ h. in_words ls m t (sym (contains-wanted (plan_of ls m) t) ∙ h),
  λ w. contains-wanted (plan_of ls m) t ∙ from_words ls m t records w,
)

-- ---- the first that nobody claims

is_open : (ls : Logs) (m : Member) (t : Part) → HoldsRecords m → IsWantedPart ls m t
    → is_claimed (plan_of ls m) t ≡ false → In t (unclaimed (plan_of ls m))
is_open ls m t records w free =
    let p = plan_of ls m in
    in_contains exact_parts (unclaimed p) t
    (contains-unclaimed p t
    ∙ and_from (is_wanted p t) _ (from_words ls m t records w) (not_from_false (is_claimed p t) free))

from_open : (ls : Logs) (m : Member) (t : Part) → In t (unclaimed (plan_of ls m))
    → IsWantedPart ls m t × (is_claimed (plan_of ls m) t ≡ false)
from_open ls m t i =
    let p = plan_of ls m in
    let r : (is_wanted p t ≡ true) × (not (is_claimed p t) ≡ true) =
    and_parts (is_wanted p t) _ (sym (contains-unclaimed p t) ∙ contains_in exact_parts (unclaimed p) t i) in
    (in_words ls m t r.0, not-true (is_claimed p t) r.1)

-- the first of a list in order, and the others
record IsFirstOf (ts : List Part) (t : Part) : Type 0 where
  among : In t ts
  before : (u : Part) → In u ts → u ≢ t → part_cmp t u ≡ Less

first_of : (ts : List Part) (t : Part) → Rises part_cmp ts → first ts ≡ Some t → IsFirstOf ts t
first_of [] t r e = absurd cc
first_of (x ∷ xs) t r e =
    let same : x ≡ t = cc in
    subst (IsFirstOf (x ∷ xs)) same (record {
      among = inl refl;
      before = λ u i d. elim i [ inl q ↦ absurd (d q) | inr k ↦ each_before exact_parts.total x xs r.0 u k ];
    })

pub claims_first : ClaimsFirst
claims_first w j t records e =
    let ls : Logs = logs w in
    let m : Member = member w j in
    let f : IsFirstOf (unclaimed_at w j) t = first_of (unclaimed_at w j) t (unclaimed_rises (plan_of ls m)) e in
    let o : IsWantedPart ls m t × (is_claimed (plan_of ls m) t ≡ false) = from_open ls m t f.among in
    record { wanted = o.0; unclaimed = o.1; first = λ u wu free d. f.before u (is_open ls m u records wu free) d }

none_first : (ts : List Part) → first ts ≡ None → (t : Part) → In t ts → ⊥
none_first [] e t i = i
none_first (x ∷ xs) e t i = absurd cc

first_none : (ts : List Part) → ((t : Part) → In t ts → ⊥) → first ts ≡ None
first_none [] h = refl
first_none (x ∷ xs) h = absurd (h x (inl refl))

pub claims_none_where : ClaimsNoneWhere
claims_none_where w j records =
    let ls : Logs = logs w in
    let m : Member = member w j in (
      λ e t want. true_from_ne_false (is_claimed (plan_of ls m) t)
          (λ free. none_first (unclaimed_at w j) e t (is_open ls m t records want free)),
      λ each. first_none (unclaimed_at w j) (λ t i.
          let o : IsWantedPart ls m t × (is_claimed (plan_of ls m) t ≡ false) = from_open ls m t i in
          true≢false (sym (each t o.0) ∙ o.1)),
    )
