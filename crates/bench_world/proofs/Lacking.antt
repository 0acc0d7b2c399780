-- No member lacks a part of a publication that wasn't touched: so it stays where more is touched, and so it is after a
-- settle.
use Rattle.std.proofs.Common.{◌≡◌, ◌⊎◌, inl, inr, ℕ, suc, zero, ◌≤◌, ◌<◌, Bool, true, false, ◌||◌, List, []}
use Rattle.std.proofs.Common.{◌∷◌, map, length, get_or, set, refl, sym, ap, ◌∙◌, subst, arith}
use Rattle.std.proofs.lemmas.Bool.{true≢false, false_from_ne_true, or_cases, or_left, or_right, cases_Bool, cases_eq}
use Rattle.std.proofs.lemmas.List.{length-map, length-set, get_or-map, get_or-set_same, get_or-set_other}
use Rattle.std.proofs.lemmas.List.{get_or_default}
use Rattle.repo_plan.specs.declared.part.Part.{Part}
use Rattle.sorted_lists.specs.SortedList.{keys, contains}
use Rattle.sorted_lists.proofs.Members.{in_at, in_filtered}
use Rattle.repo_plan.specs.Parts.{Pair, pair_cmp, part_cmp, pair_of, record_of}
use Rattle.group_model.specs.Publications.{all_parts}
use Rattle.group_model.specs.Member.{Member, member_holds, has_deleted}
use Rattle.group_model.specs.World.{World, no_member, member, logs, someone_holds}
use Rattle.group_model.specs.Settles.{learnt_member}
use Rattle.group_model.specs.Steps.{settled_member, settled_vector, new_parts, is_gained}
use Rattle.group_model.specs.Sound.{IsSoundGroup}
use Rattle.group_model.proofs.Among.{in_all_parts}
use Rattle.group_model.proofs.Gains.{held_either}
use Rattle.group_model.proofs.Lists.{at_in}
use Rattle.group_model.proofs.Members.{known_published}
use Rattle.group_model.proofs.Settles.{someone, holder, comes, gets, keeps_held, knows_settled}
use Rattle.repo_member.specs.MemberState.{MemberState}
use Rattle.repo_member.specs.InGroup.{in_group}
use Rattle.bench_world.specs.declared.touched.Touched.{Touched}
use Rattle.bench_world.specs.Settling.{ArePartlySettled}
use Rattle.bench_world.specs.Touching.{touches, NoneLacks}
use Rattle.bench_world.specs.Worlds.{nobody, state_at, in_groups}
use Rattle.bench_world.proofs.States.{member_at}

-- Where all was touched, nothing is asked of anybody.
pub all_touched : (n : Touched) (ms : List Member) → n.all ≡ true → NoneLacks n ms
all_touched n ms all j l t held off = absurd (true≢false (sym (or_left n.all _ all) ∙ off))

-- ---- where more is touched, and nobody gains a part of what isn't

-- What a member holds it goes on to hold, unless it hides that publication then, and what it hides stays hidden.
pub record KeepsHeld (old new : Member) : Type 0 where
  pub held : (t : Part) → member_holds old t ≡ true
      → (member_holds new t ≡ true) ⊎ (has_deleted new (pair_of t) ≡ true)
  pub hidden : (pair : Pair) → has_deleted old pair ≡ true → has_deleted new pair ≡ true

pub same_kept : (m : Member) → KeepsHeld m m
same_kept m = record { held = λ t h. inl h; hidden = λ pair h. h }

pub kept_on : (a b d : Member) → KeepsHeld a b → KeepsHeld b d → KeepsHeld a d
kept_on a b d first then = record {
  held = λ t h. elim (first.held t h) [
    | inl holds ↦ then.held t holds
    | inr hides ↦ inr (then.hidden (pair_of t) hides)
  ];
  hidden = λ pair h. then.hidden pair (first.hidden pair h);
}

-- What an event makes of all members: where someone holds a part of a publication that isn't touched, someone held it
-- before, and each goes on to hold or hide what it did.
pub record Spreads (later : Touched) (old new : List Member) : Type 0 where
  pub len : length new ≡ length old
  pub no_more : (t : Part) → someone_holds new t ≡ true → touches later (pair_of t) ≡ false
      → someone_holds old t ≡ true
  pub keeps : (j : ℕ) → j < length old → KeepsHeld (get_or old j no_member) (get_or new j no_member)

pub same_spreads : (later : Touched) (ms : List Member) → Spreads later ms ms
same_spreads later ms = record {
  len = refl;
  no_more = λ t h off. h;
  keeps = λ j l. same_kept (get_or ms j no_member);
}

pub spreads_on : (later : Touched) (a b d : List Member) → Spreads later a b → Spreads later b d → Spreads later a d
spreads_on later a b d first then =
    let long : length b ≡ length a = first.len in
    record {
      len = then.len ∙ first.len;
      no_more = λ t h off. first.no_more t (then.no_more t h off) off;
      keeps = λ j l.
          kept_on (get_or a j no_member) (get_or b j no_member) (get_or d j no_member) (first.keeps j l)
          (then.keeps j (omega (arith, l, long)));
    }

-- After a change as in `Spreads` still no member lacks anything but parts of touched publications.
pub none_lacks : (n later : Touched) → ((q : Pair) → touches n q ≡ true → touches later q ≡ true)
    → (ms new : List Member) → Spreads later ms new → NoneLacks n ms → NoneLacks later new
none_lacks n later more ms new on all j l t held off =
    let long : length new ≡ length ms = on.len in
    let there : j < length ms = omega (arith, l, long) in
    elim (all j there t (on.no_more t held off) (untouched (pair_of t) off)) [
      | inl holds ↦ (on.keeps j there).held t holds
      | inr hides ↦ inr ((on.keeps j there).hidden (pair_of t) hides)
    ] where
      untouched : (q : Pair) → touches later q ≡ false → touches n q ≡ false
      untouched q off = false_from_ne_true (touches n q) (λ on. true≢false (sym (more q on) ∙ off))

-- ---- where one member changes

pub in_set : (ms : List Member) (j : ℕ) (x : Member) (t : Part) → someone_holds (set ms j x) t ≡ true
    → (member_holds x t ≡ true) ⊎ (someone_holds ms t ≡ true)
in_set [] j x t h = inr h
in_set (m ∷ ms) zero x t h = elim (or_cases (member_holds x t) (someone_holds ms t) h) [
  | inl here ↦ inl here
  | inr there ↦ inr (or_right (member_holds m t) (someone_holds ms t) there)
]
in_set (m ∷ ms) (suc j) x t h = elim (or_cases (member_holds m t) (someone_holds (set ms j x) t) h) [
  | inl here ↦ inr (or_left (member_holds m t) (someone_holds ms t) here)
  | inr there ↦ elim (in_set ms j x t there) [
    | inl new ↦ inl new
    | inr was ↦ inr (or_right (member_holds m t) (someone_holds ms t) was)
  ]
]

pub here_someone : (ms : List Member) (j : ℕ) (t : Part) → j < length ms → member_holds (get_or ms j no_member) t ≡ true
    → someone_holds ms t ≡ true
here_someone ms j t l h = someone ms (get_or ms j no_member) t (in_at ms j no_member l) h

module _ (later : Touched) (ms : List Member) (m : ℕ) (inside : m < length ms) (b : Member)
    (gained : (t : Part) → member_holds b t ≡ true
    → (someone_holds ms t ≡ true) ⊎ (touches later (pair_of t) ≡ true))
    (kept : KeepsHeld (get_or ms m no_member) b) where
  still : (t : Part) → someone_holds (set ms m b) t ≡ true → touches later (pair_of t) ≡ false
      → someone_holds ms t ≡ true
  still t h off = elim (in_set ms m b t h) [
    | inl new ↦ elim (gained t new) [
      | inl was ↦ was
      | inr noted ↦ absurd (true≢false (sym noted ∙ off))
    ]
    | inr was ↦ was
  ]

  keeps_each : (j : ℕ) → j < length ms → KeepsHeld (get_or ms j no_member) (get_or (set ms m b) j no_member)
  keeps_each j l = elim (cases_eq j m) [
    | inl same ↦
        subst (λ (k : ℕ). KeepsHeld (get_or ms k no_member) (get_or (set ms m b) k no_member)) (sym same)
        (subst (KeepsHeld (get_or ms m no_member)) (sym (get_or-set_same ms m b no_member inside)) kept)
    | inr other ↦
        subst (KeepsHeld (get_or ms j no_member)) (sym (get_or-set_other ms m j b no_member other))
        (same_kept (get_or ms j no_member))
  ]

  pub set_spreads : Spreads later ms (set ms m b)
  set_spreads = record { len = length-set ms m b; no_more = still; keeps = keeps_each }

groups_set : (ms : List MemberState) (j : ℕ) (b : MemberState)
    → in_groups (set ms j b) ≡ set (in_groups ms) j (in_group b)
groups_set [] j b = refl
groups_set (m ∷ ms) zero b = refl
groups_set (m ∷ ms) (suc j) b = ap (λ (xs : List Member). in_group m ∷ xs) (groups_set ms j b)

holds_alike : (a b : MemberState) → b.store ≡ a.store → (t : Part)
    → member_holds (in_group b) t ≡ member_holds (in_group a) t
holds_alike a b e t = ap (λ (packets : List (Part × List ℕ)). contains part_cmp (keys packets) t) e

alike_kept : (a b : MemberState) → b.store ≡ a.store → b.hidden ≡ a.hidden → KeepsHeld (in_group a) (in_group b)
alike_kept a b stored hidden = record {
  held = λ t h. inl (holds_alike a b stored t ∙ h);
  hidden = λ pair h. ap (λ (pairs : List Pair). contains pair_cmp pairs pair) hidden ∙ h;
}

-- A member goes on to store and hide the same.
pub same_at_spreads : (later : Touched) (ms : List MemberState) (m : ℕ) → m < length ms → (old : MemberState)
    → old ≡ get_or ms m old → (b : MemberState) → b.store ≡ old.store → b.hidden ≡ old.hidden
    → Spreads later (in_groups ms) (in_groups (set ms m b))
same_at_spreads later ms m there old old_is b stored hidden =
    subst (Spreads later (in_groups ms)) (sym (groups_set ms m b))
    (set_spreads later (in_groups ms) m inside (in_group b)
    (λ t h. inl (here_someone (in_groups ms) m t inside
    (ap (λ (x : Member). member_holds x t) here ∙ sym (holds_alike old b stored t) ∙ h)))
    (subst (λ (x : Member). KeepsHeld x (in_group b)) (sym here) (alike_kept old b stored hidden))) where
      here : get_or (in_groups ms) m no_member ≡ in_group old
      here = member_at ms m ∙ ap in_group (get_or_default ms m nobody old there ∙ sym old_is)

      inside : m < length (in_groups ms)
      inside = let long : length (in_groups ms) ≡ length ms = length-map ms in_group in omega (arith, there, long)

-- ---- where all change

-- A part that someone holds is held by a member at some place.
pub at_holder : (ms : List Member) (t : Part) → someone_holds ms t ≡ true
    → (k : ℕ) × (k < length ms) × (member_holds (get_or ms k no_member) t ≡ true)
at_holder ms t h =
    let r = holder ms t h in
    let k : (k : ℕ) × (k < length ms) × (r.0 ≡ get_or ms k no_member) = at_in ms r.0 no_member r.1 in
    (k.0, k.1, subst (λ (m : Member). member_holds m t ≡ true) k.2 r.2)

-- Each member stores and hides the same.
pub each_same_spreads : (later : Touched) (ms new : List MemberState) → length new ≡ length ms
    → ((j : ℕ) → j < length ms → (state_at new j).store ≡ (state_at ms j).store)
    → ((j : ℕ) → j < length ms → (state_at new j).hidden ≡ (state_at ms j).hidden)
    → Spreads later (in_groups ms) (in_groups new)
each_same_spreads later ms new len stored hidden =
    record { len = length-map new in_group ∙ len ∙ sym long; no_more = still; keeps = keeps }
  where
    long : length (in_groups ms) ≡ length ms
    long = length-map ms in_group

    still : (t : Part) → someone_holds (in_groups new) t ≡ true → touches later (pair_of t) ≡ false
        → someone_holds (in_groups ms) t ≡ true
    still t h off =
        let k = at_holder (in_groups new) t h in
        let inside : k.0 < length (in_groups new) = k.1 in
        let wide : length (in_groups new) ≡ length new = length-map new in_group in
        let there : k.0 < length ms = omega (arith, inside, wide, len) in
        here_someone (in_groups ms) k.0 t (omega (arith, there, long))
        (ap (λ (x : Member). member_holds x t) (member_at ms k.0)
        ∙ sym (holds_alike (state_at ms k.0) (state_at new k.0) (stored k.0 there) t)
        ∙ ap (λ (x : Member). member_holds x t) (sym (member_at new k.0))
        ∙ k.2)

    keeps : (j : ℕ) → j < length (in_groups ms)
        → KeepsHeld (get_or (in_groups ms) j no_member) (get_or (in_groups new) j no_member)
    keeps j l =
        let there : j < length ms = omega (arith, l, long) in
        subst (λ (x : Member). KeepsHeld x (get_or (in_groups new) j no_member)) (sym (member_at ms j))
        (subst (KeepsHeld (in_group (state_at ms j))) (sym (member_at new j))
        (alike_kept (state_at ms j) (state_at new j) (stored j there) (hidden j there)))

-- ---- a settle

-- Nobody holds or hides more by learning.
learnt_holds : (w : World) (ms : List Member) (t : Part)
    → someone_holds (map (learnt_member w) ms) t ≡ someone_holds ms t
learnt_holds w [] t = refl
learnt_holds w (m ∷ ms) t = ap (λ (b : Bool). member_holds m t || b) (learnt_holds w ms t)

pub learnt_lacks : (w : World) (n : Touched) (ms : List Member) → NoneLacks n ms
    → NoneLacks n (map (learnt_member w) ms)
learnt_lacks w n ms =
    none_lacks n n (λ q h. h) ms (map (learnt_member w) ms) (record {
      len = length-map ms (learnt_member w);
      no_more = λ t h off. sym (learnt_holds w ms t) ∙ h;
      keeps = λ j l.
          subst (KeepsHeld (get_or ms j no_member)) (sym (get_or-map (learnt_member w) ms j no_member no_member l))
          (record { held = λ t h. inl h; hidden = λ pair h. h });
    })

module _ (w : World) (group : IsSoundGroup w) where
  -- What a member holds after a settle someone held before.
  settled_someone : (j : ℕ) (t : Part) → j < length w.members
      → member_holds (settled_member w (member w j)) t ≡ true → someone_holds w.members t ≡ true
  settled_someone j t l h = elim (held_either (new_parts w (member w j)) (member w j) t h) [
    | inl i ↦
        (comes w (member w j) t (in_filtered (is_gained w (member w j)) (all_parts (logs w)) t i).1).someones
    | inr was ↦ here_someone w.members j t l was
  ]

  wide : length (map (settled_member w) w.members) ≡ length w.members
  wide = length-map w.members (settled_member w)

  settled_at : (j : ℕ) → j < length w.members
      → get_or (map (settled_member w) w.members) j no_member ≡ settled_member w (member w j)
  settled_at j l = get_or-map (settled_member w) w.members j no_member no_member l

  pub gathered_someone : (t : Part) → someone_holds (map (settled_member w) w.members) t ≡ true
      → someone_holds w.members t ≡ true
  gathered_someone t h =
      let k = at_holder (map (settled_member w) w.members) t h in
      let inside : k.0 < length (map (settled_member w) w.members) = k.1 in
      let there : k.0 < length w.members = omega (arith, inside, wide) in
      settled_someone k.0 t there (ap (λ (x : Member). member_holds x t) (sym (settled_at k.0 there)) ∙ k.2)

  -- Who doesn't hide it gets what someone holds.
  gets_it : (j : ℕ) (t : Part) → j < length w.members → someone_holds w.members t ≡ true
      → has_deleted (member w j) (pair_of t) ≡ false → member_holds (settled_member w (member w j)) t ≡ true
  gets_it j t l h open_ = elim (cases_Bool (member_holds (member w j) t)) [
    | inl on ↦ keeps_held w group j l t on
    | inr off ↦
        let k = at_holder w.members t h in
        let soundly = (group.members k.0 k.1).held t k.2 in
        let known : get_or (member w k.0).known t.publisher 0 ≤ get_or (settled_vector w) t.publisher 0 =
        knows_settled w group j l k.0 t.publisher k.1 in
        let far : t.seq ≤ get_or (member w k.0).known t.publisher 0 = soundly.known.to_known in
        gets w group j l t
        (in_all_parts (logs w) t (record {
          there =
              known_published (logs w) (member w k.0).known (pair_of t) (group.members k.0 k.1).known soundly.known;
          counted = soundly.counted;
        }))
        (record {
          received = omega (arith, known, far);
          not_hidden = open_;
          someones = h;
          record_too = here_someone w.members k.0 (record_of t) k.1 soundly.with_record;
          fresh = off;
        })
  ]

  -- After a settle nobody lacks anything.
  pub settled_lacks : (n : Touched) (new : List Member) → new ≡ map (settled_member w) w.members → NoneLacks n new
  settled_lacks n new is = subst (NoneLacks n) (sym is) (λ j l t held off.
      let inside : j < length (map (settled_member w) w.members) = l in
      let there : j < length w.members = omega (arith, inside, wide) in
      subst (λ (m : Member). (member_holds m t ≡ true) ⊎ (has_deleted m (pair_of t) ≡ true)) (sym (settled_at j there))
      (elim (cases_Bool (has_deleted (member w j) (pair_of t))) [
        | inl hides ↦ inr hides
        | inr open_ ↦ inl (gets_it j t there (gathered_someone t held) open_)
      ]))

  -- Where memory ran out, nobody lacks more than before.
  pub partly_spreads : (later : Touched) (new : List Member) → ArePartlySettled w new → Spreads later w.members new
  partly_spreads later new part = record {
    len = part.len;
    no_more = λ t h off.
        let k = at_holder new t h in
        let inside : k.0 < length new = k.1 in
        let long : length new ≡ length w.members = part.len in
        let there : k.0 < length w.members = omega (arith, inside, long) in
        settled_someone k.0 t there ((part.each k.0 there).came t k.2);
    keeps = λ j l. record {
      held = λ t h. inl ((part.each j l).kept t h);
      hidden = λ pair h. ap (λ (pairs : List Pair). contains pair_cmp pairs pair) (part.each j l).hidden ∙ h;
    };
  }
