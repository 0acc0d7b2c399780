-- No mirror lacks a part of a publication that wasn't touched: so it stays where more is touched, and so it is after a
-- settle of mirrors.
use Rattle.std.proofs.Common.{◌≡◌, ◌⊎◌, inl, inr, ℕ, ◌≤◌, ◌<◌, Bool, true, false, List, length}
use Rattle.std.proofs.Common.{get_or, set, refl, sym, ap, ◌∙◌, subst, arith}
use Rattle.std.specs.Prelude.{nat_le, slice_index}
use Rattle.std.proofs.lemmas.Bool.{true≢false, false_from_ne_true, and_parts, or_left, or_right, cases_eq, leb-true}
use Rattle.std.proofs.lemmas.List.{length-set, get_or-set_same, get_or-set_other}
use Rattle.svs_vector.specs.Vectors.{join}
use Rattle.svs_vector.proofs.JoinLemmas.{join-at}
use Rattle.sorted_lists.specs.SortedList.{contains}
use Rattle.repo_plan.specs.declared.part.Part.{Part}
use Rattle.repo_plan.specs.Parts.{Pair, pair_cmp, part_cmp, pair_of}
use Rattle.repo_plan.specs.Plan.{knows}
use Rattle.repo_watch.specs.declared.pattern.Pattern.{Pattern}
use Rattle.repo_watch.specs.Patterns.{is_publisher}
use Rattle.group_model.specs.Member.{Member}
use Rattle.group_model.specs.World.{World, logs, someone_holds}
use Rattle.group_model.specs.Steps.{settled_vector}
use Rattle.group_model.specs.Sound.{IsSoundGroup, IsKnown}
use Rattle.repo_member.specs.Groups.{GroupKeys}
use Rattle.repo_member.specs.MemberState.{MemberState}
use Rattle.repo_mirror.specs.Asked.{asked_numbers}
use Rattle.repo_mirror.specs.Mirrors.{mirror_holds}
use Rattle.repo_mirror.specs.MirrorLaws.{WantsNothingHeld}
use Rattle.repo_mirror.specs.MirrorState.{MirrorState, fetch_plan}
use Rattle.repo_mirror.specs.ConsistentMirrors.{mirror_in_group, IsConsistentMirror}
use Rattle.repo_mirror.specs.Passing.{passed_over}
use Rattle.repo_mirror.proofs.Wants.{asked_known}
use Rattle.bench_world.specs.declared.touched.Touched.{Touched}
use Rattle.bench_world.specs.Lending.{lends}
use Rattle.bench_world.specs.MirrorFetching.{HasFetched, mirror_gets}
use Rattle.bench_world.specs.MirrorSettles.{HasSettled, HaveSettled, IsPartlySettledMirror, ArePartlySettledMirrors}
use Rattle.bench_world.specs.MirrorSteps.{no_mirror, mirror_at, mirror_learns, mirror_fetched, mirror_fetches}
use Rattle.bench_world.specs.MirrorWords.{mirror_held}
use Rattle.bench_world.specs.MirrorsHold.{held_is, stays_passed}
use Rattle.bench_world.specs.Touching.{touches}
use Rattle.bench_world.specs.Unsettled.{MirrorLacksNone, MirrorsLackNone}
use Rattle.bench_world.specs.Worlds.{in_groups}
use Rattle.bench_world.proofs.MemberGathering.{lends_held}
use Rattle.bench_world.proofs.MirrorsAtRest.{has_or_passed}

-- Where all was touched, nothing is asked of any mirror.
pub all_mirrors_touched : (n : Touched) (members : List Member) (ms : List MirrorState) → n.all ≡ true
    → MirrorsLackNone n members ms
all_mirrors_touched n members ms all i l t held off = absurd (true≢false (sym (or_left n.all _ all) ∙ off))

-- Where more is touched, and members gain no part of what isn't, no mirror lacks more.
pub mirrors_lack : (n later : Touched) → ((q : Pair) → touches n q ≡ true → touches later q ≡ true)
    → (members new : List Member)
    → ((t : Part) → someone_holds new t ≡ true → touches later (pair_of t) ≡ false → someone_holds members t ≡ true)
    → (ms : List MirrorState) → MirrorsLackNone n members ms → MirrorsLackNone later new ms
mirrors_lack n later more members new no_more ms all i l t held off asked =
    all i l t (no_more t held off) untouched asked where
      untouched : touches n (pair_of t) ≡ false
      untouched =
          false_from_ne_true (touches n (pair_of t)) (λ on. true≢false (sym (more (pair_of t) on) ∙ off))

-- ---- one mirror

-- A mirror keeps its pattern, and still holds, or has still passed over, what it did.
pub record KeepsAll (old new : MirrorState) : Type 0 where
  pub pattern : new.pattern ≡ old.pattern
  pub kept : (t : Part) → mirror_holds (mirror_in_group old) t ≡ true → mirror_holds (mirror_in_group new) t ≡ true
  pub passed : (pair : Pair) → contains pair_cmp old.passed pair ≡ true → contains pair_cmp new.passed pair ≡ true

pub keeps_lacking : (n : Touched) (held : Part → Bool) (old new : MirrorState) → KeepsAll old new
    → MirrorLacksNone n held old → MirrorLacksNone n held new
keeps_lacking n held old new keeps none t h off asked =
    elim (none t h off (ap (λ (p : Pattern). is_publisher p.publisher t.publisher) (sym keeps.pattern) ∙ asked)) [
      | inl holds ↦ inl (keeps.kept t holds)
      | inr passed ↦ inr (keeps.passed (pair_of t) passed)
    ]

-- A mirror that joins a vector to its own still holds all that it did, and keeps its pattern.
learns_keeps : (received : List ℕ) (old : MirrorState) → KeepsAll old (mirror_learns received old)
learns_keeps received old = record { pattern = refl; kept = λ t h. h; passed = λ pair h. h }

-- If one mirror changes and still holds all that it did, the mirrors lack no more.
set_mirror_lacks : (n : Touched) (members : List Member) (ms : List MirrorState) (i : ℕ) → i < length ms
    → (b : MirrorState) → KeepsAll (mirror_at ms i) b → MirrorsLackNone n members ms
    → MirrorsLackNone n members (set ms i b)
set_mirror_lacks n members ms i inside b keeps all j l = elim (cases_eq j i) [
  | inl same ↦
      subst (λ (k : ℕ). MirrorLacksNone n (someone_holds members) (mirror_at (set ms i b) k)) (sym same)
      (subst (MirrorLacksNone n (someone_holds members)) (sym (get_or-set_same ms i b no_mirror inside))
      (keeps_lacking n (someone_holds members) (mirror_at ms i) b keeps (all i inside)))
  | inr other ↦
      let long = length-set ms i b in
      subst (MirrorLacksNone n (someone_holds members)) (sym (get_or-set_other ms i j b no_mirror other))
      (all j (omega (arith, l, long)))
]

pub learnt_mirror_lacks : (n : Touched) (members : List Member) (ms : List MirrorState) (i : ℕ) → i < length ms
    → (received : List ℕ) (old b : MirrorState) → old ≡ mirror_at ms i → b ≡ mirror_learns received old
    → MirrorsLackNone n members ms → MirrorsLackNone n members (set ms i b)
learnt_mirror_lacks n members ms i inside received old b old_is b_is =
    set_mirror_lacks n members ms i inside b
    (subst (KeepsAll (mirror_at ms i)) (sym (b_is ∙ ap (mirror_learns received) old_is))
    (learns_keeps received (mirror_at ms i)))

pub fetched_mirror_lacks : (n : Touched) (members : List Member) (ms : List MirrorState) (i : ℕ) → i < length ms
    → (passes : ℕ → ℕ → ℕ → ℕ → ℕ → ℕ → Bool) (w : World) (lent : List MemberState) (tries loss : ℕ)
    → HasFetched passes w i tries loss (mirror_at ms i) (mirror_fetches passes lent i tries loss (mirror_at ms i))
    → (new : List MirrorState) → new ≡ set ms i (mirror_fetches passes lent i tries loss (mirror_at ms i))
    → MirrorsLackNone n members ms → MirrorsLackNone n members new
fetched_mirror_lacks n members ms i inside passes w lent tries loss fetched new new_is all =
    subst (MirrorsLackNone n members) (sym new_is)
    (set_mirror_lacks n members ms i inside (mirror_fetches passes lent i tries loss old) (record {
      pattern = refl;
      kept = λ t h.
          fetched.held t
          ∙ or_right (contains part_cmp (mirror_gets passes w i tries loss old) t)
          (mirror_holds (mirror_in_group old) t) h;
      passed = λ pair h.
          stays_passed (passed_over old.pattern (mirror_fetched passes lent i tries loss old)) old.passed pair h;
    }) all) where
      old : MirrorState
      old = mirror_at ms i

-- ---- what it gathers

-- Of what it knows, a mirror that has learnt has each part that members lend and that wasn't touched, or hides it.
pub learnt_has : (n : Touched) (lenders : List MemberState) (received : List ℕ) (old m : MirrorState)
    → m ≡ mirror_learns received old → MirrorLacksNone n (someone_holds (in_groups lenders)) old → (t : Part)
    → lends lenders t ≡ true → touches n (pair_of t) ≡ false → knows (fetch_plan m) (pair_of t) ≡ true
    → (contains part_cmp (mirror_held m) t ≡ true) ⊎ (contains pair_cmp m.passed (pair_of t) ≡ true)
learnt_has n lenders received old m m_is none t lent off known =
    elim (keeps_lacking n (someone_holds (in_groups lenders)) old m
    (subst (KeepsAll old) (sym m_is) (learns_keeps received old)) none t (sym (lends_held lenders t) ∙ lent) off
    asked) [
      | inl holds ↦ inl (held_is m t ∙ holds)
      | inr passed ↦ inr passed
    ] where
      last : ℕ
      last = slice_index (asked_numbers m.pattern.publisher 0 m.known) t.publisher

      is_known : IsKnown (asked_numbers m.pattern.publisher 0 m.known) (pair_of t)
      is_known =
          let both = and_parts (nat_le 1 t.seq) (nat_le t.seq last) known in
          record { from_one = leb-true 1 t.seq both.0; to_known = leb-true t.seq last both.1 }

      asked : is_publisher m.pattern.publisher t.publisher ≡ true
      asked = (asked_known m.pattern.publisher m.known (pair_of t) is_known).0

-- ---- a settle of mirrors

-- Where memory ran out, no mirror lacks more than before.
pub partly_mirrors_lack : (n : Touched) (members : List Member) (w : World) (old new : List MirrorState)
    → length new ≡ length old → ArePartlySettledMirrors w old new → MirrorsLackNone n members old
    → MirrorsLackNone n members new
partly_mirrors_lack n members w old new len partly all i l =
    let inside : i < length old = omega (arith, l, len) in
    let one : IsPartlySettledMirror w (mirror_at old i) (mirror_at new i) = partly i inside in
    keeps_lacking n (someone_holds members) (mirror_at old i) (mirror_at new i)
    (record { pattern = one.pattern; kept = one.kept; passed = one.passed }) (all i inside)

-- After a settle none lacks anything.
pub settled_mirrors_lack : (n : Touched) (w : World) → IsSoundGroup w → (g : GroupKeys) (old new : List MirrorState)
    → length new ≡ length old → ((i : ℕ) → i < length new → IsConsistentMirror g (logs w) (mirror_at new i))
    → HaveSettled w old new → MirrorsLackNone n w.members new
settled_mirrors_lack n w group g old new len consistent settled i l t held off asked =
    has_or_passed (mirror_at new i).pattern w group (mirror_in_group (mirror_at new i)) (consistent i l).sound known
    (subst (λ (p : Pattern). WantsNothingHeld p (logs w) w.members (mirror_in_group (mirror_at new i)))
    (sym one.pattern) one.rest)
    t asked held where
      one : HasSettled w (mirror_at old i) (mirror_at new i)
      one = settled i (omega (arith, l, len))

      known : (p : ℕ) → get_or (settled_vector w) p 0 ≤ get_or (mirror_at new i).known p 0
      known p =
          let at = join-at (mirror_at old i).known (settled_vector w) p in
          let same : get_or (mirror_at new i).known p 0 ≡ get_or (join (mirror_at old i).known (settled_vector w)) p 0 =
          ap (λ (v : List ℕ). get_or v p 0) one.known in
          omega (arith, at, same)
