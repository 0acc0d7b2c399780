-- A mirror that is taken out from among all, joins a vector to its own, gathers parts, and is put back.
use Rattle.std.proofs.Common.{◌≡◌, ◌⊎◌, ◌+◌, ℕ, true, false, List, length, get_or, set, refl, sym, ap, ◌∙◌, subst}
use Rattle.std.specs.List.{remove, insert}
use Rattle.std.proofs.lemmas.List.{get_or_default}
use Rattle.sorted_lists.specs.SortedList.{contains}
use Rattle.repo_plan.specs.declared.part.Part.{Part}
use Rattle.repo_plan.specs.Parts.{pair_cmp, part_cmp, pair_of}
use Rattle.repo_plan.specs.Plan.{knows}
use Rattle.group_model.specs.World.{someone_holds}
use Rattle.group_model.specs.Steps.{settled_vector}
use Rattle.repo_member.specs.Groups.{GroupKeys}
use Rattle.repo_member.specs.MemberState.{MemberState}
use Rattle.repo_mirror.specs.MirrorState.{MirrorState, mirror_holdings, fetch_plan}
use Rattle.repo_mirror.specs.ConsistentMirrors.{IsConsistentMirror}
use Rattle.bench_world.specs.declared.touched.Touched.{Touched}
use Rattle.bench_world.specs.Conditions.{CanFetchAllFor}
use Rattle.bench_world.specs.Lending.{lends}
use Rattle.bench_world.specs.Gathering.{one_each, Counts, GainsParts, NothingLeft}
use Rattle.bench_world.specs.MirrorSettles.{HasSettled, IsPartlySettledMirror, held_by}
use Rattle.bench_world.specs.MirrorSteps.{no_mirror, mirror_at, mirror_learns}
use Rattle.bench_world.specs.MirrorWords.{mirror_held, state_words}
use Rattle.bench_world.specs.Touching.{touches}
use Rattle.bench_world.specs.Unsettled.{MirrorLacksNone}
use Rattle.bench_world.specs.Truth.{TriedFew}
use Rattle.bench_world.specs.Worlds.{in_groups, logs_around, only_members}
use Rattle.bench_world.proofs.MirrorSettling.{settled_consistently, learnt_consistently, partly_gathered, has_settled}
use Rattle.bench_world.proofs.MirrorSettling.{has_gained}
use Rattle.bench_world.proofs.MirrorsLacking.{learnt_has}
use Rattle.bench_world.proofs.TakenOut.{put_at, put_changed}

-- Mirror `i`, which had joined the vectors, has gathered parts, and the others are as they were. If the lenders store
-- nothing more that it wants, it has settled.
pub record HasGatheredAt (g : GroupKeys) (lenders : List MemberState) (ms new : List MirrorState) (i : ℕ)
    (learnt left : MirrorState) : Type 0 where
  pub others : new ≡ set ms i (mirror_at new i)
  pub consistent : IsConsistentMirror g (logs_around lenders) (mirror_at new i)
  pub partly : IsPartlySettledMirror (only_members lenders) (mirror_at ms i) (mirror_at new i)
  pub settled : NothingLeft state_words lenders left
      → HasSettled (only_members lenders) (mirror_at ms i) (mirror_at new i)
  pub held : (n : ℕ) → Counts state_words one_each n learnt left
      → n + held_by (mirror_at ms i) ≡ held_by (mirror_at new i)

module _ (g : GroupKeys) (workers i : ℕ) (lenders : List MemberState) (touched : Touched) (received : List ℕ)
    (ms : List MirrorState) (can : CanFetchAllFor g workers i lenders touched received ms) (old : MirrorState)
    (old_is : old ≡ get_or ms i old) where
  old_at : old ≡ mirror_at ms i
  old_at = old_is ∙ get_or_default ms i old no_mirror can.there

  -- It has a number for each member.
  pub as_wide : length received ≡ length old.known
  as_wide =
      ap length can.known
      ∙ (settled_consistently g (only_members lenders) can.logs.are can.sound lenders refl can.others).width
      ∙ sym can.consistent.vector.width
      ∙ sym (ap (λ (m : MirrorState). length m.known) old_at)

  module _ (learnt : MirrorState) (learnt_is : learnt ≡ mirror_learns received old) where
    learnt_at : learnt ≡ mirror_learns (settled_vector (only_members lenders)) (mirror_at ms i)
    learnt_at =
        learnt_is
        ∙ ap (mirror_learns received) old_at
        ∙ ap (λ (v : List ℕ). mirror_learns v (mirror_at ms i)) can.known

    pub consistently_learnt : IsConsistentMirror g (logs_around lenders) learnt
    consistently_learnt =
        subst (IsConsistentMirror g (logs_around lenders)) (sym learnt_at)
        (learnt_consistently g (only_members lenders) can.logs.are can.sound lenders refl can.others (mirror_at ms i)
        can.consistent)

    pub few_learnt : TriedFew (mirror_holdings learnt)
    few_learnt = subst (λ (m : MirrorState). TriedFew (mirror_holdings m)) (sym learnt_at) can.tried

    pub lacks_touched : (t : Part) → lends lenders t ≡ true → touches touched (pair_of t) ≡ false
        → knows (fetch_plan learnt) (pair_of t) ≡ true
        → (contains part_cmp (mirror_held learnt) t ≡ true) ⊎ (contains pair_cmp learnt.passed (pair_of t) ≡ true)
    lacks_touched =
        learnt_has touched lenders received old learnt learnt_is
        (subst (MirrorLacksNone touched (someone_holds (in_groups lenders))) (sym old_at) can.lacks)

    pub gathered : (mid new : List MirrorState) (left : MirrorState) → mid ≡ remove ms i → new ≡ insert mid i left
        → GainsParts state_words g (logs_around lenders) lenders learnt left
        → HasGatheredAt g lenders ms new i learnt left
    gathered mid new left mid_is put gains =
        let here : mirror_at new i ≡ left = put_at no_mirror ms mid new i left can.there mid_is put in
        record {
          others = put_changed no_mirror ms mid new i left can.there mid_is put;
          consistent = subst (IsConsistentMirror g (logs_around lenders)) (sym here) gains.consistent;
          partly =
              subst (IsPartlySettledMirror (only_members lenders) (mirror_at ms i)) (sym here)
              (partly_gathered g (only_members lenders) can.logs.are can.sound lenders refl can.others
              (mirror_at ms i) can.consistent learnt left learnt_at gains);
          settled = λ none.
              subst (HasSettled (only_members lenders) (mirror_at ms i)) (sym here)
              (has_settled g (only_members lenders) can.logs.are can.sound lenders refl can.others (mirror_at ms i)
              can.consistent learnt left learnt_at gains none);
          held = λ n came.
              has_gained g (only_members lenders) can.logs.are can.sound lenders refl can.others (mirror_at ms i)
              can.consistent learnt left learnt_at gains n came
              ∙ ap held_by (sym here);
        }
