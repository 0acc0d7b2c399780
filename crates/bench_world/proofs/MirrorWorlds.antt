-- What a settle of mirrors makes of a sound world.
use Rattle.std.proofs.Common.{◌≡◌, ℕ, ◌*◌, ◌≤◌, ◌<◌, List, length, refl, sym, ap, ◌∙◌, subst, arith}
use Rattle.std.specs.List.{All}
use Rattle.std.proofs.lemmas.List.{get_or_default}
use Rattle.svs_vector.specs.Vectors.{join_all}
use Rattle.repo_plan.specs.declared.part.Part.{Part}
use Rattle.group_model.specs.Member.{tries_of}
use Rattle.group_model.specs.World.{World}
use Rattle.group_model.specs.Laws.{NothingDeleted}
use Rattle.repo_member.specs.MemberState.{MemberState}
use Rattle.repo_mirror.specs.MirrorState.{MirrorState}
use Rattle.repo_mirror.specs.ConsistentMirrors.{IsConsistentMirror}
use Rattle.bench_world.specs.declared.touched.Touched.{Touched}
use Rattle.bench_world.specs.Conditions.{CanFetchAllForMirrors}
use Rattle.bench_world.specs.MirrorSteps.{no_mirror, mirror_at}
use Rattle.bench_world.specs.MirrorSettles.{HasSettled, HaveSettled, ListsItsJoin}
use Rattle.bench_world.specs.MirrorSettles.{IsPartlySettledMirror, ArePartlySettledMirrors}
use Rattle.bench_world.specs.Unsettled.{MirrorsLackNone}
use Rattle.bench_world.specs.Worlds.{GroupState, IsConsistentState, MirrorTriedFew, in_groups, logs_around}
use Rattle.bench_world.specs.Worlds.{only_members, world_of}
use Rattle.bench_world.proofs.FetchesAndSettles.{sound_only}
use Rattle.bench_world.proofs.KnownByAll.{knowns}
use Rattle.bench_world.proofs.Learnt.{all_is_settled}
use Rattle.bench_world.proofs.MirrorSettling.{lists_join}
use Rattle.bench_world.proofs.MirrorStates.{mirror_tried, with_mirrors}
use Rattle.bench_world.proofs.States.{few_logs, sound_state}

-- What holds of the mirror of each number holds of all.
all_at : (P : MirrorState → Type 0) (ms : List MirrorState) → ((i : ℕ) → i < length ms → P (mirror_at ms i)) → All P ms
all_at P ms each k d l = subst P (get_or_default ms k no_mirror d l) (each k l)

module _ (s : GroupState) (is : IsConsistentState s) where
  -- A sound world is sound with consistent mirrors that are partly settled.
  pub settled_mirrors : (w : World) (ms : List MirrorState) → length ms ≡ length s.mirrors
      → ((i : ℕ) → i < length ms → IsConsistentMirror s.keys (logs_around s.members) (mirror_at ms i))
      → ArePartlySettledMirrors w s.mirrors ms → IsConsistentState (record s { mirrors = ms })
  settled_mirrors w ms len consistent partly =
      let few = is.mirrors_few in
      with_mirrors s is ms (all_at (IsConsistentMirror s.keys (logs_around s.members)) ms consistent)
      (all_at (MirrorTriedFew s.steps) ms (λ i l t.
      let inside : i < length s.mirrors = omega (arith, l, len) in
      subst (λ (ns : List (Part × ℕ)). tries_of ns t ≤ s.steps * 16) (sym (partly i inside).attempts)
      (is.mirrors_tried i no_mirror inside t)))
      (omega (arith, len, few))

  module _ (lent : List MemberState) (lent_is : lent ≡ s.members) where
    pub can_gather : (touched : Touched) → MirrorsLackNone touched (in_groups s.members) s.mirrors → (n : ℕ)
        → (1 ≤ n) × (n ≤ 16) → (known : List ℕ) → known ≡ join_all (knowns lent)
        → CanFetchAllForMirrors s.keys n lent touched known s.mirrors
    can_gather touched lacks n workers known known_is =
        subst (λ (ms : List MemberState). CanFetchAllForMirrors s.keys n ms touched known s.mirrors) (sym lent_is)
        (record {
          workers = workers;
          few = is.mirrors_few;
          logs = few_logs s is;
          sound = sound_only s is;
          others = is.members;
          known =
              known_is
              ∙ ap (λ (ms : List MemberState). join_all (knowns ms)) lent_is
              ∙ all_is_settled s.keys (only_members s.members) is.are (sound_only s is) s.members refl is.members;
          consistent = λ i l. is.mirrors i no_mirror l;
          tried = λ i l. mirror_tried s is i l (mirror_at s.mirrors i) (get_or_default s.mirrors i no_mirror _ l);
          lacks = lacks;
        })

    module _ (ms : List MirrorState) where
      -- The world's mirrors are seen by its members alone.
      pub are_settled : HaveSettled (only_members lent) s.mirrors ms → HaveSettled (world_of s) s.mirrors ms
      are_settled h i l =
          let one : HasSettled (only_members s.members) (mirror_at s.mirrors i) (mirror_at ms i) =
          subst (λ (as_ : List MemberState). HasSettled (only_members as_) (mirror_at s.mirrors i) (mirror_at ms i))
          lent_is
          (h i l) in
          record {
            pattern = one.pattern;
            attempts = one.attempts;
            known = one.known;
            kept = one.kept;
            gains = record { only = one.gains.only; all = one.gains.all };
            rest = one.rest;
          }

      pub are_partly : ArePartlySettledMirrors (only_members lent) s.mirrors ms
          → ArePartlySettledMirrors (world_of s) s.mirrors ms
      are_partly h i l =
          let one : IsPartlySettledMirror (only_members s.members) (mirror_at s.mirrors i) (mirror_at ms i) =
          subst (λ (as_ : List MemberState).
          IsPartlySettledMirror (only_members as_) (mirror_at s.mirrors i) (mirror_at ms i)) lent_is (h i l) in
          record {
            pattern = one.pattern;
            attempts = one.attempts;
            known_more = one.known_more;
            known_less = one.known_less;
            kept = one.kept;
            passed = one.passed;
            only = one.only;
          }

      pub all_consistently : ((i : ℕ) → i < length ms → IsConsistentMirror s.keys (logs_around lent) (mirror_at ms i))
          → (i : ℕ) → i < length ms → IsConsistentMirror s.keys (logs_around s.members) (mirror_at ms i)
      all_consistently consistent i l =
          subst (λ (as_ : List MemberState). IsConsistentMirror s.keys (logs_around as_) (mirror_at ms i)) lent_is
          (consistent i l)

      pub all_list : length ms ≡ length s.mirrors
          → ((i : ℕ) → i < length ms → IsConsistentMirror s.keys (logs_around lent) (mirror_at ms i))
          → HaveSettled (only_members lent) s.mirrors ms → NothingDeleted (world_of s) → (i : ℕ) → i < length ms
          → ListsItsJoin (world_of s) (mirror_at ms i)
      all_list len consistent settled clear i l =
          let inside : i < length s.mirrors = omega (arith, l, len) in
          lists_join s.keys (world_of s) is.are (sound_state s is) (mirror_at s.mirrors i) (mirror_at ms i)
          (is.mirrors i no_mirror inside) (all_consistently consistent i l) (are_settled settled i inside) clear
