-- What a settle makes of mirrors.
use Rattle.std.proofs.Common.{◌≡◌, ◌≢◌, ◌⊎◌, inl, inr, ℕ, ◌+◌, ◌<◌, true, not, List, [], length, get_or}
use Rattle.std.proofs.Common.{set, sym, ap, ◌∙◌, refl, subst, arith}
use Rattle.std.specs.Prelude.{sum_by}
use Rattle.std.proofs.lemmas.Bool.{true≢false, and_from, cases_eq, cases_lt}
use Rattle.std.proofs.lemmas.List.{get_or-set_other, length-set}
use Rattle.std.proofs.lemmas.List.Sums.{sum_by-set}
use Rattle.svs_vector.specs.Vectors.{join}
use Rattle.svs_vector.proofs.JoinLemmas.{join-at}
use Rattle.sorted_lists.specs.SortedList.{contains}
use Rattle.repo_plan.specs.declared.part.Part.{Part}
use Rattle.repo_plan.specs.Parts.{pair_cmp}
use Rattle.repo_plan.specs.Plan.{is_wanted, is_unclaimed, is_claimed}
use Rattle.repo_watch.specs.declared.pattern.Pattern.{Pattern}
use Rattle.group_model.specs.Publications.{Logs}
use Rattle.group_model.specs.Member.{Member}
use Rattle.group_model.specs.World.{World, logs, someone_holds}
use Rattle.group_model.specs.Steps.{settled_vector}
use Rattle.group_model.specs.Sound.{IsSoundGroup, IsConsistentVector}
use Rattle.group_model.specs.Laws.{NothingDeleted}
use Rattle.repo_mirror.specs.Mirrors.{mirror_holds, IsWantedByMirror, IsSoundMirror}
use Rattle.repo_mirror.specs.MirrorLaws.{IsGathering, GainsThose, WantsNothingHeld, KnowsAll, learns_all}
use Rattle.repo_mirror.proofs.Settling.{exactly}
use Rattle.repo_mirror.proofs.Joins.{learn_all, joins}
use Rattle.repo_member.specs.Groups.{GroupKeys}
use Rattle.repo_member.specs.MemberState.{MemberState}
use Rattle.repo_member.specs.InGroup.{AreLogs}
use Rattle.repo_mirror.specs.MirrorState.{MirrorState, fetch_plan}
use Rattle.repo_mirror.specs.ConsistentMirrors.{mirror_in_group, IsConsistentMirror}
use Rattle.repo_mirror.proofs.PublicLaws.{mirrors_want_alike, mirrors_list_alike, mirrors_learn_consistent}
use Rattle.bench_world.specs.declared.holder.Filtering.{Filtering}
use Rattle.bench_world.specs.Lending.{lends}
use Rattle.bench_world.specs.Gathering.{one_each, Counts, GainsParts, NothingLeft}
use Rattle.bench_world.specs.MirrorSteps.{no_mirror, mirror_at, mirror_learns}
use Rattle.bench_world.specs.MirrorWords.{mirror_held, mirror_rest, state_words, mirror_words}
use Rattle.bench_world.specs.MirrorSettles.{HasSettled, ListsItsJoin, held_by, held_by_all, IsPartlySettledMirror}
use Rattle.bench_world.specs.MirrorSettles.{ArePartlySettledMirrors, SettledSoFar}
use Rattle.bench_world.specs.MirrorsHold.{held_is}
use Rattle.bench_world.specs.Worlds.{in_groups, AreConsistentMembers}
use Rattle.bench_world.proofs.MemberGathering.{lends_held}
use Rattle.bench_world.proofs.KnownByAll.{nobody_knows}
use Rattle.bench_world.proofs.Learnt.{long, all_is_settled, consistent_vector}
use Rattle.bench_world.proofs.SetSums.{ones}

-- ---- one mirror

-- A mirror with its filter gains what the mirror gains.
pub gains_of : {X : Type 0} {f : _} (g : GroupKeys) (logs : Logs) (others : List MemberState) (a b : Filtering X f)
    → GainsParts mirror_words g logs others a b → GainsParts state_words g logs others a.mirror b.mirror
gains_of {X} {f} g logs others a b gains = record {
  rest = ap (λ (t : Filtering X f). t.mirror) gains.rest;
  consistent = gains.consistent;
  kept = gains.kept;
  came = gains.came;
  hidden = gains.hidden;
}

module _ (w : World) where
  -- A mirror that is unchanged is partly settled.
  pub partly_same : (m : MirrorState) → IsPartlySettledMirror w m m
  partly_same m = record {
    pattern = refl;
    attempts = refl;
    known_more = λ p. omega arith;
    known_less = λ p. let at = join-at m.known (settled_vector w) p in omega (arith, at);
    kept = λ t h. h;
    passed = λ pair h. h;
    only = λ t h none. absurd (true≢false (sym h ∙ none));
  }

module _ (g : GroupKeys) (w : World) (are : AreLogs g (logs w)) (group : IsSoundGroup w) where
  -- A mirror that has settled lists its join.
  pub lists_join : (old new : MirrorState) → IsConsistentMirror g (logs w) old → IsConsistentMirror g (logs w) new
      → HasSettled w old new → NothingDeleted w → ListsItsJoin w new
  lists_join old new consistent after settled clear =
      mirrors_list_alike g (logs w) new are after
      ∙ joins new.pattern w (mirror_in_group new) group clear after.sound knows rest where
        knows : KnowsAll w (mirror_in_group new)
        knows p =
            ap (λ (v : List ℕ). get_or v p 0) settled.known
            ∙ learn_all w (mirror_in_group old) group consistent.vector p

        rest : WantsNothingHeld new.pattern (logs w) w.members (mirror_in_group new)
        rest =
            subst (λ (pattern : Pattern). WantsNothingHeld pattern (logs w) w.members (mirror_in_group new))
            (sym settled.pattern) settled.rest

  module _ (members : List MemberState) (begun : in_groups members ≡ w.members)
      (all : AreConsistentMembers g (logs w) members)
    where
      -- ---- what is learnt

      -- The join of all vectors reports only publications that exist.
      pub settled_consistently : IsConsistentVector (logs w) (settled_vector w)
      settled_consistently = elim (cases_lt 0 (length members)) [
        | inl some ↦
            consistent_vector g w are group members begun all (settled_vector w)
            (sym (all_is_settled g w are group members begun all)) 0 some
        | inr none ↦
            let nothing : [] ≡ settled_vector w =
            sym (nobody_knows members none) ∙ all_is_settled g w are group members begun all in
            let many : length (logs w) ≡ length members = long g w are group members begun all in
            subst (IsConsistentVector (logs w)) nothing
            (record { width = omega (arith, many, none); no_more = λ p. omega arith })
      ]

      module _ (old : MirrorState) (consistent : IsConsistentMirror g (logs w) old) where
        pub learnt_consistently : IsConsistentMirror g (logs w) (mirror_learns (settled_vector w) old)
        learnt_consistently = mirrors_learn_consistent g (logs w) old (settled_vector w) settled_consistently consistent

        -- ---- what is gathered

        module _ (a b : MirrorState) (a_is : a ≡ mirror_learns (settled_vector w) old)
            (gains : GainsParts state_words g (logs w) members a b) where
          rest_is : mirror_rest b ≡ mirror_rest (mirror_learns (settled_vector w) old)
          rest_is = gains.rest ∙ ap mirror_rest a_is

          pattern_is : b.pattern ≡ old.pattern
          pattern_is = ap (λ (m : MirrorState). m.pattern) rest_is

          attempts_are : b.attempts ≡ old.attempts
          attempts_are = ap (λ (m : MirrorState). m.attempts) rest_is

          known_is : b.known ≡ join old.known (settled_vector w)
          known_is = ap (λ (m : MirrorState). m.known) rest_is

          was_held : (t : Part) → mirror_holds (mirror_in_group a) t ≡ mirror_holds (mirror_in_group old) t
          was_held t = ap (λ (m : MirrorState). mirror_holds (mirror_in_group m) t) a_is

          lent_is : (t : Part) → lends members t ≡ someone_holds w.members t
          lent_is t = lends_held members t ∙ ap (λ (ms : List Member). someone_holds ms t) begun

          kept : (t : Part) → mirror_holds (mirror_in_group old) t ≡ true
              → mirror_holds (mirror_in_group b) t ≡ true
          kept t h = sym (held_is b t) ∙ gains.kept t (held_is a t ∙ was_held t ∙ h)

          came : (t : Part) → mirror_holds (mirror_in_group b) t ≡ true
              → (mirror_holds (mirror_in_group old) t ≡ true) ⊎ (someone_holds w.members t ≡ true)
          came t h = elim (gains.came t (held_is b t ∙ h)) [
            | inl was ↦ inl (sym (was_held t) ∙ sym (held_is a t) ∙ was)
            | inr new ↦ inr (sym (lent_is t) ∙ new)
          ]

          gathering : IsGathering old.pattern (logs w) w.members (learns_all w (mirror_in_group old))
              (mirror_in_group b)
          gathering = record {
            known = known_is;
            sound =
                subst (λ (pattern : Pattern). IsSoundMirror pattern (logs w) (mirror_in_group b)) pattern_is
                gains.consistent.sound;
            kept = kept;
            came = came;
          }

          gains_those : GainsThose old.pattern (logs w) w.members (learns_all w (mirror_in_group old))
              (mirror_in_group b)
          gains_those =
              exactly old.pattern (logs w) w.members (learns_all w (mirror_in_group old)) (mirror_in_group b)
              learnt_consistently.sound gathering

          pub partly_gathered : IsPartlySettledMirror w old b
          partly_gathered = record {
            pattern = pattern_is;
            attempts = attempts_are;
            known_more = λ p.
                let e : get_or b.known p 0 ≡ get_or (join old.known (settled_vector w)) p 0 =
                ap (λ (v : List ℕ). get_or v p 0) known_is in
                let at = join-at old.known (settled_vector w) p in omega (arith, e, at);
            known_less = λ p.
                let e : get_or b.known p 0 ≡ get_or (join old.known (settled_vector w)) p 0 =
                ap (λ (v : List ℕ). get_or v p 0) known_is in
                omega (arith, e);
            kept = kept;
            passed = λ pair h.
                gains.hidden pair (ap (λ (m : MirrorState). contains pair_cmp m.passed pair) a_is ∙ h);
            only = gains_those.only;
          }

          pub has_settled : NothingLeft state_words members b → HasSettled w old b
          has_settled none = record {
            pattern = pattern_is;
            attempts = attempts_are;
            known = known_is;
            kept = kept;
            gains = gains_those;
            rest = λ t wanted.
                let unclaimed : is_unclaimed (fetch_plan b) t ≡ true =
                and_from (is_wanted (fetch_plan b) t) (not (is_claimed (fetch_plan b) t))
                ((mirrors_want_alike g (logs w) b t are gains.consistent).1
                (subst (λ (pattern : Pattern). IsWantedByMirror pattern (logs w) (mirror_in_group b) t)
                (sym pattern_is) wanted)) refl in
                sym (lent_is t) ∙ none t unclaimed;
          }

          pub has_gained : (n : ℕ) → Counts state_words one_each n a b → n + held_by old ≡ held_by b
          has_gained n h =
              let x : sum_by one_each (mirror_held a) ≡ length (mirror_held a) =
              ones (mirror_held a) in
              let y : sum_by one_each (mirror_held b) ≡ length (mirror_held b) =
              ones (mirror_held b) in
              let z : length (mirror_held a) ≡ length (mirror_held old) =
              ap (λ (m : MirrorState). length (mirror_held m)) a_is in
              let k : n + sum_by one_each (mirror_held a) ≡ sum_by one_each (mirror_held b) = h in
              omega (arith, k, x, y, z)

-- ---- one mirror after another

-- One more mirror is partly settled, or has settled.
pub record HasOneMore (g : GroupKeys) (w : World) (begun : List MirrorState) (j : ℕ) (ms new : List MirrorState)
    : Type 0 where
  pub len : length new ≡ length begun
  pub consistent : (i : ℕ) → i < length new → IsConsistentMirror g (logs w) (mirror_at new i)
  pub partly : ArePartlySettledMirrors w begun new
  pub settled : HasSettled w (mirror_at ms j) (mirror_at new j) → SettledSoFar g w begun (j + 1) new
  pub held : (parts n : ℕ) → parts + held_by_all begun ≡ held_by_all ms
      → n + held_by (mirror_at ms j) ≡ held_by (mirror_at new j) → parts + n + held_by_all begun ≡ held_by_all new

module _ (g : GroupKeys) (w : World) (begun : List MirrorState) where
  pub settled_none : ((i : ℕ) → i < length begun → IsConsistentMirror g (logs w) (mirror_at begun i))
      → SettledSoFar g w begun 0 begun
  settled_none consistent = record {
    len = refl;
    consistent = consistent;
    partly = λ i l. partly_same w (mirror_at begun i);
    done = λ i l. absurd (omega (arith, l));
    still = λ i l. refl;
  }

  module _ (j : ℕ) (ms : List MirrorState) (so_far : SettledSoFar g w begun j ms) (inside : j < length ms)
      (new : List MirrorState) (others : new ≡ set ms j (mirror_at new j))
      (consistently_new : IsConsistentMirror g (logs w) (mirror_at new j))
      (partly_new : IsPartlySettledMirror w (mirror_at ms j) (mirror_at new j)) where
    other_at : (i : ℕ) → i ≢ j → mirror_at new i ≡ mirror_at ms i
    other_at i other =
        ap (λ (xs : List MirrorState). mirror_at xs i) others
        ∙ get_or-set_other ms j i (mirror_at new j) no_mirror other

    was : mirror_at ms j ≡ mirror_at begun j
    was = so_far.still j (omega arith)

    long_new : length new ≡ length ms
    long_new = ap length others ∙ length-set ms j (mirror_at new j)

    more_len : length new ≡ length begun
    more_len = long_new ∙ so_far.len

    more_consistently : (i : ℕ) → i < length new → IsConsistentMirror g (logs w) (mirror_at new i)
    more_consistently i l = elim (cases_eq i j) [
      | inl same ↦ subst (λ (k : ℕ). IsConsistentMirror g (logs w) (mirror_at new k)) (sym same) consistently_new
      | inr other ↦
          subst (IsConsistentMirror g (logs w)) (sym (other_at i other))
          (so_far.consistent i (omega (arith, l, long_new)))
    ]

    more_partly : ArePartlySettledMirrors w begun new
    more_partly i l = elim (cases_eq i j) [
      | inl same ↦
          subst (λ (k : ℕ). IsPartlySettledMirror w (mirror_at begun k) (mirror_at new k)) (sym same)
          (subst (λ (m : MirrorState). IsPartlySettledMirror w m (mirror_at new j)) was partly_new)
      | inr other ↦
          subst (IsPartlySettledMirror w (mirror_at begun i)) (sym (other_at i other)) (so_far.partly i l)
    ]

    more_settled : HasSettled w (mirror_at ms j) (mirror_at new j) → SettledSoFar g w begun (j + 1) new
    more_settled one = record {
      len = more_len;
      consistent = more_consistently;
      partly = more_partly;
      done = λ i l. elim (cases_eq i j) [
        | inl same ↦
            subst (λ (k : ℕ). HasSettled w (mirror_at begun k) (mirror_at new k)) (sym same)
            (subst (λ (m : MirrorState). HasSettled w m (mirror_at new j)) was one)
        | inr other ↦
            subst (HasSettled w (mirror_at begun i)) (sym (other_at i other))
            (so_far.done i (omega (arith, l, other)))
      ];
      still = λ i l. other_at i (λ same. omega (arith, l, same)) ∙ so_far.still i (omega (arith, l));
    }

    more_held : (parts n : ℕ) → parts + held_by_all begun ≡ held_by_all ms
        → n + held_by (mirror_at ms j) ≡ held_by (mirror_at new j) → parts + n + held_by_all begun ≡ held_by_all new
    more_held parts n before one =
        let changed : held_by_all (set ms j (mirror_at new j)) + held_by (mirror_at ms j)
        ≡ held_by_all ms + held_by (mirror_at new j) =
        sum_by-set held_by ms j (mirror_at new j) no_mirror inside in
        let e : held_by_all new ≡ held_by_all (set ms j (mirror_at new j)) = ap held_by_all others in
        omega (arith, before, one, changed, e)

    pub one_more : HasOneMore g w begun j ms new
    one_more = record {
      len = more_len;
      consistent = more_consistently;
      partly = more_partly;
      settled = more_settled;
      held = more_held;
    }
