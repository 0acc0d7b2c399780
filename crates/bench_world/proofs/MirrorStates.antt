-- A sound world with other mirrors.
use Rattle.std.proofs.Common.{◌≡◌, ℕ, ◌+◌, ◌-◌, ◌*◌, ◌≤◌, ◌<◌, Bool, List, [], ◌∷◌, ◌++◌, length, get_or, set}
use Rattle.std.proofs.Common.{Some, None, sym, ap, ◌∙◌, subst, arith}
use Rattle.std.specs.List.{All}
use Rattle.std.proofs.lemmas.List.{get_or_default, length-set, length-append}
use Rattle.std.proofs.lemmas.List.Elements.{All-append, All-set}
use Rattle.repo_plan.specs.declared.part.Part.{Part}
use Rattle.repo_watch.specs.declared.pattern.Pattern.{Pattern}
use Rattle.group_model.specs.Member.{tries_of}
use Rattle.repo_mirror.specs.MirrorState.{MirrorState, initial_mirror, mirror_holdings}
use Rattle.repo_mirror.specs.Passing.{is_fetch_for}
use Rattle.repo_mirror.specs.ConsistentMirrors.{IsConsistentMirror}
use Rattle.repo_mirror.proofs.PublicLaws.{mirrors_begin_consistent, mirrors_learn_consistent}
use Rattle.bench_world.specs.MirrorSteps.{no_mirror, mirror_at, mirror_learns, mirror_fetched, mirror_fetches}
use Rattle.bench_world.specs.Lending.{attempt_passes}
use Rattle.bench_world.specs.MirrorsHold.{mirror_takes_consistently}
use Rattle.bench_world.specs.Truth.{TriedFew}
use Rattle.bench_world.specs.Worlds.{GroupState, IsConsistentState, MirrorTriedFew, logs_around, no_packet}
use Rattle.bench_world.proofs.Deliveries.{sync}
use Rattle.bench_world.proofs.MirrorFetches.{tried_once, fetched_come}
use Rattle.bench_world.proofs.Readers.{counted_state}
use Rattle.bench_world.proofs.States.{many}
use Rattle.bench_world.proofs.Timers.{all_one}

module _ (s : GroupState) (is : IsConsistentState s) where
  -- Other mirrors, which hold what was published.
  pub with_mirrors : (ms : List MirrorState) → All (IsConsistentMirror s.keys (logs_around s.members)) ms
      → All (MirrorTriedFew s.steps) ms → length ms ≤ 4 → IsConsistentState (record s { mirrors = ms })
  with_mirrors ms consistent tried few = record {
    are = is.are;
    numbers = is.numbers;
    members = is.members;
    sent = is.sent;
    within = is.within;
    steps = is.steps;
    mirrors = consistent;
    mirrors_tried = tried;
    mirrors_few = few;
  }

  pub added_mirror : (pattern : Pattern) (n : ℕ) → n ≡ length s.members → length s.mirrors < 4
      → (ms : List MirrorState) → ms ≡ s.mirrors ++ initial_mirror pattern n ∷ []
      → IsConsistentState (record s { mirrors = ms })
  added_mirror pattern n n_is few ms ms_is =
      with_mirrors ms
      (subst (All (IsConsistentMirror s.keys (logs_around s.members))) (sym ms_is)
      (All-append (IsConsistentMirror s.keys (logs_around s.members)) s.mirrors (initial_mirror pattern n ∷ [])
      is.mirrors
      (all_one (IsConsistentMirror s.keys (logs_around s.members)) (initial_mirror pattern n)
      (subst (λ (k : ℕ). IsConsistentMirror s.keys (logs_around s.members) (initial_mirror pattern k))
      (sym (n_is ∙ many s is))
      (mirrors_begin_consistent s.keys (logs_around s.members) pattern)))))
      (subst (All (MirrorTriedFew s.steps)) (sym ms_is)
      (All-append (MirrorTriedFew s.steps) s.mirrors (initial_mirror pattern n ∷ []) is.mirrors_tried
      (all_one (MirrorTriedFew s.steps) (initial_mirror pattern n) (λ t. omega arith))))
      (let len : length ms ≡ length s.mirrors + 1 =
      ap length ms_is ∙ length-append s.mirrors (initial_mirror pattern n ∷ []) in
      omega (arith, len, few))

  module _ (i : ℕ) (there : i < length s.mirrors) (old : MirrorState) (old_is : old ≡ get_or s.mirrors i old) where
    pub mirror_is : old ≡ mirror_at s.mirrors i
    mirror_is = old_is ∙ get_or_default s.mirrors i old no_mirror there

    pub mirror_consistently : IsConsistentMirror s.keys (logs_around s.members) old
    mirror_consistently = subst (IsConsistentMirror s.keys (logs_around s.members)) (sym old_is)
        (is.mirrors i old there)

    tried : MirrorTriedFew s.steps old
    tried = subst (MirrorTriedFew s.steps) (sym old_is) (is.mirrors_tried i old there)

    pub mirror_tried : TriedFew (mirror_holdings old)
    mirror_tried t =
        let few : tries_of old.attempts t ≤ s.steps * 16 = tried t in
        let most = is.steps in omega (arith, few, most)

    -- The mirror was given what was sent.
    pub reported_mirror : (k : ℕ) → 1 ≤ k → k ≤ length s.sent → (ms : List MirrorState)
        → ms ≡ set s.mirrors i (mirror_learns (get_or s.sent (k - 1) no_packet).vector old)
        → IsConsistentState (record s { mirrors = ms })
    reported_mirror k one last ms ms_is =
        with_mirrors ms
        (subst (All (IsConsistentMirror s.keys (logs_around s.members))) (sym ms_is)
        (All-set (IsConsistentMirror s.keys (logs_around s.members)) s.mirrors i
        (mirror_learns (get_or s.sent (k - 1) no_packet).vector old)
        (mirrors_learn_consistent s.keys (logs_around s.members) old (get_or s.sent (k - 1) no_packet).vector
        (sync s is k one last).vector mirror_consistently) is.mirrors))
        (subst (All (MirrorTriedFew s.steps)) (sym ms_is)
        (All-set (MirrorTriedFew s.steps) s.mirrors i (mirror_learns (get_or s.sent (k - 1) no_packet).vector old) tried
        is.mirrors_tried))
        (let len : length ms ≡ length s.mirrors =
        ap length ms_is
        ∙ length-set s.mirrors i (mirror_learns (get_or s.sent (k - 1) no_packet).vector old) in
        let most = is.mirrors_few in omega (arith, len, most))

    -- It has a number for each member.
    pub as_many_received : (k : ℕ) → 1 ≤ k → k ≤ length s.sent → (received : List ℕ)
        → received ≡ (get_or s.sent (k - 1) no_packet).vector → length received ≡ length old.known
    as_many_received k one last received same =
        ap length same ∙ (sync s is k one last).vector.width ∙ sym mirror_consistently.vector.width

    -- The mirror has fetched, which is a step.
    pub fetched_mirror : s.steps < 100000 → (passes : ℕ → ℕ → ℕ → ℕ → ℕ → ℕ → Bool) (tries loss : ℕ) → tries ≤ 16
        → (ms : List MirrorState) → ms ≡ set s.mirrors i (mirror_fetches passes s.members i tries loss old)
        → IsConsistentState (record s { mirrors = ms; steps = s.steps + 1 })
    fetched_mirror few passes tries loss most ms ms_is =
        let begun = counted_state s is few in
        let way : Part → ℕ → Bool = attempt_passes passes (16 + i) (Some loss) in
        let new : MirrorState = mirror_fetches passes s.members i tries loss old in
        record {
          are = begun.are;
          numbers = begun.numbers;
          members = begun.members;
          sent = begun.sent;
          within = begun.within;
          steps = begun.steps;
          mirrors =
              subst (All (IsConsistentMirror s.keys (logs_around s.members))) (sym ms_is)
              (All-set (IsConsistentMirror s.keys (logs_around s.members)) s.mirrors i new
              (mirror_takes_consistently s.keys (logs_around s.members)
              (mirror_fetched passes s.members i tries loss old) old
              is.are
              (fetched_come way s.members tries (mirror_holdings old) s.keys (logs_around s.members) is.members None)
              mirror_consistently) is.mirrors);
          mirrors_tried =
              subst (All (MirrorTriedFew (s.steps + 1))) (sym ms_is)
              (All-set (MirrorTriedFew (s.steps + 1)) s.mirrors i new (λ t.
              let a : tries_of new.attempts t ≤ tries_of old.attempts t + 16 =
              tried_once way s.members tries (mirror_holdings old) most (is_fetch_for old.pattern) None old.attempts
              t in
              let b : tries_of old.attempts t ≤ s.steps * 16 = tried t in
              omega (arith, a, b)) begun.mirrors_tried);
          mirrors_few =
              let len : length ms ≡ length s.mirrors = ap length ms_is ∙ length-set s.mirrors i new in
              let most_mirrors = is.mirrors_few in omega (arith, len, most_mirrors);
        }
