-- What a mirror asks for, and what it receives, is what the model says.
use Rattle.std.proofs.Common.{◌≡◌, ℕ, ◌+◌, Bool, true, cond, ◌||◌, List, map, take, Option, Some, None, refl, sym, ap}
use Rattle.std.proofs.Common.{◌∙◌, subst}
use Rattle.std.specs.Prelude.{◌↔◌, not, is_some, unwrap_or, find, filter, sum, sum_by, slice_index_or}
use Rattle.std.proofs.Math.Bool.{and-true}
use Rattle.std.proofs.lemmas.List.Elements.{filter_agree}
use Rattle.repo_plan.specs.declared.part.Part.{Part}
use Rattle.sorted_lists.specs.SortedList.{contains, value_of}
use Rattle.sorted_lists.specs.Range.{numbers_from}
use Rattle.sorted_lists.proofs.Sets.{In}
use Rattle.repo_plan.specs.Parts.{part_cmp, pair_of}
use Rattle.repo_plan.specs.Plan.{is_wanted, is_unclaimed, wanted, unclaimed, known_parts}
use Rattle.repo_plan.proofs.Known.{contains-unclaimed}
use Rattle.repo_plan.proofs.Scans.{after_none}
use Rattle.repo_holdings.specs.Taking.{Fetched}
use Rattle.group_model.specs.Member.{Member, with_each_tried}
use Rattle.group_model.specs.World.{World, logs, someone_holds}
use Rattle.group_model.proofs.Lists.{same_filter}
use Rattle.repo_mirror.specs.Asked.{is_for}
use Rattle.repo_mirror.specs.Mirrors.{mirror_holds, IsWantedByMirror}
use Rattle.repo_member.specs.Groups.{GroupKeys}
use Rattle.repo_member.specs.MemberState.{MemberState}
use Rattle.repo_member.specs.InGroup.{AreLogs, parts_fetched}
use Rattle.repo_mirror.specs.MirrorState.{MirrorState, mirror_holdings, fetch_plan}
use Rattle.repo_mirror.specs.Passing.{is_fetch_for}
use Rattle.repo_mirror.specs.ConsistentMirrors.{mirror_in_group, IsConsistentMirror}
use Rattle.repo_mirror.proofs.PublicLaws.{mirrors_plan_alike, mirrors_want_alike, mirrors_take_consistent}
use Rattle.bench_world.specs.Lending.{attempt_passes}
use Rattle.bench_world.specs.Gathering.{next_parts}
use Rattle.bench_world.specs.Fetching.{attempt_at, fetched_one}
use Rattle.bench_world.specs.MirrorSteps.{mirror_fetched, mirror_fetches}
use Rattle.bench_world.specs.MirrorFetching.{mirror_wants, mirror_asks, mirror_attempt, mirror_gets, mirror_attempts}
use Rattle.bench_world.specs.MirrorFetching.{mirror_counts, HasFetched}
use Rattle.bench_world.specs.MirrorsHold.{for_mirror}
use Rattle.bench_world.specs.Worlds.{in_groups, AreConsistentMembers}
use Rattle.bench_world.proofs.MemberGathering.{lends_held}
use Rattle.bench_world.proofs.GroupFetches.{asked_same, came_some, came_same, tried_same, tried_sum}
use Rattle.bench_world.proofs.MirrorCounts.{counts}
use Rattle.bench_world.proofs.MirrorFetches.{tries_each, kept_parts, kept_tries, fetched_comes, fetched_come}

module _ (passes : ℕ → ℕ → ℕ → ℕ → ℕ → ℕ → Bool) (g : GroupKeys) (w : World) (are : AreLogs g (logs w))
    (members : List MemberState) (begun : in_groups members ≡ w.members) (m : MirrorState)
    (consistent : IsConsistentMirror g (logs w) m) (i tries loss : ℕ) where
  abbrev way : Part → ℕ → Bool
  way = attempt_passes passes (16 + i) (Some loss)

  -- ---- what it asks for

  -- No fetcher claims anything of a mirror.
  unclaimed_is : (t : Part) → is_unclaimed (fetch_plan m) t ≡ is_wanted (fetch_plan m) t
  unclaimed_is t = and-true (is_wanted (fetch_plan m) t)

  all_are : unclaimed (fetch_plan m) ≡ mirror_wants w m
  all_are =
      filter_agree (is_unclaimed (fetch_plan m)) (is_wanted (fetch_plan m)) unclaimed_is (known_parts (fetch_plan m))
      ∙ ap wanted (mirrors_plan_alike g (logs w) m are consistent)

  pub asks_are : next_parts None (mirror_holdings m) ≡ mirror_asks w m
  asks_are = ap (take 4096) (after_none (unclaimed (fetch_plan m)) ∙ all_are)

  wants_are : (t : Part) → contains part_cmp (mirror_wants w m) t ≡ is_wanted (fetch_plan m) t
  wants_are t =
      ap (λ (ts : List Part). contains part_cmp ts t) (sym all_are)
      ∙ contains-unclaimed (fetch_plan m) t
      ∙ unclaimed_is t

  -- ---- what comes

  attempt_is : (t : Part)
      → attempt_at (attempt_passes passes (16 + i) (Some loss)) members tries (mirror_holdings m) t
      ≡ mirror_attempt passes w i tries loss m t
  attempt_is t =
      ap (λ (b : Bool). cond b
      (find (λ n. passes (16 + i) t.publisher t.seq t.part (unwrap_or (value_of part_cmp m.attempts t) 0 + n) loss)
      (numbers_from 1 tries)) None)
      (lends_held members t ∙ ap (λ (ms : List Member). someone_holds ms t) begun)

  pub gets_are : parts_fetched (mirror_fetched passes members i tries loss m) ≡ mirror_gets passes w i tries loss m
  gets_are =
      came_same way members tries (mirror_holdings m) (next_parts None (mirror_holdings m))
      ∙ filter_agree (λ t. is_some (attempt_at way members tries (mirror_holdings m) t))
      (λ t. is_some (mirror_attempt passes w i tries loss m t)) (λ t. ap is_some (attempt_is t))
      (next_parts None (mirror_holdings m))
      ∙ ap (filter (λ t. is_some (mirror_attempt passes w i tries loss m t))) asks_are

  pub attempts_are : sum (map (λ (x : Fetched). x.attempts) (mirror_fetched passes members i tries loss m))
      ≡ sum_by (mirror_attempts passes w i tries loss m) (mirror_asks w m)
  attempts_are =
      let more : Part → ℕ = mirror_attempts passes w i tries loss m in
      tried_sum more (mirror_fetched passes members i tries loss m)
      (tried_same way members tries (mirror_holdings m) more
      (λ t. ap (λ (o : Option ℕ). unwrap_or o tries) (attempt_is t)) (next_parts None (mirror_holdings m)))
      ∙ ap (sum_by more)
      (asked_same way members tries (mirror_holdings m) (next_parts None (mirror_holdings m)) ∙ asks_are)

  -- ---- what it holds then, and which attempts count

  module _ (all : AreConsistentMembers g (logs w) members) where
    counts_are : (t : Part) → In t (next_parts None (mirror_holdings m))
        → is_fetch_for m.pattern (fetched_one way members tries (mirror_holdings m) t)
        ≡ (is_for m.pattern (logs w) (pair_of t) || not (is_some (mirror_attempt passes w i tries loss m t)))
    counts_are t asked =
        counts g (logs w) m (fetched_one way members tries (mirror_holdings m) t) are consistent
        (for_mirror g (logs w) m (fetched_one way members tries (mirror_holdings m) t) are consistent
        (fetched_comes way members tries (mirror_holdings m) g (logs w) all None t asked))
        ∙ ap (λ (b : Bool). is_for m.pattern (logs w) (pair_of t) || not b)
        (came_some way members tries (mirror_holdings m) t ∙ ap is_some (attempt_is t))

    tried_are : (mirror_fetches passes members i tries loss m).attempts
        ≡ with_each_tried (mirror_attempts passes w i tries loss m) (mirror_counts passes w i tries loss m) m.attempts
    tried_are =
        let more : Part → ℕ = mirror_attempts passes w i tries loss m in
        let ts : List Part = next_parts None (mirror_holdings m) in
        tries_each more (filter (is_fetch_for m.pattern) (mirror_fetched passes members i tries loss m)) m.attempts
        (kept_tries way members tries (mirror_holdings m) (is_fetch_for m.pattern) ts more
        (λ t. ap (λ (o : Option ℕ). unwrap_or o tries) (attempt_is t)))
        ∙ ap (λ (us : List Part). with_each_tried more us m.attempts)
        (kept_parts way members tries (mirror_holdings m) (is_fetch_for m.pattern) ts
        ∙ same_filter (λ t. is_fetch_for m.pattern (fetched_one way members tries (mirror_holdings m) t))
        (λ t. is_for m.pattern (logs w) (pair_of t) || not (is_some (mirror_attempt passes w i tries loss m t))) ts
        counts_are
        ∙ ap (filter (λ t. is_for m.pattern (logs w) (pair_of t)
        || not (is_some (mirror_attempt passes w i tries loss m t)))) asks_are)

    pub has_fetched : HasFetched passes w i tries loss m (mirror_fetches passes members i tries loss m)
    has_fetched = record {
      pattern = refl;
      known = refl;
      wants = λ t. subst (λ (b : Bool). (b ≡ true) ↔ IsWantedByMirror m.pattern (logs w) (mirror_in_group m) t)
          (sym (wants_are t)) (mirrors_want_alike g (logs w) m t are consistent);
      held = λ t.
          (mirrors_take_consistent g (logs w) m (mirror_fetched passes members i tries loss m) are consistent (λ k d l.
          for_mirror g (logs w) m (slice_index_or (mirror_fetched passes members i tries loss m) k d) are consistent
          (fetched_come way members tries (mirror_holdings m) g (logs w) all None k d l))).held t
          ∙ ap (λ (ts : List Part). contains part_cmp ts t || mirror_holds (mirror_in_group m) t) gets_are;
      tried = tried_are;
    }
