-- Lists of calls of one mirror.
use Rattle.std.proofs.Common.{◌≡◌, ℕ, true, false, List, [], ◌∷◌, Option, Some, None, is_some, refl, sym, ◌∙◌}
use Rattle.std.proofs.lemmas.Bool.{true≢false, or_right}
use Rattle.std.proofs.lemmas.List.Elements.{All-nil}
use Rattle.svs_vector.specs.Vectors.{join_all}
use Rattle.svs_vector.proofs.JoinLemmas.{join-[], join_assoc}
use Rattle.sorted_lists.specs.SortedList.{contains, value_of}
use Rattle.repo_plan.specs.Parts.{part_cmp, pair_cmp}
use Rattle.repo_holdings.proofs.FreshLemmas.{fetched_stays}
use Rattle.repo_holdings.proofs.GainingLemmas.{contains-value}
use Rattle.repo_watch.specs.declared.pattern.Pattern.{Pattern}
use Rattle.repo_member.specs.Outcomes.{outcome_of}
use Rattle.repo_mirror.specs.PacketsFor.{IsPacketFor}
use Rattle.repo_mirror.specs.MirrorState.{MirrorState, initial_mirror}
use Rattle.repo_mirror.specs.Passing.{fetches_for, passed_over}
use Rattle.repo_mirror.specs.MirrorCalls.{MirrorCall, Learn, TakeOutcome, after_mirror_call, after_mirror_calls}
use Rattle.repo_mirror.specs.MirrorCalls.{IsAllowedMirrorCall, AreAllowedMirrorCalls, InEveryMirror, PassedIsGone}
use Rattle.repo_mirror.specs.MirrorCalls.{StoredStays, PassedStays, KnowsTheJoin, vectors_learnt}
use Rattle.repo_mirror.proofs.ReachedLemmas.{IsReached, reached_takes}
use Rattle.repo_mirror.proofs.TakenLemmas.{hidden_is}

-- ---- what calls reach

reached_opening : (pattern : Pattern) (members : ℕ) → IsReached (initial_mirror pattern members)
reached_opening pattern members = record {
  in_order = tt;
  recorded = λ t h. absurd (true≢false (sym h));
  gone = λ t h. refl;
  packets = All-nil (IsPacketFor pattern);
}

reached_call : (call : MirrorCall) (m : MirrorState) → IsAllowedMirrorCall m call → IsReached m
    → IsReached (after_mirror_call call m)
reached_call (Learn received) m can r =
    record { in_order = r.in_order; recorded = r.recorded; gone = r.gone; packets = r.packets }
reached_call (TakeOutcome jobs parts attempts) m can r = reached_takes m jobs parts attempts can.0 can.1 r

reached_calls : (calls : List MirrorCall) (m : MirrorState) → AreAllowedMirrorCalls m calls → IsReached m
    → IsReached (after_mirror_calls calls m)
reached_calls [] m can r = r
reached_calls (call ∷ calls) m can r =
    reached_calls calls (after_mirror_call call m) can.1 (reached_call call m can.0 r)

pub in_every_mirror : (P : MirrorState → Type 0) → ((m : MirrorState) → IsReached m → P m) → InEveryMirror P
in_every_mirror P holds pattern members calls can =
    let begun = initial_mirror pattern members in
    holds (after_mirror_calls calls begun) (reached_calls calls begun can (reached_opening pattern members))

pub passed_is_gone : (m : MirrorState) → IsReached m → PassedIsGone m
passed_is_gone m r t h = go (value_of part_cmp m.store t) (sym (contains-value m.store t) ∙ r.gone t h) where
  go : (o : Option (List ℕ)) → is_some o ≡ false → o ≡ None
  go None k = refl
  go (Some octets) k = absurd (true≢false k)

-- ---- what lasts

pub stored_stays : StoredStays
stored_stays [] m t octets h = h
stored_stays (Learn received ∷ calls) m t octets h = stored_stays calls (after_mirror_call (Learn received) m) t octets
    h
stored_stays (TakeOutcome jobs parts attempts ∷ calls) m t octets h =
    stored_stays calls (after_mirror_call (TakeOutcome jobs parts attempts) m) t octets
    (fetched_stays (fetches_for m.pattern (outcome_of jobs parts attempts)) m.store t octets h)

pub passed_stays : PassedStays
passed_stays [] m pair h = h
passed_stays (Learn received ∷ calls) m pair h = passed_stays calls (after_mirror_call (Learn received) m) pair h
passed_stays (TakeOutcome jobs parts attempts ∷ calls) m pair h =
    let newly = passed_over m.pattern (outcome_of jobs parts attempts) in
    passed_stays calls (after_mirror_call (TakeOutcome jobs parts attempts) m) pair
    (hidden_is newly m.passed pair ∙ or_right (contains pair_cmp newly pair) (contains pair_cmp m.passed pair) h)

pub knows_the_join : KnowsTheJoin
unfolding join_all
knows_the_join [] m = sym (join-[] m.known)
knows_the_join (Learn received ∷ calls) m =
    knows_the_join calls (after_mirror_call (Learn received) m)
    ∙ join_assoc m.known received (join_all (vectors_learnt calls))
knows_the_join (TakeOutcome jobs parts attempts ∷ calls) m =
    knows_the_join calls (after_mirror_call (TakeOutcome jobs parts attempts) m)
