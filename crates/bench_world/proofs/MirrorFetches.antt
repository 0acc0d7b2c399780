-- After a fetch a mirror still holds only what was published, and has tried no part too often.
use Rattle.std.proofs.Common.{◌≡◌, inl, inr, ℕ, suc, ◌+◌, ◌≤◌, ◌<◌, Bool, true, false, cond, List, [], ◌∷◌}
use Rattle.std.proofs.Common.{length, Option, Some, None, refl, sym, ap, ◌∙◌, subst, arith}
use Rattle.std.specs.Prelude.{is_some, unwrap_or, find, filter, IfSome}
use Rattle.std.specs.List.{All}
use Rattle.repo_plan.specs.declared.part.Part.{Part}
use Rattle.repo_plan.specs.Parts.{part_cmp}
use Rattle.repo_plan.specs.Plan.{attempts_of}
use Rattle.repo_plan.proofs.Orders.{exact_parts}
use Rattle.sorted_lists.specs.SortedList.{Rises}
use Rattle.sorted_lists.specs.Range.{numbers_from}
use Rattle.sorted_lists.proofs.Ranges.{from_numbers}
use Rattle.sorted_lists.proofs.Sets.{In, from_map, rises_filter}
use Rattle.sorted_lists.proofs.Members.{in_filtered}
use Rattle.repo_object.specs.declared.job.Job.{Job}
use Rattle.repo_object.specs.Verdict.{CheckedPart}
use Rattle.repo_holdings.specs.HoldingsState.{HoldingsState, held_plan}
use Rattle.repo_holdings.specs.Taking.{Fetched, with_all_tries}
use Rattle.group_model.specs.Publications.{Logs}
use Rattle.group_model.specs.Member.{tries_of, with_each_tried, with_tries}
use Rattle.group_model.proofs.Tries.{each_tried_at}
use Rattle.repo_member.specs.Groups.{GroupKeys}
use Rattle.repo_member.specs.MemberState.{MemberState}
use Rattle.repo_member.specs.Outcomes.{AreFetchedOf}
use Rattle.repo_member.specs.InGroup.{AreTries, asked_for, published_packet}
use Rattle.bench_world.specs.declared.holder.Filtering.{Filtering}
use Rattle.bench_world.specs.Lending.{lent, lends}
use Rattle.bench_world.specs.Gathering.{next_parts}
use Rattle.bench_world.specs.Fetching.{attempt_at, fetched_one, fetched_all}
use Rattle.bench_world.specs.Holders.{FetchForHolder}
use Rattle.bench_world.specs.Worlds.{AreConsistentMembers}
use Rattle.bench_world.proofs.PhaseOutcomes.{lends_consistent}
use Rattle.bench_world.proofs.NextParts.{all_from_in, next_unclaimed, next_rise}

-- ---- jobs

-- There is one result for each job.
pub many_parts : (g : GroupKeys) (h : HoldingsState) (jobs : List Job) (parts : List (Option CheckedPart)) (ns : List ℕ)
    → AreFetchedOf g h jobs parts ns → length parts ≡ length jobs
many_parts g h [] [] [] are = refl
many_parts g h [] [] (n ∷ ns) are = absurd are
many_parts g h [] (part ∷ parts) [] are = absurd are
many_parts g h [] (part ∷ parts) (n ∷ ns) are = absurd are
many_parts g h (job ∷ jobs) [] [] are = absurd are
many_parts g h (job ∷ jobs) [] (n ∷ ns) are = absurd are
many_parts g h (job ∷ jobs) (part ∷ parts) [] are = absurd are
many_parts g h (job ∷ jobs) (part ∷ parts) (n ∷ ns) are =
    let rest : length parts ≡ length jobs = many_parts g h jobs parts ns are.1 in omega (arith, rest)

-- Mirrors with filters that are the same are the same mirrors.
pub same_mirror : {X : Type 0} {f : _} (a b : Filtering X f) → a ≡ b → a.mirror ≡ b.mirror
same_mirror {X} {f} a b e = ap (λ (t : Filtering X f). t.mirror) e

-- ---- attempts

found_in : (p : ℕ → Bool) (xs : List ℕ) (x : ℕ) → find p xs ≡ Some x → In x xs
found_in p [] x e = absurd cc
found_in p (y ∷ ys) x e = go (p y) (found_in p ys x) e where
  go : (b : Bool) → (find p ys ≡ Some x → In x ys) → cond b (Some y) (find p ys) ≡ Some x → In x (y ∷ ys)
  go true h k = inl cc
  go false h k = inr (h k)

first_few : (p : ℕ → Bool) (tries : ℕ) (o : Option ℕ) → find p (numbers_from 1 tries) ≡ o → unwrap_or o tries ≤ tries
first_few p tries None e = omega arith
first_few p tries (Some a) e =
    let b : (1 ≤ a) × (a < 1 + tries) = from_numbers 1 tries a (found_in p (numbers_from 1 tries) a e) in
    let c : a < 1 + tries = b.1 in omega (arith, c)

pub tries_each : (more : Part → ℕ) (xs : List Fetched) (ns : List (Part × ℕ)) → AreTries more xs
    → with_all_tries xs ns ≡ with_each_tried more (asked_for xs) ns
tries_each more [] ns are = refl
tries_each more (x ∷ xs) ns are =
    let one : x.attempts ≡ more x.part = are 0 x (omega arith) in
    ap (λ (n : ℕ). with_all_tries xs (with_tries x.part n ns)) one
    ∙ tries_each more xs (with_tries x.part (more x.part) ns) (λ k d l. are (suc k) d (omega (arith, l)))

module _ (passes : Part → ℕ → Bool) (others : List MemberState) (tries : ℕ) (h : HoldingsState) where
  abbrev one : Part → Fetched
  one t = fetched_one passes others tries h t

  few_attempts : (t : Part) → (fetched_one passes others tries h t).attempts ≤ tries
  few_attempts t = go (lends others t) where
    go : (b : Bool)
        → unwrap_or (cond b (find (λ n. passes t (attempts_of (held_plan h) t + n)) (numbers_from 1 tries)) None) tries
        ≤ tries
    go true =
        first_few (λ n. passes t (attempts_of (held_plan h) t + n)) tries
        (find (λ n. passes t (attempts_of (held_plan h) t + n)) (numbers_from 1 tries)) refl
    go false = omega arith

  pub kept_parts : (q : Fetched → Bool) (ts : List Part)
      → asked_for (filter q (fetched_all passes others tries h ts)) ≡ filter (λ t. q (one t)) ts
  kept_parts q [] = refl
  kept_parts q (t ∷ ts) = go (q (one t)) (kept_parts q ts) where
    go : (b : Bool) → asked_for (filter q (fetched_all passes others tries h ts)) ≡ filter (λ t. q (one t)) ts
        → asked_for (cond b (one t ∷ filter q (fetched_all passes others tries h ts))
        (filter q (fetched_all passes others tries h ts)))
        ≡ cond b (t ∷ filter (λ t. q (one t)) ts) (filter (λ t. q (one t)) ts)
    go true e = ap (λ (us : List Part). t ∷ us) e
    go false e = e

  pub kept_tries : (q : Fetched → Bool) (ts : List Part) (more : Part → ℕ)
      → ((t : Part) → (fetched_one passes others tries h t).attempts ≡ more t)
      → AreTries more (filter q (fetched_all passes others tries h ts))
  kept_tries q ts more each =
      all_from_in (λ (x : Fetched). x.attempts ≡ more x.part) (filter q (fetched_all passes others tries h ts)) (λ x i.
      let r =
      from_map (fetched_one passes others tries h) ts x (in_filtered q (fetched_all passes others tries h ts) x i).0 in
      subst (λ (y : Fetched). y.attempts ≡ more y.part) (sym r.2) (each r.0))

  -- Whichever results are taken, no part has been tried more than 16 times more often.
  pub tried_once : tries ≤ 16 → (q : Fetched → Bool) (after : Option Part) (ns : List (Part × ℕ)) (t : Part)
      → tries_of (with_all_tries (filter q (fetched_all passes others tries h (next_parts after h))) ns) t
      ≤ tries_of ns t + 16
  tried_once few q after ns t =
      let more : Part → ℕ = λ u. (fetched_one passes others tries h u).attempts in
      subst (λ (ms : List (Part × ℕ)). tries_of ms t ≤ tries_of ns t + 16)
      (sym (tries_each more (filter q (fetched_all passes others tries h (next_parts after h))) ns
      (kept_tries q (next_parts after h) more (λ u. refl))))
      (each_tried_at more (asked_for (filter q (fetched_all passes others tries h (next_parts after h)))) ns t
      (subst (Rises part_cmp) (sym (kept_parts q (next_parts after h)))
      (rises_filter exact_parts.total (λ u. q (one u)) (next_parts after h) (next_rise h after)))
      (λ u. let n : (fetched_one passes others tries h u).attempts ≤ tries = few_attempts u in omega (arith, n, few)))

  -- ---- packets

  -- The parts that are asked for are unclaimed, and the packets that are received for them are the published ones.
  module _ (g : GroupKeys) (logs : Logs) (all : AreConsistentMembers g logs others) (after : Option Part) where
    pub fetched_comes : (t : Part) → In t (next_parts after h)
        → FetchForHolder g logs h (fetched_one passes others tries h t)
    fetched_comes t i = record {
      unclaimed = next_unclaimed h after t i;
      packet = lent_if (is_some (attempt_at passes others tries h t)) (lent others t) refl;
    } where
      lent_if : (b : Bool) (o : Option (List ℕ)) → lent others t ≡ o
          → IfSome (cond b o None) (λ octets. published_packet g logs t ≡ Some octets)
      lent_if true None e = tt
      lent_if true (Some octets) e = lends_consistent g logs others all t octets e
      lent_if false o e = tt

    pub fetched_come : All (FetchForHolder g logs h) (fetched_all passes others tries h (next_parts after h))
    fetched_come = all_from_in (FetchForHolder g logs h) (fetched_all passes others tries h (next_parts after h))
        (λ x i.
        let r = from_map (fetched_one passes others tries h) (next_parts after h) x i in
        subst (FetchForHolder g logs h) (sym r.2) (fetched_comes r.0 r.1))
