-- Mirrors are holders of parts: the laws of holders hold of them.
use Rattle.std.proofs.Common.{◌≡◌, inl, inr, ℕ, suc, Bool, true, false, cond, ◌==◌, ◌&&◌, ◌||◌, List, [], ◌∷◌, map}
use Rattle.std.proofs.Common.{Option, Some, None, refl, sym, ap, ◌∙◌, subst, arith}
use Rattle.std.specs.Prelude.{IfSome, slice_index_or, filter, not, option_map, unwrap_or}
use Rattle.std.specs.Cmp.{both_ways}
use Rattle.std.specs.List.{All}
use Rattle.std.specs.Ordering.{eq_by_cmp}
use Rattle.std.proofs.Math.Bool.{or_comm, and-false}
use Rattle.std.proofs.lemmas.Bool.{and_parts, and_from, or_cases, or_right, eqb-true, eq-eqb}
use Rattle.repo_plan.specs.declared.part.Part.{Part}
use Rattle.repo_plan.specs.Parts.{Pair, pair_cmp, part_cmp, pair_of, part_of}
use Rattle.repo_plan.specs.Plan.{is_wanted}
use Rattle.repo_plan.proofs.Kept.{wanted_parts}
use Rattle.repo_plan.proofs.Orders.{exact_parts, exact_pairs}
use Rattle.sorted_lists.specs.SortedList.{keys, contains, insert_key, insert_keys}
use Rattle.sorted_lists.proofs.Sets.{In, contains_in, in_contains, in_map, from_map, contains-insert_key}
use Rattle.repo_holdings.specs.Hiding.{with_hidden}
use Rattle.repo_holdings.specs.Taking.{Fetched, with_fetched, with_all_fetched, with_tries, with_all_tries}
use Rattle.group_model.specs.Publications.{Logs}
use Rattle.group_model.specs.Sound.{IsPublishedPart}
use Rattle.group_model.proofs.Lists.{contains-insert_keys, rises_insert_keys}
use Rattle.group_model.proofs.Members.{known_published}
use Rattle.repo_mirror.specs.Mirrors.{mirror_holds}
use Rattle.repo_watch.specs.declared.pattern.Pattern.{Pattern}
use Rattle.repo_member.specs.Groups.{GroupKeys}
use Rattle.repo_member.specs.InGroup.{AreLogs, IsConsistentFetch, published_packet, parts_fetched}
use Rattle.repo_member.proofs.PublicLaws.{holders_want_published}
use Rattle.repo_mirror.specs.MirrorState.{MirrorState, mirror_holdings, fetch_plan}
use Rattle.repo_mirror.specs.Passing.{is_packet_for, is_fetch_for, fetches_for, not_kept, passed_over}
use Rattle.repo_mirror.specs.Passing.{mirror_takes}
use Rattle.repo_mirror.specs.ConsistentMirrors.{mirror_in_group, IsConsistentMirror, FetchForMirror}
use Rattle.repo_mirror.proofs.PublicLaws.{mirror_is_holder, mirrors_take_consistent}
use Rattle.bench_world.specs.declared.holder.Filtering.{Filtering}
use Rattle.bench_world.specs.Holders.{AreHolders, FetchForHolder, FetchedNothing}
use Rattle.bench_world.specs.MirrorWords.{mirror_held, mirror_rest, mirror_words}

-- ---- what a mirror holds

-- A part is one of the records of `pairs` exactly if its part number is 0 and its publication is one of `pairs`.
record_there : (pairs : List Pair) (t : Part)
    → contains part_cmp (map (λ pair. part_of pair 0) pairs) t ≡ (t.part == 0 && contains pair_cmp pairs (pair_of t))
record_there pairs t =
    both_ways (contains part_cmp (map (λ pair. part_of pair 0) pairs) t)
    (t.part == 0 && contains pair_cmp pairs (pair_of t))
    (λ h.
    let r : (pair : Pair) × (In pair pairs) × (t ≡ part_of pair 0) =
    from_map (λ pair. part_of pair 0) pairs t
    (in_contains exact_parts (map (λ pair. part_of pair 0) pairs) t h) in
    and_from (t.part == 0) (contains pair_cmp pairs (pair_of t)) (eq-eqb t.part 0 (ap (λ (u : Part). u.part) r.2))
    (ap (contains pair_cmp pairs) (ap pair_of r.2) ∙ contains_in exact_pairs pairs r.0 r.1))
    (λ h.
    let p = and_parts (t.part == 0) (contains pair_cmp pairs (pair_of t)) h in
    let same : part_of (pair_of t) 0 ≡ t = ap (part_of (pair_of t)) (sym (eqb-true t.part 0 p.0)) in
    subst (λ (u : Part). contains part_cmp (map (λ pair. part_of pair 0) pairs) u ≡ true) same
    (contains_in exact_parts (map (λ pair. part_of pair 0) pairs) (part_of (pair_of t) 0)
    (in_map (λ pair. part_of pair 0) pairs (pair_of t) (in_contains exact_pairs pairs (pair_of t) p.1))))

-- The part `t` is one of a mirror's held parts exactly if the mirror holds it in its group.
pub held_is : (m : MirrorState) (t : Part) → contains part_cmp (mirror_held m) t ≡ mirror_holds (mirror_in_group m) t
held_is m t =
    contains-insert_keys (map (λ pair. part_of pair 0) m.passed) (keys m.store) t
    ∙ ap (λ (b : Bool). b || contains part_cmp (keys m.store) t) (record_there m.passed t)
    ∙ or_comm (t.part == 0 && contains pair_cmp m.passed (pair_of t)) (contains part_cmp (keys m.store) t)

published : (g : GroupKeys) (logs : Logs) (m : MirrorState) (t : Part) → IsConsistentMirror g logs m
    → contains part_cmp (mirror_held m) t ≡ true → IsPublishedPart logs t
published g logs m t consistent h =
    elim (or_cases (contains part_cmp (keys m.store) t) (t.part == 0 && contains pair_cmp m.passed (pair_of t))
    (sym (held_is m t) ∙ h)) [
      | inl kept ↦ record {
        there = consistent.stored.published t kept;
        counted = (consistent.sound.kept t kept).counted;
      }
      | inr passed ↦
          let p = and_parts (t.part == 0) (contains pair_cmp m.passed (pair_of t)) passed in
          let zero : t.part ≡ 0 = eqb-true t.part 0 p.0 in
          record {
            there =
                known_published logs m.known (pair_of t) consistent.vector.no_more
                (consistent.sound.passed (pair_of t) p.1).known;
            counted = omega (arith, zero);
          }
    ]

not_held : (m : MirrorState) (t : Part) → is_wanted (fetch_plan m) t ≡ true
    → contains part_cmp (mirror_held m) t ≡ false
not_held m t wanted =
    let w = wanted_parts (fetch_plan m) t wanted in
    held_is m t ∙ (λ i. w.not_held i || (t.part == 0 && w.not_hidden i)) ∙ and-false (t.part == 0)

-- ---- what it takes

-- What was fetched for a mirror, seen as any holder, was fetched for it as a mirror.
pub for_mirror : (g : GroupKeys) (logs : Logs) (m : MirrorState) (x : Fetched) → AreLogs g logs
    → IsConsistentMirror g logs m
    → FetchForHolder g logs (mirror_holdings m) x → FetchForMirror g logs m x
for_mirror g logs m x are consistent came =
    record { part_wanted = wanted; consistent = go x.packet came.packet } where
      wanted : is_wanted (fetch_plan m) x.part ≡ true
      wanted = (and_parts (is_wanted (fetch_plan m) x.part) _ came.unclaimed).0

      go : (o : Option (List ℕ)) → IfSome o (λ octets. published_packet g logs x.part ≡ Some octets)
          → IsConsistentFetch g logs x.part o
      go None h = tt
      go (Some octets) h = record {
        published =
            (holders_want_published g logs (mirror_holdings m) x.part are (mirror_is_holder g logs m consistent)
            wanted).there;
        packet = h;
      }

module _ (pattern : Pattern) where
  -- A result without a packet is kept, so nothing is passed over where there are only such results.
  kept_one : (x : Fetched) → FetchedNothing x → is_fetch_for pattern x ≡ true
  kept_one x none =
      ap (λ (o : Option (List ℕ)). unwrap_or (option_map (is_packet_for pattern x.part) o) true) none.packet

  kept_all : (xs : List Fetched) → All FetchedNothing xs → fetches_for pattern xs ≡ xs
  kept_all [] none = refl
  kept_all (x ∷ xs) none =
      ap (λ (b : Bool). cond b (x ∷ fetches_for pattern xs) (fetches_for pattern xs))
      (kept_one x (none 0 x (omega arith)))
      ∙ ap (λ (ys : List Fetched). x ∷ ys) (kept_all xs (λ k d l. none (suc k) d (omega (arith, l))))

  none_passed : (xs : List Fetched) → All FetchedNothing xs → not_kept pattern xs ≡ []
  none_passed [] none = refl
  none_passed (x ∷ xs) none =
      ap (λ (b : Bool). map (λ (y : Fetched). pair_of y.part)
      (cond (not b) (x ∷ filter (λ y. not (is_fetch_for pattern y)) xs)
      (filter (λ y. not (is_fetch_for pattern y)) xs))) (kept_one x (none 0 x (omega arith)))
      ∙ none_passed xs (λ k d l. none (suc k) d (omega (arith, l)))

  -- If no result counts an attempt, the counts of attempts are unchanged.
  no_tries : (xs : List Fetched) (ns : List (Part × ℕ)) → All (λ (x : Fetched). x.attempts ≡ 0) xs
      → with_all_tries (fetches_for pattern xs) ns ≡ ns
  no_tries [] ns none = refl
  no_tries (x ∷ xs) ns none =
      go (is_fetch_for pattern x) (no_tries xs ns (λ k d l. none (suc k) d (omega (arith, l)))) where
        one : x.attempts ≡ 0
        one = none 0 x (omega arith)

        go : (b : Bool) → with_all_tries (fetches_for pattern xs) ns ≡ ns
            → with_all_tries (cond b (x ∷ fetches_for pattern xs) (fetches_for pattern xs)) ns ≡ ns
        go true h = ap (λ (n : ℕ). with_all_tries (fetches_for pattern xs) (with_tries x.part n ns)) one ∙ h
        go false h = h

nothing_fetched : (xs : List Fetched) (stored : List (Part × List ℕ)) → All FetchedNothing xs
    → with_all_fetched xs stored ≡ stored
nothing_fetched [] stored none = refl
nothing_fetched (x ∷ xs) stored none =
    let one : FetchedNothing x = none 0 x (omega arith) in
    ap (λ (o : Option (List ℕ)). with_all_fetched xs (with_fetched x.part o stored)) one.packet
    ∙ nothing_fetched xs stored (λ k d l. none (suc k) d (omega (arith, l)))

takes_nothing : (xs : List Fetched) (m : MirrorState) → All FetchedNothing xs → mirror_takes xs m ≡ m
takes_nothing xs m none =
    let stored : with_all_fetched (fetches_for m.pattern xs) m.store ≡ m.store =
    ap (λ (ys : List Fetched). with_all_fetched ys m.store) (kept_all m.pattern xs none)
    ∙ nothing_fetched xs m.store none in
    let passed : with_hidden (insert_keys pair_cmp (not_kept m.pattern xs) []) m.passed ≡ m.passed =
    ap (λ (ps : List Pair). with_hidden (insert_keys pair_cmp ps []) m.passed) (none_passed m.pattern xs none) in
    let tried : with_all_tries (fetches_for m.pattern xs) m.attempts ≡ m.attempts =
    no_tries m.pattern xs m.attempts (λ k d l. (none k d l).attempts) in
    λ i. record m { store = stored i; passed = passed i; attempts = tried i }

-- A consistent mirror that takes what was fetched stays consistent.
pub mirror_takes_consistently : (g : GroupKeys) (logs : Logs) (xs : List Fetched) (m : MirrorState) → AreLogs g logs
    → All (FetchForHolder g logs (mirror_holdings m)) xs → IsConsistentMirror g logs m
    → IsConsistentMirror g logs (mirror_takes xs m)
mirror_takes_consistently g logs xs m are come consistent =
    (mirrors_take_consistent g logs m xs are consistent
    (λ k d l. for_mirror g logs m (slice_index_or xs k d) are consistent (come k d l))).stays

-- A publication that was passed over stays passed over when others are added.
pub stays_passed : (pairs passed : List Pair) (q : Pair) → contains pair_cmp passed q ≡ true
    → contains pair_cmp (with_hidden pairs passed) q ≡ true
stays_passed [] passed q h = h
stays_passed (pair ∷ pairs) passed q h =
    stays_passed pairs (insert_key pair_cmp pair passed) q
    (contains-insert_key exact_pairs pair passed q
    ∙ or_right (eq_by_cmp pair_cmp q pair) (contains pair_cmp passed q) h)

-- Mirrors are holders.
pub mirrors_hold : {X : Type 0} {f : _} → AreHolders (mirror_words {X = X} {f = f})
mirrors_hold {X} {f} = record {
  holder = λ g logs s consistent. mirror_is_holder g logs s.mirror consistent;
  in_order = λ g logs s consistent.
      rises_insert_keys (map (λ pair. part_of pair 0) s.mirror.passed) (keys s.mirror.store) consistent.stored.in_order;
  published = λ g logs s t consistent h. published g logs s.mirror t consistent h;
  not_held = λ s t wanted. not_held s.mirror t wanted;
  takes_consistently = λ g logs xs s are come consistent. mirror_takes_consistently g logs xs s.mirror are come
      consistent;
  takes_those = λ g logs xs s t are come consistent.
      held_is (mirror_takes xs s.mirror) t
      ∙ (mirrors_take_consistent g logs s.mirror xs are consistent
      (λ k d l. for_mirror g logs s.mirror (slice_index_or xs k d) are consistent (come k d l))).held t
      ∙ ap (λ (b : Bool). contains part_cmp (parts_fetched xs) t || b) (sym (held_is s.mirror t));
  takes_nothing = λ xs s none. ap (λ (m : MirrorState). let t : Filtering X f = record s { mirror = m } in t)
      (takes_nothing xs s.mirror none);
  rest_stays = λ xs s none. ap (λ (ns : List (Part × ℕ)).
      let t : Filtering X f = record s { mirror = record (mirror_rest s.mirror) { attempts = ns } } in t)
      (no_tries s.mirror.pattern xs s.mirror.attempts none);
  attempts = λ s. refl;
  known = λ s. refl;
  hidden_stays = λ xs s pair h.
      stays_passed (passed_over s.mirror.pattern xs) s.mirror.passed pair h;
}
