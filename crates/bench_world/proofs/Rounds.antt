-- What phases and rounds make of a holder that gathers parts.
use Rattle.std.proofs.Common.{◌≡◌, inl, inr, ℕ, ◌+◌, ◌*◌, ◌≤◌, ◌<◌, true, false, ◌||◌, ◌&&◌, List, length, Option, Some}
use Rattle.std.proofs.Common.{None, refl, sym, ap, ◌∙◌, subst, arith}
use Rattle.std.specs.Prelude.{is_some, unwrap_or, filter, sum_by, slice_index, slice_index_or, nat_le, IfSome}
use Rattle.std.specs.List.{All}
use Rattle.std.proofs.lemmas.Bool.{true≢false, and_parts, or_cases, or_right}
use Rattle.std.proofs.lemmas.List.Sums.{sum_by-le}
use Rattle.repo_plan.specs.declared.part.Part.{Part}
use Rattle.sorted_lists.specs.SortedList.{contains, Rises}
use Rattle.repo_plan.specs.Parts.{part_cmp, pair_of}
use Rattle.repo_plan.specs.Plan.{is_wanted, is_unclaimed, is_after, attempts_of}
use Rattle.repo_plan.proofs.Orders.{exact_parts}
use Rattle.sorted_lists.specs.SortedList.{value_of}
use Rattle.sorted_lists.proofs.Sets.{In, from_map, contains_in, in_contains, rises_filter}
use Rattle.sorted_lists.proofs.Members.{in_filtered}
use Rattle.repo_holdings.specs.HoldingsState.{held_plan}
use Rattle.repo_holdings.specs.Taking.{Fetched}
use Rattle.group_model.specs.Publications.{Logs, all_parts}
use Rattle.group_model.specs.Member.{insert_keys}
use Rattle.group_model.proofs.Lists.{contains-insert_keys, rises_insert_keys}
use Rattle.group_model.proofs.Parts.{all_parts_rise}
use Rattle.group_model.proofs.Among.{in_all_parts}
use Rattle.group_model.proofs.SortedSets.{same_members, shorter}
use Rattle.repo_member.specs.Groups.{GroupKeys}
use Rattle.repo_member.specs.MemberState.{MemberState}
use Rattle.repo_member.specs.InGroup.{AreLogs, published_packet}
use Rattle.repo_member.proofs.PublicLaws.{holders_want_published}
use Rattle.bench_world.specs.declared.touched.Touched.{Touched}
use Rattle.bench_world.specs.Touching.{LacksOnlyTouched}
use Rattle.bench_world.specs.Worlds.{AreConsistentMembers}
use Rattle.bench_world.specs.Sizes.{size_of}
use Rattle.bench_world.specs.Truth.{TriedFew}
use Rattle.bench_world.specs.Lending.{lent, lends}
use Rattle.bench_world.specs.Holders.{HolderPredicates, AreHolders, FetchForHolder, FetchedNothing, has}
use Rattle.bench_world.specs.Gathering.{next_lent, lent_one, lent_all, one_each, held_sum, Counts, IsPlaceIn}
use Rattle.bench_world.specs.Gathering.{GainsParts, NothingLeft, RoundSoFar}
use Rattle.bench_world.proofs.PacketSizes.{size_short}
use Rattle.bench_world.proofs.SetSums.{sum_insert_keys, ones}
use Rattle.bench_world.proofs.NextParts.{all_from_in, in_some, none_pass, AreAsked, lent_asked, lent_later, all_lent}
use Rattle.bench_world.proofs.NextParts.{lent_none, place_later}
use Rattle.bench_world.proofs.PhaseOutcomes.{lends_consistent, came_lent}

module _ {H : Type 0} (words : HolderPredicates H) (holders : AreHolders words) where
  -- ---- parts that there are

  module _ (g : GroupKeys) (logs : Logs) (are : AreLogs g logs) where
    open_is : (s : H) → words.is_consistent g logs s → (t : Part) → is_unclaimed (held_plan (words.holdings s)) t ≡ true
        → In t (all_parts logs)
    open_is s consistent t u =
        in_all_parts logs t
        (holders_want_published g logs (words.holdings s) t are (holders.holder g logs s consistent)
        (and_parts (is_wanted (held_plan (words.holdings s)) t) _ u).0)

    few_stored : (s : H) → words.is_consistent g logs s → length (words.held s) ≤ length (all_parts logs)
    few_stored s consistent =
        shorter exact_parts (words.held s) (all_parts logs) (holders.in_order g logs s consistent) (all_parts_rise logs)
        (λ t i. in_all_parts logs t (holders.published g logs s t consistent
        (contains_in exact_parts (words.held s) t i)))

    pub few_held : (s : H) → words.is_consistent g logs s → held_sum words one_each s ≤ length (all_parts logs)
    few_held s consistent =
        let n : held_sum words one_each s ≡ length (words.held s) = ones (words.held s) in
        let most : length (words.held s) ≤ length (all_parts logs) = few_stored s consistent in
        omega (arith, n, most)

    pub few_octets : (s : H) → words.is_consistent g logs s
        → held_sum words (size_of g logs) s ≤ length (all_parts logs) * 8800
    few_octets s consistent =
        let sum : held_sum words (size_of g logs) s ≤ length (words.held s) * 8800 =
        sum_by-le (size_of g logs) 8800 (words.held s)
        (λ k d l. size_short g logs are (slice_index_or (words.held s) k d)) in
        let most : length (words.held s) ≤ length (all_parts logs) = few_stored s consistent in
        omega (arith, sum, most)

  -- A holder that has tried each part few times still has, after it gained parts.
  pub tried_still : (g : GroupKeys) (logs : Logs) (others : List MemberState) (a b : H)
      → GainsParts words g logs others a b → TriedFew (words.holdings a) → TriedFew (words.holdings b)
  tried_still g logs others a b gains few t =
      let h : attempts_of (held_plan (words.holdings a)) t + 16 < 2097152 = few t in
      let tried : (words.holdings b).attempts ≡ (words.holdings a).attempts =
      holders.attempts b ∙ ap (λ (x : H). (words.holdings x).attempts) gains.rest ∙ sym (holders.attempts a) in
      let e : attempts_of (held_plan (words.holdings b)) t ≡ attempts_of (held_plan (words.holdings a)) t =
      ap (λ (ns : List (Part × ℕ)). unwrap_or (value_of part_cmp ns t) 0) tried in
      omega (arith, h, e)

  -- A holder that lacks only parts of touched publications still does, after it gained parts.
  pub lacks_still : (n : Touched) (g : GroupKeys) (logs : Logs) (others : List MemberState) (a b : H)
      → GainsParts words g logs others a b → LacksOnlyTouched words n others a → LacksOnlyTouched words n others b
  lacks_still n g logs others a b gains lacks t lent off known =
      elim (lacks t lent off
      (ap (λ (ns : List ℕ). nat_le 1 t.seq && nat_le t.seq (slice_index ns t.publisher))
      (holders.known a ∙ ap (λ (x : H). (words.holdings x).known) (sym gains.rest) ∙ sym (holders.known b)) ∙ known)) [
        | inl holds ↦ inl (gains.kept t holds)
        | inr hides ↦ inr (gains.hidden (pair_of t) hides)
      ]

  module _ (g : GroupKeys) (logs : Logs) (others : List MemberState) (are : AreLogs g logs)
      (all : AreConsistentMembers g logs others) where
    -- ---- a phase

    module _ (a : H) (consistent : words.is_consistent g logs a) (ts : List Part)
        (all_open : (t : Part) → In t ts → is_unclaimed (held_plan (words.holdings a)) t ≡ true) where
      -- The parts of a phase are unclaimed, and the packets that are lent for them are the published ones.
      come : All (FetchForHolder g logs (words.holdings a)) (lent_all others ts)
      come = all_from_in (FetchForHolder g logs (words.holdings a)) (lent_all others ts) (λ x i.
          let r : (t : Part) × (In t ts) × (x ≡ lent_one others t) = from_map (lent_one others) ts x i in
          subst (FetchForHolder g logs (words.holdings a)) (sym r.2)
          (record { unclaimed = all_open r.0 r.1; packet = one r.0 (lent others r.0) refl })) where
            one : (t : Part) (o : Option (List ℕ)) → lent others t ≡ o
                → IfSome o (λ octets. published_packet g logs t ≡ Some octets)
            one t None e = tt
            one t (Some octets) e = lends_consistent g logs others all t octets e

      no_tries : All (λ (x : Fetched). x.attempts ≡ 0) (lent_all others ts)
      no_tries = all_from_in (λ (x : Fetched). x.attempts ≡ 0) (lent_all others ts) (λ x i.
          let r : (t : Part) × (In t ts) × (x ≡ lent_one others t) = from_map (lent_one others) ts x i in
          ap (λ (y : Fetched). y.attempts) r.2)

      taken_consistently : words.is_consistent g logs (words.takes (lent_all others ts) a)
      taken_consistently = holders.takes_consistently g logs (lent_all others ts) a are come consistent

      taken_has : (t : Part) → has words (words.takes (lent_all others ts) a) t
          ≡ (contains part_cmp (filter (lends others) ts) t || has words a t)
      taken_has t =
          holders.takes_those g logs (lent_all others ts) a t are come consistent
          ∙ ap (λ (us : List Part). contains part_cmp us t || has words a t) (came_lent others ts)

      held_taken : words.held (words.takes (lent_all others ts) a)
          ≡ insert_keys (filter (lends others) ts) (words.held a)
      held_taken =
          same_members exact_parts (words.held (words.takes (lent_all others ts) a))
          (insert_keys (filter (lends others) ts) (words.held a))
          (holders.in_order g logs (words.takes (lent_all others ts) a) taken_consistently)
          (rises_insert_keys (filter (lends others) ts) (words.held a) (holders.in_order g logs a consistent))
          (λ t. taken_has t ∙ sym (contains-insert_keys (filter (lends others) ts) (words.held a) t))

      pub phase_gains : GainsParts words g logs others a (words.takes (lent_all others ts) a)
      phase_gains = record {
        rest = holders.rest_stays (lent_all others ts) a no_tries;
        consistent = taken_consistently;
        kept = λ t h. taken_has t ∙ or_right (contains part_cmp (filter (lends others) ts) t) (has words a t) h;
        came = λ t h. elim
            (or_cases (contains part_cmp (filter (lends others) ts) t) (has words a t) (sym (taken_has t) ∙ h)) [
              | inl new ↦
                  inr (in_filtered (lends others) ts t (in_contains exact_parts (filter (lends others) ts) t new)).1
              | inr was ↦ inl was
            ];
        hidden = holders.hidden_stays (lent_all others ts) a;
      }

      not_held : (t : Part) → In t (filter (lends others) ts) → has words a t ≡ false
      not_held t i =
          holders.not_held a t
          (and_parts (is_wanted (held_plan (words.holdings a)) t) _
          (all_open t (in_filtered (lends others) ts t i).0)).0

      -- The sum of the weights of held parts grows by that of the lent parts.
      pub phase_counts : (weight : Part → ℕ) → Rises part_cmp ts
          → Counts words weight (sum_by weight (filter (lends others) ts)) a (words.takes (lent_all others ts) a)
      phase_counts weight rise =
          sym (ap (sum_by weight) held_taken
          ∙ sum_insert_keys weight (filter (lends others) ts) (words.held a)
          (rises_filter exact_parts.total (lends others) ts rise) (holders.in_order g logs a consistent) not_held)

      pub phase_nothing : length (filter (lends others) ts) ≡ 0 → words.takes (lent_all others ts) a ≡ a
      phase_nothing e =
          holders.takes_nothing (lent_all others ts) a
          (all_from_in FetchedNothing (lent_all others ts) (λ x i.
          let r : (t : Part) × (In t ts) × (x ≡ lent_one others t) = from_map (lent_one others) ts x i in
          subst FetchedNothing (sym r.2)
          (record { packet = none (lent others r.0) (none_pass (lends others) ts e r.0 r.1); attempts = refl }))) where
            none : (o : Option (List ℕ)) → is_some o ≡ false → o ≡ None
            none None e = refl
            none (Some octets) e = absurd (true≢false e)

    -- ---- rounds

    pub gains_none : (a : H) → words.is_consistent g logs a → GainsParts words g logs others a a
    gains_none a consistent = record {
      rest = refl;
      consistent = consistent;
      kept = λ t h. h;
      came = λ t h. inl h;
      hidden = λ pair h. h;
    }

    pub gains_both : (a b c : H) → GainsParts words g logs others a b → GainsParts words g logs others b c
        → GainsParts words g logs others a c
    gains_both a b c h k = record {
      rest = k.rest ∙ h.rest;
      consistent = k.consistent;
      kept = λ t s. k.kept t (h.kept t s);
      came = λ t s. elim (k.came t s) [ inl was ↦ h.came t was | inr new ↦ inr new ];
      hidden = λ pair s. k.hidden pair (h.hidden pair s);
    }

    pub counts_both : (weight : Part → ℕ) (n m : ℕ) (a b c : H) → Counts words weight n a b
        → Counts words weight m b c → Counts words weight (n + m) a c
    counts_both weight n m a b c h k = omega (arith, h, k)

    pub round_begins : (a : H) → words.is_consistent g logs a → RoundSoFar words g logs others None 0 a a
    round_begins a consistent =
        record { gains = gains_none a consistent; count = omega arith; still = λ e t u past. absurd (true≢false past) }

    module _ (after : Option Part) (kept : ℕ) (old mid : H) (so_far : RoundSoFar words g logs others after kept old mid)
        (new : H) (came : ℕ)
        (new_is : new ≡ words.takes (lent_all others (next_lent others after (words.holdings mid))) mid)
        (came_is : came ≡ length (next_lent others after (words.holdings mid))) where
      abbrev asked : List Part
      asked = next_lent others after (words.holdings mid)

      asks : AreAsked (words.holdings mid) asked
      asks = lent_asked (words.holdings mid) after others

      all_come : filter (lends others) asked ≡ asked
      all_come = all_lent (words.holdings mid) after others

      phase : GainsParts words g logs others mid new
      phase =
          subst (GainsParts words g logs others mid) (sym new_is)
          (phase_gains mid so_far.gains.consistent asked asks.unclaimed)

      pub went_counts : (weight : Part → ℕ) (n : ℕ) → n ≡ sum_by weight asked → Counts words weight n mid new
      went_counts weight n e =
          ap (λ (k : ℕ). k + held_sum words weight mid) (e ∙ ap (sum_by weight) (sym all_come))
          ∙ subst (Counts words weight (sum_by weight (filter (lends others) asked)) mid) (sym new_is)
          (phase_counts mid so_far.gains.consistent asked asks.unclaimed weight asks.rise)

      pub went_gains : GainsParts words g logs others old new
      went_gains = gains_both old mid new so_far.gains phase

      pub went_count : Counts words one_each (kept + came) old new
      went_count =
          counts_both one_each kept came old mid new so_far.count
          (went_counts one_each came (came_is ∙ sym (ones asked)))

      stays : kept + came ≡ 0 → new ≡ mid
      stays e =
          let came_all = ap length all_come in
          new_is
          ∙ phase_nothing mid so_far.gains.consistent asked asks.unclaimed (omega (arith, e, came_is, came_all))

      still_open : kept + came ≡ 0 → (t : Part) → is_unclaimed (held_plan (words.holdings new)) t ≡ true
          → is_unclaimed (held_plan (words.holdings mid)) t ≡ true
      still_open e t u = subst (λ (b : H). is_unclaimed (held_plan (words.holdings b)) t ≡ true) (stays e) u

      pub went_on : (place : Part) (o : Option Part) → o ≡ Some place → IsPlaceIn asked o
          → RoundSoFar words g logs others (Some place) (kept + came) old new
      went_on place o is at = record {
        gains = went_gains;
        count = went_count;
        still = λ e t u past.
            let some : 0 < length asked =
            in_some asked place (in_contains exact_parts asked place (subst (IsPlaceIn asked) is at)) in
            absurd (omega (arith, e, came_is, some));
      }

      pub went_left : (o : Option Part) → o ≡ None → IsPlaceIn asked o → kept + came ≡ 0
          → NothingLeft words others new
      went_left o is at none t u = elim
          (lent_none (words.holdings mid) after others (subst (IsPlaceIn asked) is at) t (still_open none t u)) [
            | inl passed ↦ so_far.still (omega (arith, none)) t (still_open none t u) passed
            | inr unlent ↦ unlent
          ]

      pub went_smaller : (place : Part) (o : Option Part) → o ≡ Some place → IsPlaceIn asked o
          → length (filter (is_after (Some place)) (all_parts logs)) < length (filter (is_after after) (all_parts logs))
      went_smaller place o is at =
          let there : In place asked =
          in_contains exact_parts asked place (subst (IsPlaceIn asked) is at) in
          place_later after place (all_parts logs)
          (open_is g logs are mid so_far.gains.consistent place (asks.unclaimed place there))
          (lent_later (words.holdings mid) after others place there)
