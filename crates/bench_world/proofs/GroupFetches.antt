-- What a member fetches is what it receives in the model's fetch.
use Rattle.std.proofs.Common.{◌≡◌, inl, inr, ℕ, suc, zero, ◌+◌, ◌<◌, Bool, true, false, cond, ◌||◌, List, [], ◌∷◌, map}
use Rattle.std.proofs.Common.{length, get_or, set, take, Option, Some, None, refl, sym, ap, ◌∙◌, subst, arith}
use Rattle.std.specs.Prelude.{is_some, unwrap_or, find, filter, sum, sum_by, IfSome}
use Rattle.std.specs.List.{All, remove, insert}
use Rattle.std.proofs.lemmas.Bool.{cases_eq}
use Rattle.std.proofs.lemmas.List.{get_or-set_same, get_or-set_other, get_or_default, length-set, length-map, map-set}
use Rattle.std.proofs.lemmas.List.Elements.{filter_agree}
use Rattle.std.proofs.lemmas.List.Sums.{sum_by-cons}
use Rattle.repo_plan.specs.declared.part.Part.{Part}
use Rattle.sorted_lists.specs.SortedList.{value_of}
use Rattle.sorted_lists.specs.Range.{numbers_from}
use Rattle.repo_plan.specs.Parts.{part_cmp}
use Rattle.repo_plan.specs.Plan.{unclaimed, attempts_of}
use Rattle.sorted_lists.proofs.Sets.{In, from_map}
use Rattle.repo_plan.proofs.Scans.{after_none}
use Rattle.group_model.specs.Member.{Member}
use Rattle.group_model.specs.Events.{Event}
use Rattle.group_model.specs.World.{World, Environment, no_member, member, logs, someone_holds}
use Rattle.group_model.specs.Steps.{others_of, planned_parts, attempt, fetched_parts, attempts_for, attempts_made}
use Rattle.group_model.specs.Steps.{fetches, after_fetch, after_event}
use Rattle.repo_member.specs.Groups.{GroupKeys}
use Rattle.repo_holdings.specs.HoldingsState.{HoldingsState, held_plan}
use Rattle.repo_holdings.specs.Taking.{Fetched}
use Rattle.repo_member.specs.MemberState.{MemberState, member_holdings, member_plan, member_takes}
use Rattle.repo_member.specs.InGroup.{in_group, AreLogs, asked_for, parts_fetched, AreTries}
use Rattle.repo_member.specs.InEvents.{IsMemberOf, IsConsistentIn, IsOutcomeIn}
use Rattle.repo_member.specs.ConsistentMembers.{IsConsistentMember}
use Rattle.repo_member.specs.ConsistentChanges.{IsConsistentArrival}
use Rattle.repo_member.proofs.PublicLaws.{open_parts_alike, fetch_is_event, consistent_stores}
use Rattle.repo_member.proofs.PublicLaws.{consistent_is_member_state, takes_consistent}
use Rattle.bench_world.specs.Lending.{lent, lends, attempt_passes}
use Rattle.bench_world.specs.Gathering.{next_parts}
use Rattle.bench_world.specs.Fetching.{attempt_at, fetched_one, fetched_all}
use Rattle.bench_world.specs.Serving.{environment}
use Rattle.bench_world.specs.Truth.{stores}
use Rattle.bench_world.specs.Worlds.{nobody, state_at, others_than, in_groups, AreConsistentMembers, MembersAreNumbered}
use Rattle.bench_world.proofs.PhaseOutcomes.{lends_consistent}
use Rattle.bench_world.proofs.MemberGathering.{lends_held}
use Rattle.bench_world.proofs.AllGathering.{member_of}
use Rattle.bench_world.proofs.NextParts.{all_from_in, next_unclaimed}
use Rattle.bench_world.proofs.Phases.{from_packet}
use Rattle.bench_world.proofs.ConsistentOthers.{others_consistent}
use Rattle.bench_world.proofs.TakenOut.{put_in, put_back}

module _ (passes : Part → ℕ → Bool) (others : List MemberState) (tries : ℕ) (held : HoldingsState) where
  pub asked_same : (ts : List Part) → asked_for (fetched_all passes others tries held ts) ≡ ts
  asked_same [] = refl
  asked_same (t ∷ ts) = ap (λ (us : List Part). t ∷ us) (asked_same ts)

  pub came_some : (t : Part)
      → is_some (fetched_one passes others tries held t).packet ≡ is_some (attempt_at passes others tries held t)
  came_some t =
      go (lent others t) (find (λ n. passes t (attempts_of (held_plan held) t + n)) (numbers_from 1 tries)) where
        go : (l : Option (List ℕ)) (e : Option ℕ)
            → is_some (cond (is_some (cond (is_some l) e None)) l None) ≡ is_some (cond (is_some l) e None)
        go None e = refl
        go (Some o) None = refl
        go (Some o) (Some n) = refl

  pub came_same : (ts : List Part)
      → parts_fetched (fetched_all passes others tries held ts)
      ≡ filter (λ t. is_some (attempt_at passes others tries held t)) ts
  came_same [] = refl
  came_same (t ∷ ts) =
      go (is_some (fetched_one passes others tries held t).packet) (is_some (attempt_at passes others tries held t))
      (came_some t) (came_same ts) where
        go : (b c : Bool) → b ≡ c
            → parts_fetched (fetched_all passes others tries held ts)
            ≡ filter (λ u. is_some (attempt_at passes others tries held u)) ts
            → asked_for
            (cond b (fetched_one passes others tries held t
            ∷ filter (λ (x : Fetched). is_some x.packet) (fetched_all passes others tries held ts))
            (filter (λ (x : Fetched). is_some x.packet) (fetched_all passes others tries held ts)))
            ≡ cond c (t ∷ filter (λ u. is_some (attempt_at passes others tries held u)) ts)
            (filter (λ u. is_some (attempt_at passes others tries held u)) ts)
        go b c e h =
            subst (λ (x : Bool). asked_for
            (cond b (fetched_one passes others tries held t
            ∷ filter (λ (y : Fetched). is_some y.packet) (fetched_all passes others tries held ts))
            (filter (λ (y : Fetched). is_some y.packet) (fetched_all passes others tries held ts)))
            ≡ cond x (t ∷ filter (λ u. is_some (attempt_at passes others tries held u)) ts)
            (filter (λ u. is_some (attempt_at passes others tries held u)) ts)) e (same b h)
          where
            same : (b : Bool)
                → parts_fetched (fetched_all passes others tries held ts)
                ≡ filter (λ u. is_some (attempt_at passes others tries held u)) ts
                → asked_for
                (cond b (fetched_one passes others tries held t
                ∷ filter (λ (x : Fetched). is_some x.packet) (fetched_all passes others tries held ts))
                (filter (λ (x : Fetched). is_some x.packet) (fetched_all passes others tries held ts)))
                ≡ cond b (t ∷ filter (λ u. is_some (attempt_at passes others tries held u)) ts)
                (filter (λ u. is_some (attempt_at passes others tries held u)) ts)
            same true h = ap (λ (us : List Part). t ∷ us) h
            same false h = h

  -- However attempts are counted part by part.
  pub tried_same : (f : Part → ℕ) → ((t : Part) → (fetched_one passes others tries held t).attempts ≡ f t)
      → (ts : List Part) → AreTries f (fetched_all passes others tries held ts)
  tried_same f each ts =
      all_from_in (λ (x : Fetched). x.attempts ≡ f x.part) (fetched_all passes others tries held ts) (λ x i.
      let r = from_map (fetched_one passes others tries held) ts x i in
      subst (λ (y : Fetched). y.attempts ≡ f y.part) (sym r.2) (each r.0))

-- ---- all but one member

-- Someone holds a part among all but one as where that one is nobody.
pub removed : (members : List MemberState) (j : ℕ) (t : Part)
    → someone_holds (in_groups (others_than j members)) t ≡ someone_holds (set (in_groups members) j no_member) t
removed [] zero t = refl
removed [] (suc j) t = refl
removed (a ∷ members) zero t = refl
removed (a ∷ members) (suc j) t = ap (λ (b : Bool). stores a t || b) (removed members j t)

-- Sums of attempts that were counted part by part.
pub tried_sum : (f : Part → ℕ) (xs : List Fetched) → All (λ x. x.attempts ≡ f x.part) xs
    → sum (map (λ (x : Fetched). x.attempts) xs) ≡ sum_by f (asked_for xs)
tried_sum f [] all = refl
tried_sum f (x ∷ xs) all =
    let head : x.attempts ≡ f x.part = all 0 x (omega arith) in
    let rest = tried_sum f xs (λ k d l. all (suc k) d (omega (arith, l))) in
    let one = sum_by-cons (λ (n : ℕ). n) x.attempts (map (λ (y : Fetched). y.attempts) xs) in
    let two = sum_by-cons f x.part (asked_for xs) in
    one ∙ (λ i. head i + rest i) ∙ sym two

-- The results of the parts that the member `a` asks the members `lent` for.
abbrev pub fetched_of : (ℕ → ℕ → ℕ → ℕ → ℕ → ℕ → Bool) → (j tries loss : ℕ) → List MemberState → MemberState
    → List Fetched
fetched_of passes j tries loss lent a =
    fetched_all (attempt_passes passes j (Some loss)) lent tries (member_holdings a)
    (next_parts None (member_holdings a))

-- If member `j` takes the results of its fetch from the others, all members are as after the event. If it is as before,
-- all members are.
pub record HasFetchedAt (passes : ℕ → ℕ → ℕ → ℕ → ℕ → ℕ → Bool) (draw : ℕ → ℕ → ℕ) (g : GroupKeys) (w : World)
    (members : List MemberState) (j tries loss : ℕ) (lent new : List MemberState) (old left : MemberState) : Type
    0 where
  pub after : left ≡ member_takes (fetched_of passes j tries loss lent old) old
      → in_groups new ≡ (after_fetch (environment g draw passes) w j tries loss).members
  pub consistent : left ≡ member_takes (fetched_of passes j tries loss lent old) old
      → AreConsistentMembers g (logs w) new
  pub numbers : left ≡ member_takes (fetched_of passes j tries loss lent old) old → MembersAreNumbered new
  pub planned : length (next_parts None (member_holdings old)) ≡ length (planned_parts w j)
  pub came : parts_fetched (fetched_of passes j tries loss lent old)
      ≡ fetched_parts (environment g draw passes) w j tries loss
  pub attempts : sum (map (λ (x : Fetched). x.attempts) (fetched_of passes j tries loss lent old))
      ≡ attempts_made (environment g draw passes) w j tries loss
  pub len : length new ≡ length members
  pub same : left ≡ old → new ≡ members

module _ (passes : ℕ → ℕ → ℕ → ℕ → ℕ → ℕ → Bool) (draw : ℕ → ℕ → ℕ) (g : GroupKeys) (w : World)
    (are : AreLogs g (logs w)) (members : List MemberState) (begun : in_groups members ≡ w.members)
    (numbers : MembersAreNumbered members) (consistent : AreConsistentMembers g (logs w) members)
    (j : ℕ) (there : j < length members) (tries loss : ℕ) where
  abbrev pub env : Environment
  env = environment g draw passes

  abbrev pub way : Part → ℕ → Bool
  way = attempt_passes passes j (Some loss)

  abbrev pub others : List MemberState
  others = others_than j members

  abbrev pub here : MemberState
  here = state_at members j

  abbrev pub holdings : HoldingsState
  holdings = member_holdings (state_at members j)

  abbrev pub fetched : List Fetched
  fetched =
      fetched_all (attempt_passes passes j (Some loss)) (others_than j members) tries
      (member_holdings (state_at members j)) (next_parts None (member_holdings (state_at members j)))

  member_is : member w j ≡ in_group here
  member_is = ap (λ (ms : List Member). get_or ms j no_member) (sym begun) ∙ member_of members j there

  is_member : IsMemberOf w j here
  is_member = record {
    there =
        let e : length w.members ≡ length members = sym (ap length begun) ∙ length-map members in_group in
        omega (arith, there, e);
    number = numbers j there;
    same = member_is;
  }

  is_consistent : IsConsistentIn g w here
  is_consistent = record { published = are; stores = consistent_stores g (logs w) here (consistent j there) }

  lends_same : (t : Part) → lends others t ≡ someone_holds (others_of w j) t
  lends_same t =
      lends_held others t ∙ removed members j t ∙ ap (λ (ms : List Member). someone_holds (set ms j no_member) t) begun

  attempt_same : (t : Part) → attempt_at way others tries holdings t ≡ attempt env w j tries loss t
  attempt_same t =
      let tried : here.attempts ≡ (member w j).attempts = ap (λ (m : Member). m.attempts) (sym member_is) in
      ap (λ (b : Bool). cond b
      (find (λ n. passes j t.publisher t.seq t.part (unwrap_or (value_of part_cmp here.attempts t) 0 + n) loss)
      (numbers_from 1 tries)) None) (lends_same t)
      ∙ (λ i. cond (someone_holds (others_of w j) t)
      (find (λ n. passes j t.publisher t.seq t.part (unwrap_or (value_of part_cmp (tried i) t) 0 + n) loss)
      (numbers_from 1 tries)) None)

  planned_same : next_parts None holdings ≡ planned_parts w j
  planned_same =
      ap (take 4096) (after_none (unclaimed (member_plan here))
      ∙ sym (open_parts_alike w j g here is_member is_consistent))

  planned_are : length (next_parts None holdings) ≡ length (planned_parts w j)
  planned_are = ap length planned_same

  came_are : parts_fetched fetched ≡ fetched_parts env w j tries loss
  came_are =
      came_same way others tries holdings (next_parts None holdings)
      ∙ filter_agree (λ t. is_some (attempt_at way others tries holdings t))
      (λ t. is_some (attempt env w j tries loss t)) (λ t. ap is_some (attempt_same t)) (next_parts None holdings)
      ∙ ap (filter (λ t. is_some (attempt env w j tries loss t))) planned_same

  tried_are : AreTries (attempts_for env w j tries loss) fetched
  tried_are =
      tried_same way others tries holdings (attempts_for env w j tries loss)
      (λ t. ap (λ (o : Option ℕ). unwrap_or o tries) (attempt_same t)) (next_parts None holdings)

  outcome : IsOutcomeIn env w j tries loss fetched
  outcome = record {
    asked = asked_same way others tries holdings (next_parts None holdings) ∙ planned_same;
    came = came_are;
    tried = tried_are;
  }

  attempts_are : sum (map (λ (x : Fetched). x.attempts) fetched) ≡ attempts_made env w j tries loss
  attempts_are =
      tried_sum (attempts_for env w j tries loss) fetched tried_are
      ∙ ap (sum_by (attempts_for env w j tries loss)) outcome.asked

  -- The member afterwards is what the event makes of it.
  fetched_in : member (after_event env w (Event.Fetch j tries loss)) j ≡ in_group (member_takes fetched here)
  fetched_in =
      fetch_is_event env w j tries loss fetched here is_member
      (consistent_is_member_state g (logs w) here (consistent j there)).in_order
      outcome

  fetched_member : in_group (member_takes fetched here) ≡ fetches env w j tries loss (member w j)
  fetched_member =
      sym fetched_in ∙ get_or-set_same w.members j (fetches env w j tries loss (member w j)) no_member is_member.there

  fetched_consistently : IsConsistentMember g (logs w) (member_takes fetched here)
  fetched_consistently =
      takes_consistent g (logs w) fetched here are
      (all_from_in (λ (x : Fetched). IfSome x.packet (IsConsistentArrival g (logs w) here x.part)) fetched
      (λ x i. one x i x.packet refl)) (consistent j there) where
        one : (x : Fetched) → In x fetched → (o : Option (List ℕ)) → x.packet ≡ o
            → IfSome o (IsConsistentArrival g (logs w) here x.part)
        one x i None e = tt
        one x i (Some octets) e =
            let r = from_map (fetched_one way others tries holdings) (next_parts None holdings) x i in
            subst (λ (t : Part). IsConsistentArrival g (logs w) here t octets) (sym (ap (λ (y : Fetched). y.part) r.2))
            (record {
              unclaimed = next_unclaimed holdings None r.0 r.1;
              packet = lends_consistent g (logs w) others
                  (others_consistent g (logs w) members others j consistent refl) r.0 octets
                  (from_packet (is_some (attempt_at way others tries holdings r.0)) (lent others r.0) octets
                  (sym (ap (λ (y : Fetched). y.packet) r.2) ∙ e));
            })

  module _ (new : List MemberState) (new_is : new ≡ set members j (member_takes fetched here)) where
    members_are : in_groups new ≡ (after_fetch env w j tries loss).members
    members_are =
        ap in_groups new_is
        ∙ map-set in_group members j (member_takes fetched here)
        ∙ (λ i. set (begun i) j (fetched_member i))

    new_len : length new ≡ length members
    new_len = ap length new_is ∙ length-set members j _

    taker_number : (xs : List Fetched) (a : MemberState) → (member_takes xs a).number ≡ a.number
    taker_number [] a = refl
    taker_number (x ∷ xs) a = taker_number xs _

    at_here : state_at new j ≡ member_takes fetched here
    at_here = ap (λ (ms : List MemberState). state_at ms j) new_is ∙ get_or-set_same members j _ nobody there

    elsewhere : (i : ℕ) → (i ≡ j → ⊥) → state_at new i ≡ state_at members i
    elsewhere i other = ap (λ (ms : List MemberState). state_at ms i) new_is
        ∙ get_or-set_other members j i _ nobody other

    fetched_all_consistently : AreConsistentMembers g (logs w) new
    fetched_all_consistently i l = elim (cases_eq i j) [
      | inl same ↦
          subst (λ (k : ℕ). IsConsistentMember g (logs w) (state_at new k)) (sym same)
          (subst (IsConsistentMember g (logs w)) (sym at_here) fetched_consistently)
      | inr other ↦ subst (IsConsistentMember g (logs w)) (sym (elsewhere i other))
          (consistent i (omega (arith, l, new_len)))
    ]

    fetched_numbers : MembersAreNumbered new
    fetched_numbers i l = elim (cases_eq i j) [
      | inl same ↦
          ap (λ (k : ℕ). (state_at new k).number) same
          ∙ ap (λ (a : MemberState). a.number) at_here
          ∙ taker_number fetched here
          ∙ numbers j there
          ∙ sym same
      | inr other ↦ ap (λ (a : MemberState). a.number) (elsewhere i other) ∙ numbers i (omega (arith, l, new_len))
    ]

  -- ---- it is taken out of all, fetches of the others, and is put back

  module _ (mid lent new : List MemberState) (old left : MemberState) (old_is : old ≡ get_or members j old)
      (taken : mid ≡ remove members j) (lent_is : lent ≡ mid) (put : new ≡ insert mid j left) where
    old_at : old ≡ here
    old_at = old_is ∙ get_or_default members j old nobody there

    came_is : fetched_of passes j tries loss lent old ≡ fetched
    came_is =
        (λ i. fetched_all way ((lent_is ∙ taken) i) tries (member_holdings (old_at i))
        (next_parts None (member_holdings (old_at i))))

    put_new : left ≡ member_takes (fetched_of passes j tries loss lent old) old
        → new ≡ set members j (member_takes fetched here)
    put_new takes =
        put_in members mid new j left there taken put
        ∙ ap (set members j) (takes ∙ (λ i. member_takes (came_is i) (old_at i)))

    pub fetched_at : HasFetchedAt passes draw g w members j tries loss lent new old left
    fetched_at = record {
      after = λ takes. members_are new (put_new takes);
      consistent = λ takes. fetched_all_consistently new (put_new takes);
      numbers = λ takes. fetched_numbers new (put_new takes);
      planned = ap (λ (a : MemberState). length (next_parts None (member_holdings a))) old_at ∙ planned_are;
      came = ap parts_fetched came_is ∙ came_are;
      attempts = ap (λ (xs : List Fetched). sum (map (λ (x : Fetched). x.attempts) xs)) came_is ∙ attempts_are;
      len = ap length (put_in members mid new j left there taken put) ∙ length-set members j left;
      same = λ stays. put_back nobody members mid new j left there taken put (stays ∙ old_at);
    }
