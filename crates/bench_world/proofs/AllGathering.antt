-- The parts that all members gather, one member after another.
use Rattle.std.proofs.Common.{◌≡◌, ◌⊎◌, inl, inr, ℕ, suc, zero, ◌+◌, ◌≤◌, ◌<◌, Bool, true, ◌||◌, List, [], ◌∷◌, map}
use Rattle.std.proofs.Common.{length, get_or, set, take, refl, sym, ap, ◌∙◌, subst, arith}
use Rattle.std.specs.Prelude.{sum_by}
use Rattle.std.proofs.lemmas.Bool.{cases_eq, or_right}
use Rattle.std.proofs.lemmas.List.{ext_get_or, get_or-map, get_or-set_other, length-map, length-set, take_all}
use Rattle.std.proofs.lemmas.List.Sums.{sum_by_more, sum_by-cons}
use Rattle.repo_plan.specs.declared.part.Part.{Part}
use Rattle.sorted_lists.specs.SortedList.{keys, contains, Rises}
use Rattle.repo_plan.specs.Parts.{pair_cmp, part_cmp, pair_of}
use Rattle.repo_plan.proofs.Orders.{exact_parts}
use Rattle.sorted_lists.proofs.Sets.{rises_filter, or_swap}
use Rattle.sorted_lists.proofs.Members.{in_filtered}
use Rattle.group_model.specs.Publications.{all_parts}
use Rattle.group_model.specs.Member.{Member, member_holds, has_deleted, insert_keys}
use Rattle.group_model.specs.World.{World, no_member, member, logs, someone_holds}
use Rattle.group_model.specs.Settles.{learnt_member, IsGathering}
use Rattle.group_model.specs.Sound.{IsSoundGroup, IsSoundMember}
use Rattle.group_model.specs.Steps.{is_gained, new_parts, settled_member, settle_new_parts}
use Rattle.group_model.proofs.Parts.{all_parts_rise}
use Rattle.group_model.proofs.Settles.{comes}
use Rattle.repo_member.specs.Groups.{GroupKeys}
use Rattle.repo_member.specs.MemberState.{MemberState, member_holdings}
use Rattle.repo_member.specs.InGroup.{in_group, AreLogs}
use Rattle.repo_member.specs.ConsistentMembers.{IsConsistentMember}
use Rattle.bench_world.specs.declared.touched.Touched.{Touched}
use Rattle.bench_world.specs.Touching.{LacksOnlyTouched, NoneLacks}
use Rattle.bench_world.specs.Lending.{lends}
use Rattle.bench_world.specs.Truth.{stores, TriedFew, AllTriedFew}
use Rattle.bench_world.specs.MemberWords.{member_words}
use Rattle.bench_world.specs.Gathering.{one_each, Counts, GainsParts, NothingLeft}
use Rattle.bench_world.specs.Settling.{new_parts_sum, AreGathering, FetchedSoFar, IsPartlySettled, ArePartlySettled}
use Rattle.bench_world.specs.Worlds.{nobody, state_at, others_than, in_groups, AreConsistentMembers, MembersAreNumbered}
use Rattle.bench_world.proofs.SetSums.{sum_insert_keys, ones}
use Rattle.bench_world.specs.MembersHold.{members_hold}
use Rattle.bench_world.proofs.Rounds.{tried_still}
use Rattle.bench_world.proofs.MemberGathering.{lends_held, partly_settled, only_stored, gathering, settled}
use Rattle.bench_world.proofs.MemberGathering.{someones_after}

-- ---- one of them

-- Someone holds a part where the member does, or one of the others.
someone_at : (members : List MemberState) (j : ℕ) (t : Part) → j < length members
    → someone_holds (in_groups members) t
    ≡ (stores (state_at members j) t || someone_holds (in_groups (others_than j members)) t)
someone_at [] j t l = absurd (omega (arith, l))
someone_at (a ∷ members) zero t l = refl
someone_at (a ∷ members) (suc j) t l =
    ap (λ (b : Bool). stores a t || b) (someone_at members j t (omega (arith, l)))
    ∙ or_swap (stores a t) (stores (state_at members j) t) (someone_holds (in_groups (others_than j members)) t)

pub member_of : (members : List MemberState) (j : ℕ) → j < length members
    → get_or (in_groups members) j no_member ≡ in_group (state_at members j)
member_of members j l = get_or-map in_group members j nobody no_member l

others_set : (ms : List MemberState) (k : ℕ) (a : MemberState) → others_than k (set ms k a) ≡ others_than k ms
others_set [] k a = refl
others_set (m ∷ ms) zero a = refl
others_set (m ∷ ms) (suc k) a = ap (λ (xs : List MemberState). m ∷ xs) (others_set ms k a)

-- However parts count, what a member gained in a settle counts as much as the new parts of the model.
came_sum : (w : World) (m : Member) (held : Rises part_cmp m.held) (weight : Part → ℕ) (n : ℕ)
    → n + sum_by weight m.held ≡ sum_by weight (settled_member w m).held → n ≡ sum_by weight (new_parts w m)
came_sum w m held weight n count =
    let more : sum_by weight (insert_keys (new_parts w m) m.held)
    ≡ sum_by weight (new_parts w m) + sum_by weight m.held =
    sum_insert_keys weight (new_parts w m) m.held
    (rises_filter exact_parts.total (is_gained w m) (all_parts (logs w)) (all_parts_rise (logs w))) held
    (λ t i. (comes w m t (in_filtered (is_gained w m) (all_parts (logs w)) t i).1).fresh) in
    omega (arith, count, more)

-- ---- all of them, one after another

module _ (g : GroupKeys) (w : World) (group : IsSoundGroup w) (are : AreLogs g (logs w)) (begun : List MemberState)
    (learnt_all : in_groups begun ≡ map (learnt_member w) w.members) where
  pub long : length begun ≡ length w.members
  long = sym (length-map begun in_group) ∙ ap length learnt_all ∙ length-map w.members (learnt_member w)

  pub few_all : length begun ≤ 16
  few_all =
      let a : length (logs w) ≡ length w.members = length-map w.members (λ (m : Member). m.log) in
      let b = are.width in
      let d = are.group.members.roster.few in
      omega (arith, a, b, d, long)

  learnt_at : (j : ℕ) → j < length begun → in_group (state_at begun j) ≡ learnt_member w (member w j)
  learnt_at j l =
      sym (member_of begun j l)
      ∙ ap (λ (ms : List Member). get_or ms j no_member) learnt_all
      ∙ get_or-map (learnt_member w) w.members j no_member no_member (omega (arith, l, long))

  same_someones : (t : Part) → someone_holds (in_groups begun) t ≡ someone_holds w.members t
  same_someones t = ap (λ (ms : List Member). someone_holds ms t) learnt_all ∙ again w.members where
    again : (ms : List Member) → someone_holds (map (learnt_member w) ms) t ≡ someone_holds ms t
    again [] = refl
    again (m ∷ ms) = ap (λ (b : Bool). member_holds m t || b) (again ms)

  pub gathered_none : AreConsistentMembers g (logs w) begun → MembersAreNumbered begun → AllTriedFew begun
      → FetchedSoFar g w begun 0 begun
  gathered_none consistent numbers tried = record {
    all = record {
      len = refl;
      consistent = consistent;
      numbers = numbers;
      tried = tried;
      each =
          λ i l. subst (IsGathering w (member w i)) (sym (learnt_at i l))
          (record { same = refl; kept = λ t h. h; came = λ t h. inl h });
      someones = same_someones;
      counts = λ i. record { machine = refl; attempts = refl };
    };
    done = λ i l. absurd (omega (arith, l));
    still = λ i l. refl;
  }

  -- A member that hasn't gathered yet lacks only parts of touched publications.
  pub lacks_at : (n : Touched) → NoneLacks n (in_groups begun) → (j : ℕ) (mid : List MemberState)
      → FetchedSoFar g w begun j mid → j < length mid
      → LacksOnlyTouched member_words n (others_than j mid) (state_at mid j)
  lacks_at n lacks j mid so_far inside t lent off known =
      let groups : length (in_groups begun) ≡ length begun = length-map begun in_group in
      let held : someone_holds (in_groups begun) t ≡ true =
      same_someones t
      ∙ sym (so_far.all.someones t)
      ∙ someone_at mid j t inside
      ∙ or_right (stores (state_at mid j) t) (someone_holds (in_groups (others_than j mid)) t)
      (sym (lends_held (others_than j mid) t) ∙ lent) in
      let there : j < length begun = omega (arith, inside, so_far.all.len) in
      subst (λ (a : MemberState). (stores a t ≡ true) ⊎ (contains pair_cmp a.hidden (pair_of t) ≡ true))
      (sym (so_far.still j (omega arith)))
      (subst (λ (x : Member). (member_holds x t ≡ true) ⊎ (has_deleted x (pair_of t) ≡ true)) (member_of begun j there)
      (lacks j (omega (arith, there, groups)) t held off))

  -- Members that are gathering parts are partly settled.
  pub partly_all : (mid : List MemberState) → AreGathering g w begun mid → ArePartlySettled w (in_groups mid)
  partly_all mid all = record {
    len = length-map mid in_group ∙ all.len ∙ long;
    each = λ i l.
        let inside : i < length mid = omega (arith, l, all.len, long) in
        subst (IsPartlySettled w (member w i)) (sym (member_of mid i inside))
        (partly_settled w group i l (in_group (state_at mid i))
        (subst (λ (k : ℕ). IsSoundMember (logs w) k (in_group (state_at mid i))) (all.numbers i inside)
        (all.consistent i inside).sound) (all.each i inside));
  }

  module _ (j : ℕ) (mid : List MemberState) (so_far : FetchedSoFar g w begun j mid) (inside : j < length mid)
      (new : List MemberState) (set_is : new ≡ set mid j (state_at new j))
      (gains : GainsParts member_words g (logs w) (others_than j mid) (state_at mid j) (state_at new j)) where
    stored : state_at new j ≡ record (state_at mid j) { store = (state_at new j).store }
    stored = only_stored g (logs w) (others_than j mid) (state_at mid j) (state_at new j) gains

    there : j < length w.members
    there = omega (arith, inside, so_far.all.len, long)

    learnt : in_group (state_at mid j) ≡ learnt_member w (member w j)
    learnt = ap in_group (so_far.still j (omega arith)) ∙ learnt_at j (omega (arith, inside, so_far.all.len))

    someones : (t : Part) → (stores (state_at mid j) t || lends (others_than j mid) t) ≡ someone_holds w.members t
    someones t =
        ap (λ (b : Bool). stores (state_at mid j) t || b) (lends_held (others_than j mid) t)
        ∙ sym (someone_at mid j t inside)
        ∙ so_far.all.someones t

    number : (state_at new j).number ≡ j
    number = ap (λ (a : MemberState). a.number) stored ∙ so_far.all.numbers j inside

    new_len : length new ≡ length mid
    new_len = ap length set_is ∙ length-set mid j (state_at new j)

    elsewhere : (i : ℕ) → (i ≡ j → ⊥) → state_at new i ≡ state_at mid i
    elsewhere i other =
        ap (λ (ms : List MemberState). get_or ms i nobody) set_is
        ∙ get_or-set_other mid j i (state_at new j) nobody other

    others_still : others_than j new ≡ others_than j mid
    others_still = ap (others_than j) set_is ∙ others_set mid j (state_at new j)

    -- When member `j` has gained parts, each member is still gathering, or has gathered.
    pub gathered_part : AreGathering g w begun new
    gathered_part = record {
      len = new_len ∙ so_far.all.len;
      consistent = λ i l. elim (cases_eq i j) [
        | inl same ↦ subst (λ (k : ℕ). IsConsistentMember g (logs w) (state_at new k)) (sym same) gains.consistent
        | inr other ↦
            subst (IsConsistentMember g (logs w)) (sym (elsewhere i other))
            (so_far.all.consistent i (omega (arith, l, new_len)))
      ];
      numbers = λ i l. elim (cases_eq i j) [
        | inl same ↦ ap (λ (k : ℕ). (state_at new k).number) same ∙ number ∙ sym same
        | inr other ↦
            ap (λ (a : MemberState). a.number) (elsewhere i other) ∙ so_far.all.numbers i (omega (arith, l, new_len))
      ];
      tried = λ i l. elim (cases_eq i j) [
        | inl same ↦
            subst (λ (k : ℕ). TriedFew (member_holdings (state_at new k))) (sym same)
            (tried_still member_words members_hold g (logs w) (others_than j mid) (state_at mid j) (state_at new j)
            gains (so_far.all.tried j inside))
        | inr other ↦
            subst (λ (a : MemberState). TriedFew (member_holdings a)) (sym (elsewhere i other))
            (so_far.all.tried i (omega (arith, l, new_len)))
      ];
      each = λ i l. elim (cases_eq i j) [
        | inl same ↦ subst (λ (k : ℕ). IsGathering w (member w k) (in_group (state_at new k))) (sym same)
            (gathering g w group are j there (others_than j mid) (state_at mid j) (state_at new j) learnt someones
            number gains)
        | inr other ↦
            subst (λ (a : MemberState). IsGathering w (member w i) (in_group a)) (sym (elsewhere i other))
            (so_far.all.each i (omega (arith, l, new_len)))
      ];
      someones = λ t.
          someone_at new j t (omega (arith, inside, new_len))
          ∙ ap (λ (ms : List MemberState). stores (state_at new j) t || someone_holds (in_groups ms) t) others_still
          ∙ ap (λ (b : Bool). stores (state_at new j) t || b) (sym (lends_held (others_than j mid) t))
          ∙ someones_after g w group are j there (others_than j mid) (state_at mid j) (state_at new j) learnt someones
          number gains t;
      counts = λ i. elim (cases_eq i j) [
        | inl same ↦ record {
          machine =
              ap (λ (k : ℕ). (state_at new k).machine) same
              ∙ ap (λ (a : MemberState). a.machine) stored
              ∙ (so_far.all.counts j).machine
              ∙ ap (λ (k : ℕ). (state_at begun k).machine) (sym same);
          attempts =
              ap (λ (k : ℕ). (state_at new k).attempts) same
              ∙ ap (λ (a : MemberState). a.attempts) stored
              ∙ (so_far.all.counts j).attempts
              ∙ ap (λ (k : ℕ). (state_at begun k).attempts) (sym same);
        }
        | inr other ↦ record {
          machine = ap (λ (a : MemberState). a.machine) (elsewhere i other) ∙ (so_far.all.counts i).machine;
          attempts = ap (λ (a : MemberState). a.attempts) (elsewhere i other) ∙ (so_far.all.counts i).attempts;
        }
      ];
    }

    module _ (left : NothingLeft member_words (others_than j mid) (state_at new j)) where
      settled_here : in_group (state_at new j) ≡ settled_member w (member w j)
      settled_here =
          settled g w group are j there (others_than j mid) (state_at mid j) (state_at new j) learnt someones number
          gains left

      pub gathered_more : FetchedSoFar g w begun (j + 1) new
      gathered_more = record {
        all = gathered_part;
        done = λ i l. elim (cases_eq i j) [
          | inl same ↦
              subst (λ (k : ℕ). in_group (state_at new k) ≡ settled_member w (member w k)) (sym same) settled_here
          | inr other ↦ ap in_group (elsewhere i other) ∙ so_far.done i (omega (arith, l, other))
        ];
        still = λ i l. elsewhere i (λ e. omega (arith, l, e)) ∙ so_far.still i (omega (arith, l));
      }

      -- However parts count, the sum over the first `j + 1` members is that over the first `j` and what member `j`
      -- gained.
      pub sum_more : (weight : Part → ℕ) (n came : ℕ) → n ≡ new_parts_sum weight w (take j w.members)
          → Counts member_words weight came (state_at mid j) (state_at new j)
          → n + came ≡ new_parts_sum weight w (take (j + 1) w.members)
      sum_more weight n came so_many count =
          let held : keys (state_at mid j).store ≡ (member w j).held = ap (λ (m : Member). m.held) learnt in
          let rises : Rises part_cmp (member w j).held = (group.members j there).in_order.held in
          let one : came ≡ sum_by weight (new_parts w (member w j)) =
          came_sum w (member w j) rises weight came
          (ap (λ (ts : List Part). came + sum_by weight ts) (sym held) ∙ count
          ∙ ap (λ (m : Member). sum_by weight m.held) settled_here) in
          let more : new_parts_sum weight w (take (j + 1) w.members)
          ≡ new_parts_sum weight w (take j w.members) + sum_by weight (new_parts w (member w j)) =
          sum_by_more (λ (m : Member). sum_by weight (new_parts w m)) w.members j no_member there in
          omega (arith, one, more, so_many)

  -- After the last member has gathered, all members are settled.
  pub gathered_all : (new : List MemberState) → FetchedSoFar g w begun (length begun) new
      → in_groups new ≡ map (settled_member w) w.members
  gathered_all new h =
      ext_get_or no_member (in_groups new) (map (settled_member w) w.members)
      (length-map new in_group ∙ h.all.len ∙ long ∙ sym (length-map w.members (settled_member w))) (λ i l.
      let inside : i < length new = subst (λ (n : ℕ). i < n) (length-map new in_group) l in
      member_of new i inside ∙ h.done i (omega (arith, inside, h.all.len))
      ∙ sym (get_or-map (settled_member w) w.members i no_member no_member (omega (arith, inside, h.all.len, long))))

  pub all_sum : (weight : Part → ℕ) (n : ℕ) → n ≡ new_parts_sum weight w (take (length begun) w.members)
      → n ≡ new_parts_sum weight w w.members
  all_sum weight n e =
      e
      ∙ ap (λ (k : ℕ). new_parts_sum weight w (take k w.members)) long
      ∙ ap (new_parts_sum weight w) (take_all (length w.members) w.members (omega arith))

-- If each part counts as one, the sum is the number of parts that all members gain.
pub sum_ones : (w : World) → new_parts_sum one_each w w.members ≡ settle_new_parts w
sum_ones w = over w.members where
  over : (ms : List Member) → new_parts_sum one_each w ms ≡ sum_by (λ (m : Member). length (new_parts w m)) ms
  over [] = refl
  over (m ∷ ms) =
      let a : new_parts_sum one_each w (m ∷ ms) ≡ sum_by one_each (new_parts w m) + new_parts_sum one_each w ms =
      sum_by-cons (λ (x : Member). sum_by one_each (new_parts w x)) m ms in
      let b : sum_by (λ (x : Member). length (new_parts w x)) (m ∷ ms)
      ≡ length (new_parts w m) + sum_by (λ (x : Member). length (new_parts w x)) ms =
      sum_by-cons (λ (x : Member). length (new_parts w x)) m ms in
      let c : sum_by one_each (new_parts w m) ≡ length (new_parts w m) = ones (new_parts w m) in
      let rest : new_parts_sum one_each w ms ≡ sum_by (λ (x : Member). length (new_parts w x)) ms = over ms in
      omega (arith, a, b, c, rest)
