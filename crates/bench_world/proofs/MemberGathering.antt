-- The parts that a member has gathered are those that it gains in the model's settle, or some of them.
use Rattle.std.proofs.Common.{◌≡◌, inl, inr, ℕ, ◌≤◌, ◌<◌, Bool, true, false, ◌||◌, not, List, [], ◌∷◌, get_or, length}
use Rattle.std.proofs.Common.{Option, Some, None, refl, sym, ap, ◌∙◌, subst, arith}
use Rattle.std.specs.Prelude.{is_some}
use Rattle.std.specs.List.{list_any}
use Rattle.std.proofs.Math.Bool.{or-true}
use Rattle.std.proofs.lemmas.Bool.{true≢false, and_from, not_from_false, or_cases, or_right, cases_Bool}
use Rattle.repo_plan.specs.declared.part.Part.{Part}
use Rattle.sorted_lists.specs.SortedList.{keys, value_of}
use Rattle.repo_plan.specs.Parts.{part_cmp, pair_of, record_of}
use Rattle.repo_plan.specs.Plan.{PlanState, no_claims, is_wanted, is_unclaimed, is_claimed, is_claim_of}
use Rattle.sorted_lists.proofs.Sets.{in_filter}
use Rattle.sorted_lists.proofs.Members.{in_at}
use Rattle.group_model.specs.Publications.{Logs, all_parts}
use Rattle.group_model.specs.Member.{Member, member_holds, has_deleted}
use Rattle.group_model.specs.World.{World, no_member, member, logs, someone_holds}
use Rattle.group_model.specs.Settles.{learnt_member, IsGathering, HasFetchedAll}
use Rattle.group_model.specs.Steps.{settled_vector, settled_member, is_gained, new_parts}
use Rattle.group_model.specs.Sound.{IsSoundGroup, IsSoundMember}
use Rattle.group_model.proofs.Among.{in_all_parts}
use Rattle.group_model.proofs.Gains.{held_too, held_new}
use Rattle.group_model.proofs.Members.{known_published}
use Rattle.group_model.proofs.Plans.{wanted_parts}
use Rattle.group_model.proofs.PublicLaws.{gathering_settles}
use Rattle.group_model.proofs.Settles.{comes_from, someone, knows_settled}
use Rattle.repo_member.specs.Groups.{GroupKeys}
use Rattle.repo_member.specs.MemberState.{MemberState, member_plan}
use Rattle.repo_member.specs.InGroup.{in_group, AreLogs}
use Rattle.repo_member.proofs.PublicLaws.{contains-value, plans_alike, consistent_stores}
use Rattle.bench_world.specs.Lending.{or_else, lent, lends}
use Rattle.bench_world.specs.Truth.{stores}
use Rattle.bench_world.specs.Gathering.{GainsParts, NothingLeft}
use Rattle.bench_world.specs.MemberWords.{member_words}
use Rattle.bench_world.specs.Settling.{IsPartlySettled}
use Rattle.bench_world.specs.Worlds.{in_groups, drawing}

-- ---- who holds

some_or : (x y : Option (List ℕ)) → is_some (or_else x y) ≡ (is_some x || is_some y)
some_or None y = refl
some_or (Some o) y = refl

-- Members lend what one of them holds.
pub lends_held : (members : List MemberState) (t : Part) → lends members t ≡ someone_holds (in_groups members) t
lends_held [] t = refl
lends_held (a ∷ members) t =
    some_or (value_of part_cmp a.store t) (lent members t)
    ∙ ap (λ (b : Bool). b || is_some (lent members t)) (sym (contains-value a.store t))
    ∙ ap (λ (b : Bool). stores a t || b) (lends_held members t)

-- No fetcher claims a part where none claims anything.
none_claimed : (t : Part) → list_any (is_claim_of t) no_claims ≡ false
none_claimed t = refl

-- ---- members that are partly settled

module _ (w : World) (group : IsSoundGroup w) (j : ℕ) (there : j < length w.members) where
  module _ (new : Member) (sound : IsSoundMember (logs w) j new) (gathering : IsGathering w (member w j) new) where
    known_is : new.known ≡ settled_vector w
    known_is = ap (λ (x : Member). x.known) gathering.same

    someone_has : (t : Part) → member_holds new t ≡ true → someone_holds w.members t ≡ true
    someone_has t h = elim (gathering.came t h) [
      | inl was ↦ someone w.members (member w j) t (in_at w.members j no_member there) was
      | inr holds ↦ holds
    ]

    not_hidden : (t : Part) → member_holds new t ≡ true → has_deleted (member w j) (pair_of t) ≡ false
    not_hidden t h = elim (cases_Bool (has_deleted (member w j) (pair_of t))) [
      | inl on ↦
          absurd (true≢false
          (sym h ∙ (sound.hidden (pair_of t)
          (ap (λ (x : Member). has_deleted x (pair_of t)) gathering.same ∙ on)).none_held t.part))
      | inr off ↦ off
    ]

    comes_new : (t : Part) → member_holds new t ≡ true → member_holds (member w j) t ≡ false
        → member_holds (settled_member w (member w j)) t ≡ true
    comes_new t h fresh =
        let held = sound.held t h in
        let comes : is_gained w (member w j) t ≡ true = comes_from w (member w j) t (record {
          received = subst (λ (v : List ℕ). t.seq ≤ get_or v t.publisher 0) known_is held.known.to_known;
          not_hidden = not_hidden t h;
          someones = someone_has t h;
          record_too = someone_has (record_of t) held.with_record;
          fresh = fresh;
        }) in
        held_new (new_parts w (member w j)) (member w j) t
        (in_filter (is_gained w (member w j)) (all_parts (logs w)) t
        (in_all_parts (logs w) t (record {
          there = known_published (logs w) new.known (pair_of t) sound.known held.known;
          counted = held.counted;
        })) comes)

    pub partly_settled : IsPartlySettled w (member w j) new
    partly_settled = record {
      log = ap (λ (x : Member). x.log) gathering.same;
      hidden = ap (λ (x : Member). x.hidden) gathering.same;
      attempts = ap (λ (x : Member). x.attempts) gathering.same;
      machine = ap (λ (x : Member). x.machine) gathering.same;
      processes = ap (λ (x : Member). x.processes) gathering.same;
      next_process = ap (λ (x : Member). x.next_process) gathering.same;
      claims = inr (ap (λ (x : Member). x.claims) gathering.same);
      width = sound.width ∙ sym (group.members j there).width;
      known_more =
          λ p. subst (λ (v : List ℕ). get_or (member w j).known p 0 ≤ get_or v p 0) (sym known_is)
          (knows_settled w group j there j p there);
      known_less = λ p. ap_le p;
      kept = gathering.kept;
      came = λ t h. elim (cases_Bool (member_holds (member w j) t)) [
        | inl was ↦ held_too (new_parts w (member w j)) (member w j) t was
        | inr fresh ↦ comes_new t h fresh
      ];
    } where
      ap_le : (p : ℕ) → get_or new.known p 0 ≤ get_or (settled_vector w) p 0
      ap_le p =
          let e : get_or new.known p 0 ≡ get_or (settled_vector w) p 0 = ap (λ (v : List ℕ). get_or v p 0) known_is in
          omega (arith, e)

  -- A member that is unchanged is partly settled.
  pub partly_begun : IsPartlySettled w (member w j) (member w j)
  partly_begun = record {
    log = refl;
    hidden = refl;
    attempts = refl;
    machine = refl;
    processes = refl;
    next_process = refl;
    claims = inl refl;
    width = refl;
    known_more = λ p. omega arith;
    known_less = λ p. knows_settled w group j there j p there;
    kept = λ t h. h;
    came = λ t h. held_too (new_parts w (member w j)) (member w j) t h;
  }

-- ---- a member that gathers

-- Nothing of a member changes but what it stores.
pub only_stored : (g : GroupKeys) (logs : Logs) (others : List MemberState) (old new : MemberState)
    → GainsParts member_words g logs others old new → new ≡ record old { store = new.store }
only_stored g logs others old new gains =
    ap (λ (x : MemberState). let y : MemberState = record x { store = new.store } in y) gains.rest

module _ (g : GroupKeys) (w : World) (group : IsSoundGroup w) (are : AreLogs g (logs w)) (j : ℕ)
    (there : j < length w.members) (others : List MemberState) (old new : MemberState)
    (learnt : in_group old ≡ learnt_member w (member w j))
    (someones : (t : Part) → (stores old t || lends others t) ≡ someone_holds w.members t) (number : new.number ≡ j)
    (gains : GainsParts member_words g (logs w) others old new) where
  same : in_group new ≡ record (learnt_member w (member w j)) { held = keys new.store }
  same =
      ap in_group (only_stored g (logs w) others old new gains)
      ∙ ap (λ (x : Member). let y : Member = record x { held = keys new.store } in y) learnt

  stores_held : (t : Part) → stores old t ≡ member_holds (member w j) t
  stores_held t = ap (λ (x : Member). member_holds x t) learnt

  pub gathering : IsGathering w (member w j) (in_group new)
  gathering = record {
    same = same;
    kept = λ t h. gains.kept t (stores_held t ∙ h);
    came = λ t h. elim (gains.came t h) [
      | inl was ↦ inl (sym (stores_held t) ∙ was)
      | inr lent_ ↦ inr (sym (someones t) ∙ or_right (stores old t) (lends others t) lent_)
    ];
  }

  sound : IsSoundMember (logs w) j (in_group new)
  sound = subst (λ (k : ℕ). IsSoundMember (logs w) k (in_group new)) number gains.consistent.sound

  module _ (left : NothingLeft member_words others new) where
    unclaimed : (t : Part) → is_wanted (member_plan new) t ≡ true → is_unclaimed (member_plan new) t ≡ true
    unclaimed t wanted = and_from (is_wanted (member_plan new) t) (not (is_claimed (member_plan new) t)) wanted
        (not_from_false (is_claimed (member_plan new) t)
        (ap (λ (x : Member). list_any (is_claim_of t) x.claims) same ∙ none_claimed t))

    -- Nobody holds a part that the member still wants.
    gathered : HasFetchedAll w (in_group new)
    gathered t wanted = elim (cases_Bool (someone_holds w.members t)) [
      | inl someone_ ↦
          let want : is_wanted (member_plan new) t ≡ true =
          subst (λ (p : PlanState). is_wanted p t ≡ true)
          (sym (plans_alike g (logs w) new are (consistent_stores g (logs w) new gains.consistent))) wanted in
          let none : lends others t ≡ false = left t (unclaimed t want) in
          elim (or_cases (stores old t) (lends others t) (someones t ∙ someone_)) [
            | inl was ↦
                absurd (true≢false (sym (gains.kept t was) ∙ (wanted_parts (logs w) (in_group new) t wanted).not_held))
            | inr lent_ ↦ absurd (true≢false (sym lent_ ∙ none))
          ]
      | inr off ↦ off
    ]

    pub settled : in_group new ≡ settled_member w (member w j)
    settled = gathering_settles (drawing (λ _ _. 0)) w group j (in_group new) there sound gathering gathered

  pub someones_after : (t : Part) → (stores new t || lends others t) ≡ someone_holds w.members t
  someones_after t = go (stores old t) (lends others t) (stores new t) refl refl refl ∙ someones t where
    go : (a b c : Bool) → stores old t ≡ a → lends others t ≡ b → stores new t ≡ c → (c || b) ≡ (a || b)
    go true b true e f h = refl
    go true b false e f h = absurd (true≢false (sym (gains.kept t e) ∙ h))
    go false true c e f h = or-true c
    go false false true e f h = elim (gains.came t h) [
      | inl was ↦ absurd (true≢false (sym was ∙ e))
      | inr lent_ ↦ absurd (true≢false (sym lent_ ∙ f))
    ]
    go false false false e f h = refl
