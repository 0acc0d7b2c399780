-- A sound world, and others that differ from it in what an event changes.
use Rattle.std.proofs.Common.{◌≡◌, inl, inr, ℕ, suc, zero, ◌+◌, ◌*◌, ◌≤◌, ◌<◌, ◌^◌, List, [], ◌∷◌, map, length, get_or}
use Rattle.std.proofs.Common.{set, refl, sym, ap, ◌∙◌, subst, arith}
use Rattle.std.specs.List.{All}
use Rattle.std.proofs.lemmas.Bool.{cases_eq}
use Rattle.std.proofs.lemmas.List.{length-map, length-set, ext_get_or, get_or-map, get_or-set_same, get_or-set_other}
use Rattle.std.proofs.lemmas.List.{get_or_default}
use Rattle.bench_net.specs.SentList.{SentPacket}
use Rattle.group_model.specs.Publications.{Logs, all_parts}
use Rattle.group_model.specs.Member.{Member, tries_of}
use Rattle.group_model.specs.Events.{SyncInterest, Event}
use Rattle.group_model.specs.World.{Tally, Environment, no_member, no_sync, member}
use Rattle.group_model.specs.Steps.{after_event}
use Rattle.group_model.specs.Sound.{IsSoundGroup, IsSoundMember, IsConsistentVector}
use Rattle.group_model.specs.Limits.{IsInRange, IsMemberWithin, IsWithinSteps, HasSmallPackets, FitsIn64Bits}
use Rattle.group_model.proofs.PublicLaws.{within_after, few_parts, tallies_fit}
use Rattle.repo_member.specs.Groups.{GroupKeys}
use Rattle.repo_member.specs.MemberState.{MemberState}
use Rattle.repo_member.specs.InGroup.{in_group, AreLogs}
use Rattle.repo_member.specs.InEvents.{IsMemberOf, IsConsistentIn}
use Rattle.repo_member.specs.ConsistentMembers.{IsConsistentMember}
use Rattle.repo_member.proofs.PublicLaws.{consistent_stores}
use Rattle.repo_mirror.specs.ConsistentMirrors.{IsConsistentMirror}
use Rattle.bench_world.specs.Truth.{AllTriedFew, AreFewLogs}
use Rattle.bench_world.specs.Worlds.{GroupState, IsConsistentState, IsConsistentSync, nobody, state_at, in_groups}
use Rattle.bench_world.specs.Worlds.{logs_around}
use Rattle.bench_world.specs.Worlds.{MembersAreNumbered, AreConsistentMembers, MirrorTriedFew, sync_in, world_of}
use Rattle.bench_world.specs.Worlds.{no_packet}

-- ---- members

pub member_at : (ms : List MemberState) (j : ℕ) → get_or (in_groups ms) j no_member ≡ in_group (state_at ms j)
member_at [] zero = refl
member_at [] (suc j) = refl
member_at (m ∷ ms) zero = refl
member_at (m ∷ ms) (suc j) = member_at ms j

-- A member that has changed is there.
pub member_set : (ms : List MemberState) (j : ℕ) (b : MemberState) → j < length ms
    → get_or (in_groups (set ms j b)) j no_member ≡ in_group b
member_set ms j b there = member_at (set ms j b) j ∙ ap in_group (get_or-set_same ms j b nobody there)

pub many_logs : (ms : List MemberState) → length (logs_around ms) ≡ length ms
many_logs ms = length-map (in_groups ms) (λ (m : Member). m.log) ∙ length-map ms in_group

-- The logs of all are what each has.
pub logs_are : (g : GroupKeys) (ls : Logs) (members : List MemberState) → length members ≡ length ls
    → MembersAreNumbered members → AreConsistentMembers g ls members → logs_around members ≡ ls
logs_are g ls members long numbers consistent =
    let many : length (logs_around members) ≡ length members = many_logs members in
    ext_get_or [] (logs_around members) ls (many ∙ long) (λ i l.
    let inside : i < length members = omega (arith, l, many) in
    let among : length (in_groups members) ≡ length members = length-map members in_group in
    get_or-map (λ (m : Member). m.log) (in_groups members) i no_member [] (omega (arith, inside, among))
    ∙ ap (λ (m : Member). m.log) (member_at members i)
    ∙ sym (consistent i inside).log ∙ ap (λ (k : ℕ). get_or ls k []) (numbers i inside))

module _ (ms : List MemberState) (m : ℕ) (there : m < length ms) (b : MemberState) where
  pub set_consistently : (g : GroupKeys) (ls : Logs) → AreConsistentMembers g ls ms → IsConsistentMember g ls b
      → AreConsistentMembers g ls (set ms m b)
  set_consistently g ls all one i l = elim (cases_eq i m) [
    | inl same ↦
        subst (IsConsistentMember g ls) (sym (ap (state_at (set ms m b)) same ∙ get_or-set_same ms m b nobody there))
        one
    | inr other ↦
        subst (IsConsistentMember g ls) (sym (get_or-set_other ms m i b nobody other))
        (all i (let n : length (set ms m b) ≡ length ms = length-set ms m b in omega (arith, l, n)))
  ]

  pub set_numbers : b.number ≡ m → MembersAreNumbered ms → MembersAreNumbered (set ms m b)
  set_numbers e all i l = elim (cases_eq i m) [
    | inl same ↦
        ap (λ (k : ℕ). (state_at (set ms m b) k).number) same
        ∙ ap (λ (a : MemberState). a.number) (get_or-set_same ms m b nobody there)
        ∙ e
        ∙ sym same
    | inr other ↦
        ap (λ (a : MemberState). a.number) (get_or-set_other ms m i b nobody other)
        ∙ all i (let n : length (set ms m b) ≡ length ms = length-set ms m b in omega (arith, l, n))
  ]

-- ---- a sound world

module _ (s : GroupState) (is : IsConsistentState s) where
  pub many : length s.members ≡ length (logs_around s.members)
  many = sym (many_logs s.members)

  pub few_members : length s.members ≤ 16
  few_members =
      let a = many in let b = is.are.width in let c = is.are.group.members.roster.few in omega (arith, a, b, c)

  pub few_here : length (in_groups s.members) ≤ 16
  few_here = let a = few_members in let d = length-map s.members in_group in omega (arith, a, d)

  pub sound_state : IsSoundGroup (world_of s)
  sound_state = record {
    members = λ j l.
        let inside : j < length s.members = subst (λ (n : ℕ). j < n) (length-map s.members in_group) l in
        subst (λ (k : ℕ). IsSoundMember (logs_around s.members) k (member (world_of s) j)) (is.numbers j inside)
        (subst (IsSoundMember (logs_around s.members) (state_at s.members j).number) (sym (member_at s.members j))
        (is.members j inside).sound);
    sent = λ k l.
        let inside : k < length s.sent = subst (λ (n : ℕ). k < n) (length-map s.sent sync_in) l in
        subst (λ (p : SyncInterest). IsConsistentVector (logs_around s.members) p.vector)
        (sym (get_or-map sync_in s.sent k no_packet no_sync inside)) (is.sent k no_packet inside).vector;
  }

  pub few_logs : AreFewLogs s.keys (logs_around s.members)
  few_logs = record {
    are = is.are;
    few =
        let x : length (all_parts (logs_around s.members)) ≤ 2010100000 =
        few_parts s.steps (world_of s) is.steps is.within in
        omega (arith, x);
  }

  pub member_within : (j : ℕ) → IsMemberWithin s.steps (in_group (state_at s.members j))
  member_within j = subst (IsMemberWithin s.steps) (member_at s.members j) (is.within.members j)

  pub tried_few : AllTriedFew s.members
  tried_few j l t =
      let x : tries_of (state_at s.members j).attempts t ≤ s.steps * 16 = (member_within j).tried t in
      let few = is.steps in omega (arith, x, few)

  -- ---- one member

  module _ (m : ℕ) (there : m < length s.members) (old : MemberState) (old_is : old ≡ get_or s.members m old) where
    pub old_at : old ≡ state_at s.members m
    old_at = old_is ∙ get_or_default s.members m old nobody there

    pub consistent : IsConsistentMember s.keys (logs_around s.members) old
    consistent = subst (IsConsistentMember s.keys (logs_around s.members)) (sym old_at) (is.members m there)

    pub number_is : old.number ≡ m
    number_is = ap (λ (a : MemberState). a.number) old_at ∙ is.numbers m there

    pub member_is : member (world_of s) m ≡ in_group old
    member_is = member_at s.members m ∙ ap in_group (sym old_at)

    pub among : m < length (in_groups s.members)
    among = subst (λ (n : ℕ). m < n) (sym (length-map s.members in_group)) there

    pub among_logs : m < length (logs_around s.members)
    among_logs = subst (λ (k : ℕ). m < k) many there

    pub in_world : IsMemberOf (world_of s) m old
    in_world = record { there = among; number = number_is; same = member_is }

    pub consistent_in : IsConsistentIn s.keys (world_of s) old
    consistent_in = record {
      published = is.are;
      stores = consistent_stores s.keys (logs_around s.members) old
          consistent;
    }

    pub few_draws : old.machine.draws < 2 ^ 62
    few_draws =
        subst (λ (a : MemberState). a.machine.draws < 2 ^ 62) (sym old_at)
        (let a : (state_at s.members m).machine.draws ≤ s.steps + 1 = (member_within m).draws in
        let few = is.steps in omega (arith, a, few))

  -- ---- counts

  pub early : s.time < 2 ^ 62
  early = let a : s.time ≤ s.steps * 1000000000 = is.within.time in let few = is.steps in omega (arith, a, few)

  pub few_sent : length s.sent + 16 < 4294967295
  few_sent =
      let a : length (map sync_in s.sent) ≤ s.steps * 16 = is.within.sent in
      let b = length-map s.sent sync_in in let few = is.steps in omega (arith, a, b, few)

  -- 64 bits hold what is counted.
  pub tally_fits : FitsIn64Bits s.tally
  tally_fits = tallies_fit s.steps s.tally is.steps is.within.tally

  -- ---- other worlds

  -- More steps were made.
  pub mirrors_still : (steps : ℕ) → s.steps ≤ steps → All (MirrorTriedFew steps) s.mirrors
  mirrors_still steps more k d l t =
      let few : tries_of (get_or s.mirrors k d).attempts t ≤ s.steps * 16 = is.mirrors_tried k d l t in
      omega (arith, few, more)

  -- Other members of the same logs, and other packets that were sent.
  pub changed_state : (members : List MemberState) (sent : List SentPacket) (time : ℕ) (tally : Tally) (steps : ℕ)
      → length members ≡ length s.members → MembersAreNumbered members
      → AreConsistentMembers s.keys (logs_around s.members) members
      → All (IsConsistentSync s.keys (logs_around s.members)) sent → s.steps ≤ steps → steps ≤ 100000
      → IsWithinSteps steps
      (world_of (record s { members = members; sent = sent; time = time; tally = tally; steps = steps }))
      → IsConsistentState (record s { members = members; sent = sent; time = time; tally = tally; steps = steps })
  changed_state members sent time tally steps len numbers all syncs more few within =
      let same : logs_around members ≡ logs_around s.members =
      logs_are s.keys (logs_around s.members) members (len ∙ many) numbers all in
      record {
        are = subst (AreLogs s.keys) (sym same) is.are;
        numbers = numbers;
        members = subst (λ (ls : Logs). AreConsistentMembers s.keys ls members) (sym same) all;
        sent = subst (λ (ls : Logs). All (IsConsistentSync s.keys ls) sent) (sym same) syncs;
        within = within;
        steps = few;
        mirrors = subst (λ (ls : Logs). All (IsConsistentMirror s.keys ls) s.mirrors) (sym same) is.mirrors;
        mirrors_tried = mirrors_still steps more;
        mirrors_few = is.mirrors_few;
      }

  module _ (few : s.steps < 100000) (env : Environment) (small : HasSmallPackets env (world_of s)) (e : Event)
      (range : IsInRange e) where
    pub within_more : IsWithinSteps (s.steps + 1) (after_event env (world_of s) e)
    within_more = within_after env s.steps (world_of s) e is.steps few_here small range is.within

    -- An event that publishes nothing and leaves members consistent leaves the world sound.
    pub stepped : (members : List MemberState) (sent : List SentPacket) (time : ℕ) (tally : Tally)
        → length members ≡ length s.members → MembersAreNumbered members
        → AreConsistentMembers s.keys (logs_around s.members) members
        → All (IsConsistentSync s.keys (logs_around s.members)) sent
        → world_of (record s { members = members; sent = sent; time = time; tally = tally; steps = s.steps + 1 })
        ≡ after_event env (world_of s) e
        → IsConsistentState (record s {
          members = members;
          sent = sent;
          time = time;
          tally = tally;
          steps = s.steps
              + 1;
        })
    stepped members sent time tally len numbers all syncs world_is =
        changed_state members sent time tally (s.steps + 1) len numbers all syncs (omega arith) (omega (arith, few))
        (subst (IsWithinSteps (s.steps + 1)) (sym world_is) within_more)

    -- An event that publishes nothing and changes one member, which stays consistent, leaves the world sound.
    pub stepped_at : (m : ℕ) → m < length s.members → (b : MemberState) → b.number ≡ m
        → IsConsistentMember s.keys (logs_around s.members) b → (sent : List SentPacket) (time : ℕ) (tally : Tally)
        → All (IsConsistentSync s.keys (logs_around s.members)) sent
        → world_of
        (record s { members = set s.members m b; sent = sent; time = time; tally = tally; steps = s.steps + 1 })
        ≡ after_event env (world_of s) e
        → IsConsistentState
        (record s { members = set s.members m b; sent = sent; time = time; tally = tally; steps = s.steps + 1 })
    stepped_at m there b number one sent time tally syncs world_is =
        stepped (set s.members m b) sent time tally (length-set s.members m b)
        (set_numbers s.members m there b number is.numbers)
        (set_consistently s.members m there b s.keys (logs_around s.members) is.members one) syncs world_is
