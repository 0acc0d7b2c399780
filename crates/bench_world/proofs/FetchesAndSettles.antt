-- What a fetch and a settle make of a world.
use Rattle.std.proofs.Common.{◌≡◌, inl, inr, Some, ℕ, zero, suc, ◌+◌, ◌-◌, ◌*◌, ◌≤◌, ◌<◌, ◌^◌, Bool, List, [], ◌∷◌}
use Rattle.std.proofs.Common.{◌++◌, map, length, get_or, refl, sym, ap, ◌∙◌, subst, arith}
use Rattle.std.specs.Prelude.{sum_by}
use Rattle.std.specs.List.{All}
use Rattle.std.proofs.lemmas.Bool.{cases_lt}
use Rattle.std.proofs.lemmas.List.{length-map, map-append, get_or_past}
use Rattle.std.specs.Ordering.{nat_cmp}
use Rattle.sorted_lists.specs.SortedList.{value_of}
use Rattle.group_model.specs.Processes.{Process, indexes}
use Rattle.std.proofs.lemmas.List.Elements.{All-append}
use Rattle.bench_net.specs.SentList.{SentPacket}
use Rattle.svs_sync.specs.SyncStates.{SyncState}
use Rattle.repo_plan.specs.declared.part.Part.{Part}
use Rattle.repo_object.specs.Objects.{contents_of}
use Rattle.group_model.specs.Publications.{Logs, no_post, published}
use Rattle.group_model.specs.Member.{Member, tries_of}
use Rattle.group_model.specs.Events.{SyncInterest, Event}
use Rattle.group_model.specs.World.{Tally, World, Environment, no_member, member}
use Rattle.group_model.specs.Laws.{NothingDeleted, AllJoined}
use Rattle.group_model.specs.Limits.{IsWithinSteps, IsMemberWithin, FitsIn64Bits}
use Rattle.group_model.specs.Sound.{IsSoundGroup}
use Rattle.group_model.specs.Steps.{settle_new_parts, settled_member, syncs_of, after_gathering, fetched_parts}
use Rattle.group_model.specs.Steps.{attempts_made, after_fetch}
use Rattle.group_model.proofs.PublicLaws.{gathering_joins, gathering_within, more_within, tallies_fit}
use Rattle.repo_member.specs.MemberState.{MemberState}
use Rattle.repo_member.specs.InGroup.{in_group}
use Rattle.bench_world.specs.declared.sync_exchange.MemberSync.{MemberSync}
use Rattle.bench_world.specs.Serving.{environment, lossless}
use Rattle.bench_world.specs.Settling.{sent_sync, new_parts_sum, ArePartlySettled, IsPartlySettled}
use Rattle.bench_world.specs.Sizes.{size_of}
use Rattle.bench_world.specs.Runs.{HaveSettledPartly}
use Rattle.bench_world.specs.Worlds.{GroupState, IsConsistentState, IsConsistentSync, state_at, in_groups, logs_around}
use Rattle.bench_world.specs.Worlds.{AllCountsStay, MembersAreNumbered, AreConsistentMembers, sync_in, tells, world_of}
use Rattle.bench_world.specs.Worlds.{only_members}
use Rattle.bench_world.proofs.States.{many, few_here, member_at, member_within, logs_are, sound_state, changed_state}
use Rattle.bench_world.proofs.States.{within_more, stepped}
use Rattle.bench_world.proofs.PacketSizes.{size_short}
use Rattle.bench_world.proofs.Learnt.{partly_none}
use Rattle.bench_world.proofs.Readers.{counted_state}

-- ---- a fetch

module _ (s : GroupState) (is : IsConsistentState s) (few : s.steps < 100000) (passes : ℕ → ℕ → ℕ → ℕ → ℕ → ℕ → Bool)
    (m tries loss : ℕ) (most : tries ≤ 16) where
  abbrev env : Environment
  env = environment s.keys (λ _ _. 0) passes

  fetch_within : IsWithinSteps (s.steps + 1) (after_fetch env (world_of s) m tries loss)
  fetch_within =
      within_more s is few env (λ t. size_short s.keys (logs_around s.members) is.are t) (Event.Fetch m tries loss)
      most

  module _ (attempts parts octets : ℕ)
      (attempts_is : attempts ≡ attempts_made env (only_members s.members) m tries loss)
      (parts_is : parts ≡ length (fetched_parts env (only_members s.members) m tries loss))
      (octets_is : octets
      ≡ sum_by (size_of s.keys (logs_around s.members)) (fetched_parts env (only_members s.members) m tries loss)) where
    pub fetch_fits : (s.tally.attempts + attempts < 2 ^ 64)
        × (s.tally.parts + parts < 2 ^ 64)
        × (s.tally.octets + octets < 2 ^ 64)
    fetch_fits =
        let fits : FitsIn64Bits (after_fetch env (world_of s) m tries loss).tally =
        tallies_fit (s.steps + 1) (after_fetch env (world_of s) m tries loss).tally (omega (arith, few))
        fetch_within.tally in
        let a : s.tally.attempts + attempts_made env (only_members s.members) m tries loss < 2 ^ 64 = fits.attempts in
        let p : s.tally.parts + length (fetched_parts env (only_members s.members) m tries loss) < 2 ^ 64 =
        fits.parts in
        let o : s.tally.octets
        + sum_by (size_of s.keys (logs_around s.members)) (fetched_parts env (only_members s.members) m tries loss)
        < 2 ^ 64 =
        fits.octets in
        (omega (arith, a, attempts_is), omega (arith, p, parts_is), omega (arith, o, octets_is))

    module _ (new : List MemberState)
        (new_is : in_groups new ≡ (after_fetch env (only_members s.members) m tries loss).members) where
      abbrev fetched : Tally
      fetched = record s.tally {
        attempts = s.tally.attempts + attempts;
        parts = s.tally.parts + parts;
        octets = s.tally.octets + octets;
      }

      pub fetch_world : world_of (record s { members = new; tally = fetched; steps = s.steps + 1 })
          ≡ after_fetch env (world_of s) m tries loss
      fetch_world = λ i. record (world_of s) {
        members = new_is i;
        tally = record s.tally {
          attempts = s.tally.attempts + attempts_is i;
          parts = s.tally.parts + parts_is i;
          octets = s.tally.octets + octets_is i;
        };
      }

      pub fetch_state : length new ≡ length s.members → MembersAreNumbered new
          → AreConsistentMembers s.keys (logs_around s.members) new
          → IsConsistentState (record s { members = new; tally = fetched; steps = s.steps + 1 })
      fetch_state len numbers consistent =
          stepped s is few env (λ t. size_short s.keys (logs_around s.members) is.are t) (Event.Fetch m tries loss)
          most new s.sent s.time fetched len numbers consistent is.sent fetch_world

-- ---- a settle

module _ (s : GroupState) (is : IsConsistentState s) where
  received_syncs : (j : ℕ) (members : List MemberState)
      → ((i : ℕ) → i < length members → (state_at members i).number ≡ j + i)
      → map sync_in (map (tells s.keys) members) ≡ syncs_of j (in_groups members)
  received_syncs j [] numbers = refl
  received_syncs j (a ∷ members) numbers =
      let first : a.number ≡ j = numbers 0 (omega arith) ∙ none j in
      let rest : map sync_in (map (tells s.keys) members) ≡ syncs_of (j + 1) (in_groups members) =
      received_syncs (j + 1) members (λ i l.
      let e : (state_at members i).number ≡ j + suc i = numbers (suc i) (omega (arith, l)) in omega (arith, e)) in
      λ k. record { sender = first k; vector = a.known } ∷ rest k where
        none : (n : ℕ) → n + 0 ≡ n
        none n = omega arith

  reported_consistently : (members : List MemberState)
      → ((i : ℕ) → i < length members → (state_at members i).number < length s.keys.members.names)
      → AreConsistentMembers s.keys (logs_around s.members) members
      → All (IsConsistentSync s.keys (logs_around s.members)) (map (tells s.keys) members)
  reported_consistently [] numbers consistent k d l = absurd (omega (arith, l))
  reported_consistently (a ∷ members) numbers consistent zero d l = record {
    sender = numbers 0 (omega arith);
    vector = record {
      width = (consistent 0 (omega arith)).sound.width;
      no_more =
          (consistent 0 (omega arith)).sound.known;
    };
    octets = refl;
  }
  reported_consistently (a ∷ members) numbers consistent (suc k) d l =
      reported_consistently members (λ i h. numbers (suc i) (omega (arith, h)))
      (λ i h. consistent (suc i) (omega (arith, h))) k d
      (omega (arith, l))

  pub sound_only : IsSoundGroup (only_members s.members)
  sound_only = record { members = (sound_state s is).members; sent = λ k l. absurd (omega (arith, l)) }

  -- ---- where memory ran out

  still_processes : (mid : List MemberState) → ArePartlySettled (only_members s.members) (in_groups mid) → (j : ℕ)
      → (in_group (state_at mid j)).processes ≡ (in_group (state_at s.members j)).processes
  still_processes mid p j = elim (cases_lt j (length (in_groups s.members))) [
    | inl inside ↦
        ap (λ (x : Member). x.processes) (sym (member_at mid j))
        ∙ (p.each j inside).processes
        ∙ ap (λ (x : Member). x.processes) (member_at s.members j)
    | inr past ↦
        let len : length (in_groups mid) ≡ length (in_groups s.members) = p.len in
        ap (λ (x : Member). x.processes)
        (sym (member_at mid j) ∙ get_or_past (in_groups mid) j no_member (omega (arith, past, len))
        ∙ sym (get_or_past (in_groups s.members) j no_member past) ∙ member_at s.members j)
  ]

  still_within : (mid : List MemberState) (steps : ℕ) → s.steps ≤ steps → length mid ≡ length s.members
      → MembersAreNumbered mid → AreConsistentMembers s.keys (logs_around s.members) mid → AllCountsStay s.members mid
      → ArePartlySettled (only_members s.members) (in_groups mid)
      → IsWithinSteps s.steps (world_of (record s { members = mid; steps = steps }))
  still_within mid steps more len numbers consistent counts p =
      let same : logs_around mid ≡ logs_around s.members =
      logs_are s.keys (logs_around s.members) mid (len ∙ many s is) numbers consistent in
      record {
        time = is.within.time;
        sent = is.within.sent;
        published = subst (λ (ls : Logs). length (published ls) ≤ s.steps) (sym same) is.within.published;
        segments =
            subst (λ (ls : Logs). (p k : ℕ) → length (contents_of (get_or (get_or ls p []) k no_post)) ≤ 20000)
            (sym same) is.within.segments;
        members = λ j. subst (IsMemberWithin s.steps) (sym (member_at mid j)) (record {
          draws =
              let a : (state_at s.members j).machine.draws ≤ s.steps + 1 = (member_within s is j).draws in
              let e : (state_at mid j).machine.draws ≡ (state_at s.members j).machine.draws =
              ap (λ (k : SyncState). k.draws) (counts j).machine in
              omega (arith, a, e);
          tried = λ t.
              let a : tries_of (state_at s.members j).attempts t ≤ s.steps * 16 = (member_within s is j).tried t in
              let e : tries_of (state_at mid j).attempts t ≡ tries_of (state_at s.members j).attempts t =
              ap (λ (xs : List (Part × ℕ)). tries_of xs t) (counts j).attempts in
              omega (arith, a, e);
          blocks =
              subst (λ (ps : List (ℕ × Process)).
              (n : ℕ) (q : Process) → value_of nat_cmp ps n ≡ Some q → length (indexes q) ≤ 200)
              (sym (still_processes mid p j)) (member_within s is j).blocks;
        });
        tally = is.within.tally;
      }

  module _ (few : s.steps < 100000) where
    -- A settle that ran out of memory leaves the world sound.
    pub failed_state : (mid : List MemberState) → length mid ≡ length s.members → MembersAreNumbered mid
        → AreConsistentMembers s.keys (logs_around s.members) mid → AllCountsStay s.members mid
        → ArePartlySettled (only_members s.members) (in_groups mid)
        → IsConsistentState (record s { members = mid; steps = s.steps + 1 })
    failed_state mid len numbers consistent counts p =
        changed_state s is mid s.sent s.time s.tally (s.steps + 1) len numbers consistent is.sent (omega arith)
        (omega (arith, few))
        (more_within s.steps (s.steps + 1) (world_of (record s { members = mid; steps = s.steps + 1 })) (omega arith)
        (still_within mid (s.steps + 1) (omega arith) len numbers consistent counts p))

    pub partly : (mid : List MemberState) → length mid ≡ length s.members → MembersAreNumbered mid
        → AreConsistentMembers s.keys (logs_around s.members) mid → AllCountsStay s.members mid
        → ArePartlySettled (only_members s.members) (in_groups mid)
        → HaveSettledPartly s (record s { members = mid; steps = s.steps + 1 })
    partly mid len numbers consistent counts p = record {
      same = refl;
      members = record {
        len = p.len;
        each = λ j l.
            let e : IsPartlySettled (only_members s.members) (member (only_members s.members) j)
            (member (record (only_members s.members) { members = in_groups mid }) j) =
            p.each j l in
            record {
              log = e.log;
              hidden = e.hidden;
              attempts = e.attempts;
              machine = e.machine;
              processes = e.processes;
              next_process = e.next_process;
              claims = e.claims;
              width = e.width;
              known_more = e.known_more;
              known_less = e.known_less;
              kept = e.kept;
              came = e.came;
            };
      };
      begun = is;
      consistent = failed_state mid len numbers consistent counts p;
    }

    -- Nothing has been settled yet.
    pub partly_before : HaveSettledPartly s (record s { steps = s.steps + 1 })
    partly_before = record {
      same = refl;
      members = partly_none s.keys (world_of s) is.are (sound_state s is) s.members refl is.members;
      begun = is;
      consistent = counted_state s is few;
    }

    -- ---- where it succeeds

    module _ (mid : List MemberState)
        (mid_is : in_groups mid ≡ map (settled_member (only_members s.members)) (in_groups s.members))
        (sent : List SentPacket) (received : List MemberSync)
        (sent_is : sent ≡ s.sent ++ map sent_sync received)
        (received_is : map sent_sync received ≡ map (tells s.keys) s.members)
        (count less parts octets : ℕ) (count_is : count ≡ length mid) (less_is : less ≡ count - 1)
        (parts_is : parts ≡ settle_new_parts (only_members s.members))
        (octets_is : octets
        ≡ new_parts_sum (size_of s.keys (logs_around s.members)) (only_members s.members) (in_groups s.members)) where
      abbrev settled : Tally
      settled = record s.tally {
        delivered = s.tally.delivered + count * less;
        parts = s.tally.parts + parts;
        octets = s.tally.octets + octets;
      }

      syncs : map sync_in sent ≡ map sync_in s.sent ++ syncs_of 0 (in_groups s.members)
      syncs =
          ap (map sync_in) sent_is ∙ map-append sync_in s.sent (map sent_sync received)
          ∙ ap (λ (ps : List SentPacket). map sync_in s.sent ++ map sync_in ps) received_is
          ∙ ap (λ (ss : List SyncInterest). map sync_in s.sent ++ ss)
          (received_syncs 0 s.members (λ i l. is.numbers i l ∙ first i)) where
            first : (n : ℕ) → n ≡ 0 + n
            first n = omega arith

      all_consistent : All (IsConsistentSync s.keys (logs_around s.members)) sent
      all_consistent =
          subst (All (IsConsistentSync s.keys (logs_around s.members)))
          (sym (sent_is ∙ ap (λ (ps : List SentPacket). s.sent ++ ps) received_is))
          (All-append (IsConsistentSync s.keys (logs_around s.members)) s.sent (map (tells s.keys) s.members) is.sent
          (reported_consistently s.members (λ i l.
          let n : (state_at s.members i).number ≡ i = is.numbers i l in
          let w = is.are.width in let k = many s is in omega (arith, n, l, w, k)) is.members))

      pub settle_world : world_of (record s { members = mid; sent = sent; tally = settled; steps = s.steps + 1 })
          ≡ after_gathering (lossless s.keys) (world_of s)
      settle_world =
          let n : count ≡ length (in_groups s.members) =
          count_is
          ∙ sym (length-map mid in_group)
          ∙ ap length mid_is
          ∙ length-map (in_groups s.members) (settled_member (only_members s.members)) in
          let d : count * less ≡ length (in_groups s.members) * (length (in_groups s.members) - 1) =
          (λ i. count * less_is i) ∙ (λ i. n i * (n i - 1)) in
          λ i. record (world_of s) {
            members = mid_is i;
            sent = syncs i;
            tally = record s.tally {
              delivered = s.tally.delivered + d i;
              parts = s.tally.parts + parts_is i;
              octets = s.tally.octets + octets_is i;
            };
          }

      settle_within : IsWithinSteps (s.steps + 1)
          (world_of (record s { members = mid; sent = sent; tally = settled; steps = s.steps + 1 }))
      settle_within =
          subst (IsWithinSteps (s.steps + 1)) (sym settle_world)
          (gathering_within (lossless s.keys) s.steps (world_of s) is.steps (few_here s is)
          (λ t. size_short s.keys (logs_around s.members) is.are t) is.within)

      pub settle_joined : NothingDeleted
          (world_of (record s { members = mid; sent = sent; tally = settled; steps = s.steps + 1 }))
          → AllJoined (world_of (record s { members = mid; sent = sent; tally = settled; steps = s.steps + 1 }))
      settle_joined =
          subst (λ (w : World). NothingDeleted w → AllJoined w) (sym settle_world)
          (gathering_joins (lossless s.keys) (world_of s) (sound_state s is))

      pub settle_state : length mid ≡ length s.members → MembersAreNumbered mid
          → AreConsistentMembers s.keys (logs_around s.members) mid
          → IsConsistentState (record s { members = mid; sent = sent; tally = settled; steps = s.steps + 1 })
      settle_state len numbers consistent =
          changed_state s is mid sent s.time settled (s.steps + 1) len numbers consistent all_consistent (omega arith)
          (omega (arith, few)) settle_within

      pub settle_fits : (count * less < 2 ^ 64)
          × (s.tally.delivered + count * less < 2 ^ 64)
          × (s.tally.parts + parts < 2 ^ 64)
          × (s.tally.octets + octets < 2 ^ 64)
      settle_fits =
          let fits : FitsIn64Bits settled =
          tallies_fit (s.steps + 1) settled (omega (arith, few)) settle_within.tally in
          let d : s.tally.delivered + count * less < 2 ^ 64 = fits.delivered in
          (omega (arith, d), d, fits.parts, fits.octets)
