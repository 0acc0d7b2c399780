-- What a block of an insertion makes of a world.
use Rattle.std.proofs.Common.{◌≡◌, inl, inr, ℕ, ◌+◌, ◌≤◌, ◌<◌, Bool, true, false, cond, not, Some, None, Result, Ok}
use Rattle.std.proofs.Common.{Err, List, [], ◌++◌, length, get_or, set, refl, sym, ap, ◌∙◌, subst, arith}
use Rattle.std.specs.Prelude.{nat_le, ◌↔◌, IsTrue}
use Rattle.std.specs.List.{All}
use Rattle.std.specs.Ordering.{nat_cmp, eq_by_cmp}
use Rattle.std.proofs.lemmas.Bool.{cases_eq, cases_Bool, false_from_ne_true, leb-true, leb-false, le-leb, lt-ltb}
use Rattle.std.proofs.lemmas.List.{length-map, length-set, map-set, set-set, set-get_or, get_or-set_same}
use Rattle.std.proofs.lemmas.List.{get_or-set_other}
use Rattle.bench_net.specs.SentList.{SentPacket}
use Rattle.sorted_lists.specs.SortedList.{value_of}
use Rattle.sorted_lists.proofs.Orders.{exact_numbers}
use Rattle.sorted_lists.proofs.Sets.{value_of-with_value}
use Rattle.repo_object.specs.Objects.{IsObject, contents_of}
use Rattle.repo_object.specs.Objects.Post.{Offers}
use Rattle.repo_process.specs.Processes.{Process, BlockState, indexes, closed, object_of}
use Rattle.repo_process.specs.Processes.BlockState.{Unknown, Already, Waiting, Whole}
use Rattle.repo_process.specs.Arrivals.{is_last}
use Rattle.repo_process.specs.Insertions.{with_process}
use Rattle.group_model.specs.Publications.{Logs, published, no_post}
use Rattle.group_model.specs.Changes as group
use Rattle.group_model.specs.Events.{Event}
use Rattle.group_model.specs.Limits.{IsWithinSteps, IsMemberWithin}
use Rattle.group_model.specs.Member.{Member}
use Rattle.group_model.specs.Refusals.{Refusal, unless, if_whole, refusal}
use Rattle.group_model.specs.Steps.{after_publish, after_block, after_event, block_at, with_process_at, next_seq_at}
use Rattle.group_model.specs.Steps.{next_sync}
use Rattle.group_model.specs.World.{World, member}
use Rattle.group_model.proofs.MemberLimits.{HasFewBlocks, few_in}
use Rattle.repo_member.specs.declared.member.block.Blocked.{Blocked}
use Rattle.repo_member.specs.declared.member.block.Blocked.TheVariants as blocked
use Rattle.repo_member.specs.declared.refusals.PublishRefusal.{PublishRefusal}
use Rattle.repo_member.specs.declared.refusals.PublishRefusal.TheVariants.{NumbersSpent}
use Rattle.repo_member.specs.MemberState.{MemberState, member_publishes}
use Rattle.repo_member.specs.Blocks as own
use Rattle.repo_member.specs.Blocks.{member_block, member_keeps, member_blocks, CompletesAnObject, IsBlockAnswer}
use Rattle.repo_member.specs.InGroup.{in_group}
use Rattle.repo_member.specs.ConsistentMembers.{IsConsistentMember}
use Rattle.repo_member.proofs.PublicLaws.{block_states_alike, inserts_consistent}
use Rattle.bench_world.specs.Blocks.{after_blocked, blocked_report}
use Rattle.bench_world.specs.EventValues.{ReportValue, block_report}
use Rattle.bench_world.specs.declared.touched.Touched.{Touched}
use Rattle.bench_world.specs.Touching.{touches, NotesAny, blocked_pair}
use Rattle.bench_world.specs.Worlds.{GroupState, IsConsistentState, IsConsistentSync, nobody, state_at, in_groups}
use Rattle.bench_world.specs.Worlds.{logs_around}
use Rattle.bench_world.specs.Worlds.{MembersAreNumbered, AreConsistentMembers, sync_in, world_of, drawing}
use Rattle.bench_world.proofs.Objects.{log_is, sent_is, world_sent, state_sent}
use Rattle.bench_world.proofs.States.{consistent, number_is, member_is, old_at, in_world, member_at, member_within}
use Rattle.bench_world.proofs.States.{many}
use Rattle.bench_world.proofs.States.{logs_are, set_consistently, set_numbers, changed_state, stepped_at}

-- ---- a member with another insertion process

module _ (s : GroupState) (is : IsConsistentState s) (m : ℕ) (there : m < length s.members) (old : MemberState)
    (old_is : old ≡ get_or s.members m old) (number : ℕ) (p : Process) where
  abbrev kept : MemberState
  kept = member_keeps number p old

  abbrev keeping : GroupState
  keeping = record s { members = set s.members m kept }

  keeping_world : world_of keeping ≡ with_process_at (world_of s) m number p
  keeping_world =
      ap (λ (ms : List Member). let w : World = record (world_of s) { members = ms } in w)
      (map-set in_group s.members m kept
      ∙ ap (λ (x : Member). set (in_groups s.members) m (group.member_with_process number p x))
      (sym (member_is s is m there old old_is)))

  kept_numbers : MembersAreNumbered keeping.members
  kept_numbers = set_numbers s.members m there kept (number_is s is m there old old_is) is.numbers

  kept_consistently : AreConsistentMembers s.keys (logs_around s.members) keeping.members
  kept_consistently =
      set_consistently s.members m there kept s.keys (logs_around s.members) is.members
      (inserts_consistent s.keys (logs_around s.members) (with_process number p old.insertions) old
      (consistent s is m there old old_is))

  kept_logs : logs_around keeping.members ≡ logs_around s.members
  kept_logs =
      logs_are s.keys (logs_around s.members) keeping.members (length-set s.members m kept ∙ many s is) kept_numbers
      kept_consistently

  module _ (few : length (indexes p) ≤ 200) where
    kept_within : IsMemberWithin s.steps (in_group kept)
    kept_within = record {
      draws = before.draws;
      tried = before.tried;
      blocks =
          λ n q found. at n q (eq_by_cmp nat_cmp n number)
          (sym (value_of-with_value exact_numbers number p old.insertions.processes n) ∙ found);
    } where
      before : IsMemberWithin s.steps (in_group old)
      before =
          subst (λ (a : MemberState). IsMemberWithin s.steps (in_group a)) (sym (old_at s is m there old old_is))
          (member_within s is m)

      at : (n : ℕ) (q : Process) (b : Bool) → cond b (Some p) (value_of nat_cmp old.insertions.processes n) ≡ Some q
          → length (indexes q) ≤ 200
      at n q true e = let same : p ≡ q = cc in subst (λ (x : Process). length (indexes x) ≤ 200) same few
      at n q false e = before.blocks n q e

    each_within : (j : ℕ) → IsMemberWithin s.steps (member (world_of keeping) j)
    each_within j = subst (IsMemberWithin s.steps) (sym (member_at keeping.members j)) (elim (cases_eq j m) [
      | inl same ↦
          subst (λ (a : MemberState). IsMemberWithin s.steps (in_group a))
          (sym (ap (state_at keeping.members) same ∙ get_or-set_same s.members m kept nobody there)) kept_within
      | inr other ↦
          subst (λ (a : MemberState). IsMemberWithin s.steps (in_group a))
          (sym (get_or-set_other s.members m j kept nobody other)) (member_within s is j)
    ])

    keeping_within : IsWithinSteps s.steps (world_of keeping)
    keeping_within = record {
      time = is.within.time;
      sent = is.within.sent;
      published = subst (λ (ls : Logs). length (published ls) ≤ s.steps) (sym kept_logs) is.within.published;
      segments =
          subst (λ (ls : Logs). (i k : ℕ) → length (contents_of (get_or (get_or ls i []) k no_post)) ≤ 20000)
          (sym kept_logs) is.within.segments;
      members = each_within;
      tally = is.within.tally;
    }

    keeping_state : IsConsistentState keeping
    keeping_state =
        changed_state s is keeping.members s.sent s.time s.tally s.steps (length-set s.members m kept) kept_numbers
        kept_consistently is.sent (omega arith) is.steps keeping_within

-- ---- a block

module _ (s : GroupState) (is : IsConsistentState s) (m : ℕ) (there : m < length s.members) (old : MemberState)
    (old_is : old ≡ get_or s.members m old) (process index : ℕ) (content : List ℕ) where
  abbrev becomes : BlockState
  becomes = member_block old process index content

  abbrev event : Event
  event = Event.Block m process index content

  state_is : block_at (world_of s) m process index content ≡ becomes
  state_is = block_states_alike (world_of s) m process index content old (in_world s is m there old old_is)

  abbrev IsSpent : {A : Type 0} → Result A PublishRefusal → Type 0
  IsSpent r =
      (log : ℕ)
      → (r ≡ Err (NumbersSpent log)) ↔ (IsTrue (is_last becomes) × (log ≡ length old.log) × (65535 ≤ length old.log))

  -- A block that would complete an object is refused where all numbers are spent.
  pub block_refused : {A : Type 0} (draw : ℕ → ℕ → ℕ) (r : Result A PublishRefusal) (log : ℕ)
      → r ≡ Err (NumbersSpent log) → IsSpent r → refusal (drawing draw) (world_of s) event ≡ Some Refusal.NumbersSpent
  block_refused draw r log is_err spent =
      let all = (spent log).0 is_err in
      ap (if_whole (world_of s) m) state_is ∙ go becomes all.0 all.2 where
        go : (x : BlockState) → IsTrue (is_last x) → 65535 ≤ length old.log
            → if_whole (world_of s) m x ≡ Some Refusal.NumbersSpent
        go Unknown h most = absurd cc
        go Already h most = absurd cc
        go (Waiting p) h most = absurd cc
        go (Whole p) h most =
            let l = log_is s is m there old old_is in
            ap (λ (c : Bool). unless (not c) Refusal.NumbersSpent)
            (le-leb 65535 (length (member (world_of s) m).log) (omega (arith, most, l)))

  -- A block that is taken and completes an object finds a number for it.
  pub finds_number : {A : Type 0} (r : Result A PublishRefusal) (x : A) → r ≡ Ok x → IsSpent r
      → IsTrue (is_last becomes) → length old.log < 65535
  finds_number r x is_ok spent last = elim (cases_Bool (nat_le 65535 (length old.log))) [
    | inl most ↦
        absurd (let e : r ≡ Err (NumbersSpent (length old.log)) =
        (spent (length old.log)).1 (last, refl, leb-true 65535 (length old.log) most) in
        cc)
    | inr less ↦ leb-false 65535 (length old.log) less
  ]

  module _ (room : IsTrue (is_last becomes) → length old.log < 65535) where
    pub block_taken : (draw : ℕ → ℕ → ℕ) → refusal (drawing draw) (world_of s) event ≡ None
    block_taken draw = ap (if_whole (world_of s) m) state_is ∙ go becomes room where
      go : (x : BlockState) → (IsTrue (is_last x) → length old.log < 65535) → if_whole (world_of s) m x ≡ None
      go Unknown h = refl
      go Already h = refl
      go (Waiting p) h = refl
      go (Whole p) h =
          let less = h refl in
          let l = log_is s is m there old old_is in
          ap (λ (c : Bool). unless (not c) Refusal.NumbersSpent)
          (false_from_ne_true (nat_le 65535 (length (member (world_of s) m).log)) (λ e.
          let most : 65535 ≤ length (member (world_of s) m).log =
          leb-true 65535 (length (member (world_of s) m).log) e in
          omega (arith, most, less, l)))

    module _ (b : MemberState) (draw : ℕ → ℕ → ℕ) (n : ℕ) (n_is : n ≡ draw m old.machine.draws)
        (b_is : b ≡ member_blocks s.keys process index content s.time n old)
        (x : Blocked) (tells : IsBlockAnswer s.keys old b becomes x) where
      -- What is reported of it.
      pub reported_so : (received : ReportValue) (k : ℕ) → received ≡ blocked_report m k x → k ≡ length s.sent + 1
          → received ≡ block_report m (next_seq_at (world_of s) m) (next_sync (world_of s))
          (block_at (world_of s) m process index content)
      reported_so received k e k_is =
          e
          ∙ go becomes x tells
          ∙ ap (block_report m (next_seq_at (world_of s) m) (next_sync (world_of s))) (sym state_is) where
            seq_so : (seq : ℕ) → seq ≡ length old.log + 1 → seq ≡ next_seq_at (world_of s) m
            seq_so seq h = let l = log_is s is m there old old_is in omega (arith, h, l)

            sync_so : k ≡ next_sync (world_of s)
            sync_so = let l = length-map s.sent sync_in in omega (arith, k_is, l)

            go : (c : BlockState) (y : Blocked) → IsBlockAnswer s.keys old b c y
                → blocked_report m k y ≡ block_report m (next_seq_at (world_of s) m) (next_sync (world_of s)) c
            go Unknown blocked.Unknown t = refl
            go Already blocked.Already t = refl
            go (Waiting p) blocked.Waiting t = refl
            go (Whole p) (blocked.Published one) t =
                λ i. ReportValue.BlockPublished m (seq_so one.seq t.0 i) (sync_so i)
            go _ _ t = absurd t

      -- The publication that the block completed is noted.
      pub noted_so : (n later : Touched) → NotesAny n (blocked_pair m x) later
          → (p : Process) → block_at (world_of s) m process index content ≡ Whole p
          → touches later (m, length (member (world_of s) m).log + 1) ≡ true
      noted_so n later notes p whole = go becomes x tells notes (sym state_is ∙ whole) where
        go : (c : BlockState) (y : Blocked) → IsBlockAnswer s.keys old b c y → NotesAny n (blocked_pair m y) later
            → c ≡ Whole p → touches later (m, length (member (world_of s) m).log + 1) ≡ true
        go (Whole q) (blocked.Published one) t noted e =
            let l = log_is s is m there old old_is in
            let seq : length (member (world_of s) m).log + 1 ≡ one.seq = omega (arith, t.0, l) in
            ap (λ (k : ℕ). touches later (m, k)) seq ∙ noted.there
        go Unknown y t noted e = absurd cc
        go Already y t noted e = absurd cc
        go (Waiting q) y t noted e = absurd cc
        go _ _ t noted e = absurd t

      module _ (few : s.steps < 100000) (objects : CompletesAnObject becomes) (sent reserved : List SentPacket)
          (vector : List ℕ)
          (reserved_is : reserved ≡ s.sent) (vector_is : vector ≡ old.known)
          (sent_from : sent ≡ after_blocked m vector x reserved) where
        abbrev after : GroupState
        after = record s { members = set s.members m b; sent = sent; steps = s.steps + 1 }

        -- The world is what the group makes of it, and sound.
        pub record IsAfter (w : World) : Type 0 where
          pub world : world_of after ≡ w
          pub state : IsConsistentState after

        -- nothing is sent
        unsent : (w : World) → w ≡ after_event (drawing draw) (world_of s) event
            → IsConsistentMember s.keys (logs_around s.members) b → b.number ≡ m → sent ≡ s.sent → world_of after ≡ w
            → IsAfter w
        unsent w w_is true_ number same e = record {
          world = e;
          state =
              stepped_at s is few (drawing draw) (λ t. omega arith) event tt m there b number true_ sent s.time
              s.tally (subst (All (IsConsistentSync s.keys (logs_around s.members))) (sym same) is.sent) (e ∙ w_is);
        }

        -- the member is as before
        still : world_of s ≡ after_event (drawing draw) (world_of s) event → b ≡ old → sent ≡ s.sent
            → IsAfter (world_of s)
        still w_is same none =
            let back : set s.members m b ≡ s.members =
            ap (set s.members m) (same ∙ old_at s is m there old old_is) ∙ set-get_or s.members m nobody in
            unsent (world_of s) w_is
            (subst (IsConsistentMember s.keys (logs_around s.members)) (sym same) (consistent s is m there old old_is))
            (ap (λ (a : MemberState). a.number) same ∙ number_is s is m there old old_is) none
            (λ i. world_of (record s { members = back i; sent = none i; steps = s.steps + 1 }))

        -- another block is missing
        waits : (p : Process) → with_process_at (world_of s) m process p ≡ after_event (drawing draw) (world_of s) event
            → b ≡ member_keeps process p old → sent ≡ s.sent → IsAfter (with_process_at (world_of s) m process p)
        waits p w_is keeps none =
            unsent (with_process_at (world_of s) m process p) w_is
            (subst (IsConsistentMember s.keys (logs_around s.members)) (sym keeps)
            (inserts_consistent s.keys (logs_around s.members) (with_process process p old.insertions) old
            (consistent s is m there old old_is)))
            (ap (λ (a : MemberState). a.number) keeps ∙ number_is s is m there old old_is) none
            ((λ i. world_of (record s { members = set s.members m (keeps i); sent = none i; steps = s.steps + 1 }))
            ∙ keeping_world s is m there old old_is process p)

        -- the object is published by the member with a closed process
        publishes : (p : Process) → length (indexes p) ≤ 200 → IsObject (object_of p) → length old.log < 65535
            → b ≡ own.member_publishes_whole s.keys process s.time n p old → (y : Blocked)
            → IsBlockAnswer s.keys old b (Whole p) y → sent ≡ after_blocked m old.known y s.sent
            → IsAfter (after_publish (drawing draw) (with_process_at (world_of s) m process (closed p)) m
            (Offers (object_of p)))
        publishes p short object less e (blocked.Published one) t so =
            let now : MemberState = member_keeps process (closed p) old in
            let s1 : GroupState = record s { members = set s.members m now } in
            let is1 : IsConsistentState s1 =
            keeping_state s is m there old old_is process (closed p) short in
            let there1 : m < length s1.members = let l = length-set s.members m now in omega (arith, there, l) in
            let now_is : now ≡ get_or s1.members m now = sym (get_or-set_same s.members m now now there) in
            let b_now : b ≡ member_publishes s1.keys (Offers (object_of p)) s1.time n now =
            e
            ∙ ap (λ (c : Bool). cond c (member_publishes s.keys (Offers (object_of p)) s.time n now) old)
            (lt-ltb (length old.log) 65535 less) in
            let received : sent ≡ s1.sent ++ _ =
            sent_is s1 is1 m there1 now now_is b draw n n_is (Offers (object_of p)) b_now sent s.sent old.known one.seq
            one.sync.items refl refl t.0 t.1 so in
            let twice : set s1.members m b ≡ set s.members m b = set-set s.members m now b in
            record {
              world =
                  ap (λ (ms : List MemberState). world_of (record s { members = ms; sent = sent; steps = s.steps + 1 }))
                  (sym twice)
                  ∙ world_sent s1 is1 m there1 now now_is b draw n n_is (Offers (object_of p)) b_now sent received
                  ∙ ap (λ (w : World). after_publish (drawing draw) w m (Offers (object_of p)))
                  (keeping_world s is m there old old_is process (closed p));
              state =
                  subst (λ (ms : List MemberState). IsConsistentState
                  (record s { members = ms; sent = sent; steps = s.steps + 1 }))
                  twice
                  (state_sent s1 is1 m there1 now now_is b draw n n_is (Offers (object_of p)) b_now few object less
                  sent received);
            }
        publishes p short object less e _ t so = absurd t

        pub after_so : IsAfter (after_event (drawing draw) (world_of s) event)
        after_so =
            subst IsAfter (sym is_event)
            (go becomes short_blocks (sym is_event) room b_is objects x tells
            (sent_from ∙ (λ i. after_blocked m (vector_is i) x (reserved_is i)))) where
              is_event : after_event (drawing draw) (world_of s) event
                  ≡ after_block (drawing draw) (world_of s) m process becomes
              is_event = ap (after_block (drawing draw) (world_of s) m process) state_is

              within : IsMemberWithin s.steps (in_group old)
              within =
                  subst (λ (a : MemberState). IsMemberWithin s.steps (in_group a))
                  (sym (old_at s is m there old old_is))
                  (member_within s is m)

              short_blocks : HasFewBlocks becomes
              short_blocks =
                  few_in index content (value_of nat_cmp old.insertions.processes process) (within.blocks process)

              go : (c : BlockState) → HasFewBlocks c
                  → after_block (drawing draw) (world_of s) m process c ≡ after_event (drawing draw) (world_of s) event
                  → (IsTrue (is_last c) → length old.log < 65535) → b ≡ own.after_block s.keys process s.time n old c
                  → CompletesAnObject c
                  → (y : Blocked) → IsBlockAnswer s.keys old b c y → sent ≡ after_blocked m old.known y s.sent
                  → IsAfter (after_block (drawing draw) (world_of s) m process c)
              go (Whole p) short w_is h e object y t so = publishes p short object (h refl) e y t so
              go Unknown short w_is h e object blocked.Unknown t so = still w_is e so
              go Already short w_is h e object blocked.Already t so = still w_is e so
              go (Waiting p) short w_is h e object blocked.Waiting t so = waits p w_is e so
              go _ short w_is h e object _ t so = absurd t
