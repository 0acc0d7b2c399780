-- What a publication makes of a world.
use Rattle.std.proofs.Common.{◌≡◌, ◌⊎◌, inl, inr, ℕ, ◌+◌, ◌≤◌, ◌<◌, Bool, true, false, cond, not, Option, Some, None}
use Rattle.std.proofs.Common.{Result, Err, List}
use Rattle.std.proofs.Common.{[], ◌∷◌, ◌++◌, map, length, get_or, set, refl, sym, ap, ◌∙◌, subst, arith}
use Rattle.std.specs.Prelude.{nat_le, ◌↔◌}
use Rattle.std.specs.List.{All}
use Rattle.std.proofs.lemmas.Bool.{false_from_ne_true, cases_eq, leb-true, le-leb}
use Rattle.std.proofs.lemmas.List.{length-append, length-set, map-set, map-append, get_or-set_same, get_or-set_other}
use Rattle.std.proofs.lemmas.List.Elements.{All-append}
use Rattle.bench_net.specs.SentList.{SentPacket, sent_packet}
use Rattle.repo_object.specs.Objects.{NamedContents, Post, IsPost}
use Rattle.repo_object.specs.Objects.Post.{Offers, Withdraws}
use Rattle.group_model.specs.Publications.{Logs, last_of, has_unwithdrawn}
use Rattle.group_model.specs.Member.{Member}
use Rattle.group_model.specs.Events.{SyncInterest, Event}
use Rattle.group_model.specs.World.{Environment, World, no_member, member, logs_of}
use Rattle.group_model.specs.Steps.{drawn, after_publish, after_event}
use Rattle.group_model.specs.Changes as group
use Rattle.group_model.specs.Limits.{IsInRange, IsWithinSteps}
use Rattle.group_model.specs.Refusals.{Refusal, unless, if_spent, refusal}
use Rattle.group_model.specs.Sound.{IsConsistentVector}
use Rattle.repo_member.specs.declared.refusals.PublishRefusal.{PublishRefusal}
use Rattle.repo_member.specs.declared.refusals.PublishRefusal.TheVariants.{NumbersSpent, NoMemory}
use Rattle.repo_member.specs.declared.refusals.WithdrawRefusal.{WithdrawRefusal}
use Rattle.repo_member.specs.declared.refusals.WithdrawRefusal.TheVariants as withdrawing
use Rattle.repo_member.specs.MemberState.{MemberState, next_seq, member_publishes}
use Rattle.repo_member.specs.InGroup.{in_group, AreLogs, GrowInto}
use Rattle.repo_member.specs.ConsistentMembers.{IsConsistentMember}
use Rattle.repo_member.specs.Verdicts.{sync_of}
use Rattle.repo_member.proofs.PublicLaws.{publishes_alike, consistent_stores, logs_grow, publishes_consistent}
use Rattle.repo_member.proofs.PublicLaws.{others_publish}
use Rattle.repo_member.proofs.PublicLaws.{logs_have_grown}
use Rattle.repo_mirror.specs.ConsistentMirrors.{IsConsistentMirror}
use Rattle.repo_mirror.proofs.PublicLaws.{mirrors_grow_consistent}
use Rattle.bench_world.specs.declared.event.EventError.TheVariants as fault
use Rattle.bench_world.specs.Steps.{IsFaultOf}
use Rattle.bench_world.specs.Withdrawing.{withdraw_fault}
use Rattle.bench_world.specs.Worlds.{GroupState, IsConsistentState, IsConsistentSync, nobody, state_at, in_groups}
use Rattle.bench_world.specs.Worlds.{logs_around}
use Rattle.bench_world.specs.Worlds.{sync_in, world_of, drawing}
use Rattle.bench_world.proofs.States.{mirrors_still}
use Rattle.bench_world.proofs.States.{consistent, number_is, member_is, among, among_logs, set_numbers, within_more}
use Rattle.bench_world.proofs.Timers.{all_one}

-- ---- the event of a publication

abbrev event_of : ℕ → Post → Event
event_of m (Offers object) = Event.Publish m object
event_of m (Withdraws seq) = Event.Withdraw m seq

event_is : (env : Environment) (w : World) (m : ℕ) (post : Post)
    → after_event env w (event_of m post) ≡ after_publish env w m post
event_is env w m (Offers object) = refl
event_is env w m (Withdraws seq) = refl

in_range : (m n : ℕ) (post : Post) → IsPost n post → IsInRange (event_of m post)
in_range m n (Offers object) is = is.few
in_range m n (Withdraws seq) is = tt

-- ---- one member

module _ (s : GroupState) (is : IsConsistentState s) (m : ℕ) (there : m < length s.members) (old : MemberState)
    (old_is : old ≡ get_or s.members m old) where
  log_at : get_or (logs_around s.members) m [] ≡ old.log
  log_at =
      ap (λ (k : ℕ). get_or (logs_around s.members) k []) (sym (number_is s is m there old old_is))
      ∙ (consistent s is m there old old_is).log

  pub log_is : length (member (world_of s) m).log ≡ length old.log
  log_is = ap (λ (x : Member). length x.log) (member_is s is m there old old_is)

  spent_so : 65535 ≤ length old.log → if_spent (world_of s) m ≡ Some Refusal.NumbersSpent
  spent_so most =
      let l = log_is in
      ap (λ (c : Bool). unless (not c) Refusal.NumbersSpent)
      (le-leb 65535 (length (member (world_of s) m).log) (omega (arith, most, l)))

  -- There is a number for a publication.
  pub not_spent : length old.log < 65535 → if_spent (world_of s) m ≡ None
  not_spent room =
      ap (λ (c : Bool). unless (not c) Refusal.NumbersSpent)
      (false_from_ne_true (nat_le 65535 (length (member (world_of s) m).log)) (λ h.
      let a : 65535 ≤ length (member (world_of s) m).log = leb-true 65535 (length (member (world_of s) m).log) h in
      let e = log_is in
      omega (arith, a, e, room)))

  -- A publication is refused where all numbers are spent.
  pub refused_so : {A : Type 0} (draw : ℕ → ℕ → ℕ) (object : NamedContents) (r : Result A PublishRefusal)
      (e : PublishRefusal)
      → r ≡ Err e
      → ((log : ℕ) → (r ≡ Err (NumbersSpent log)) ↔ ((log ≡ length old.log) × (65535 ≤ length old.log)))
      → (e ≡ NoMemory) ⊎ (refusal (drawing draw) (world_of s) (Event.Publish m object) ≡ Some Refusal.NumbersSpent)
  refused_so draw object r NoMemory is_err spent = inl refl
  refused_so draw object r (NumbersSpent log) is_err spent = inr (spent_so ((spent log).0 is_err).1)

  -- ---- a withdrawal

  module _ (seq : ℕ) where
    unwithdrawn : has_unwithdrawn (member (world_of s) m).log seq ≡ has_unwithdrawn old.log seq
    unwithdrawn = ap (λ (x : Member). has_unwithdrawn x.log seq) (member_is s is m there old old_is)

    by_object : (b : Bool) → has_unwithdrawn old.log seq ≡ b → (draw : ℕ → ℕ → ℕ)
        → refusal (drawing draw) (world_of s) (Event.Withdraw m seq)
        ≡ cond b (if_spent (world_of s) m) (Some Refusal.NoSuchNumber)
    by_object b e draw =
        ap (λ (c : Bool). cond c (if_spent (world_of s) m) (Some Refusal.NoSuchNumber)) (unwithdrawn ∙ e)

    pub withdraw_taken : (draw : ℕ → ℕ → ℕ) → has_unwithdrawn old.log seq ≡ true → length old.log < 65535
        → refusal (drawing draw) (world_of s) (Event.Withdraw m seq) ≡ None
    withdraw_taken draw object room = by_object true object draw ∙ not_spent room

    abbrev IsWithoutObject : {A : Type 0} → Result A WithdrawRefusal → Type 0
    IsWithoutObject r =
        (n : ℕ) → (r ≡ Err (withdrawing.NoSuchNumber n)) ↔ ((n ≡ seq) × (has_unwithdrawn old.log seq ≡ false))

    abbrev IsSpent : {A : Type 0} → Result A WithdrawRefusal → Type 0
    IsSpent r =
        (log : ℕ)
        → (r ≡ Err (withdrawing.NumbersSpent log))
        ↔ ((has_unwithdrawn old.log seq ≡ true) × (log ≡ length old.log) × (65535 ≤ length old.log))

    -- It is refused where the member has no such object, and then where all numbers are spent.
    pub withdraw_refused : {A : Type 0} (draw : ℕ → ℕ → ℕ) (r : Result A WithdrawRefusal) (e : WithdrawRefusal)
        → r ≡ Err e → IsWithoutObject r → IsSpent r
        → IsFaultOf (refusal (drawing draw) (world_of s) (Event.Withdraw m seq)) (withdraw_fault e)
    withdraw_refused draw r withdrawing.NoMemory is_err none spent = tt
    withdraw_refused draw r (withdrawing.NoSuchNumber n) is_err none spent =
        subst (λ (o : Option Refusal). IsFaultOf o fault.NoSuchNumber)
        (sym (by_object false ((none n).0 is_err).1 draw)) refl
    withdraw_refused draw r (withdrawing.NumbersSpent log) is_err none spent =
        subst (λ (o : Option Refusal). IsFaultOf o fault.NumbersSpent)
        (sym (by_object true ((spent log).0 is_err).0 draw ∙ spent_so ((spent log).0 is_err).2)) refl

  -- ---- what is published

  pub seq_is : (seq : ℕ) → seq ≡ next_seq old → seq ≡ length (member (world_of s) m).log + 1
  seq_is seq e = let l = log_is in omega (arith, e, l)

  module _ (b : MemberState) (draw : ℕ → ℕ → ℕ) (n : ℕ) (n_is : n ≡ draw m old.machine.draws) (post : Post)
      (b_is : b ≡ member_publishes s.keys post s.time n old) where
    -- What was added is the sync Interest of what the member knows now.
    pub sent_is : (sent reserved : List SentPacket) (vector : List ℕ) (seq : ℕ) (sync : List ℕ) → reserved ≡ s.sent
        → vector ≡ old.known → seq ≡ next_seq old → sync ≡ sync_of s.keys old.number b.known
        → sent ≡ reserved ++ sent_packet m (set vector m seq) sync ∷ []
        → sent ≡ s.sent ++ sent_packet m b.known (sync_of s.keys m b.known) ∷ []
    sent_is sent reserved vector seq sync reserved_is vector_is seq_is_ sync_is e =
        let known : set vector m seq ≡ b.known =
        (λ i. set (vector_is i) (sym (number_is s is m there old old_is) i) (seq_is_ i))
        ∙ sym (ap (λ (a : MemberState). a.known) b_is) in
        let received : sync ≡ sync_of s.keys m b.known =
        sync_is ∙ ap (λ (k : ℕ). sync_of s.keys k b.known) (number_is s is m there old old_is) in
        e ∙ (λ i. reserved_is i ++ sent_packet m (known i) (received i) ∷ [])

    -- The member is what the group makes of it.
    published_member : in_group b
        ≡ group.publishes (drawn (drawing draw) (world_of s) m) s.time m post (member (world_of s) m)
    published_member =
        ap in_group b_is
        ∙ publishes_alike s.keys post s.time n old
        (consistent_stores s.keys (logs_around s.members) old (consistent s is m there old old_is)).in_order
        ∙ (λ i. group.publishes (n_is i) s.time (number_is s is m there old old_is i) post (in_group old))
        ∙ ap (λ (x : Member). group.publishes (draw m x.machine.draws) s.time m post x)
        (sym (member_is s is m there old old_is))

    abbrev packet : SentPacket
    packet = sent_packet m b.known (sync_of s.keys m b.known)

    published_world : world_of (record s {
      members = set s.members m b;
      sent = s.sent ++ sent_packet m b.known (sync_of s.keys m b.known) ∷ [];
      steps = s.steps + 1;
    })
        ≡ after_publish (drawing draw) (world_of s) m post
    published_world =
        let x : Member =
        group.publishes (drawn (drawing draw) (world_of s) m) s.time m post (member (world_of s) m) in
        let changed : in_groups (set s.members m b) ≡ set (in_groups s.members) m x =
        map-set in_group s.members m b ∙ ap (set (in_groups s.members) m) published_member in
        let known : b.known ≡ (get_or (set (in_groups s.members) m x) m no_member).known =
        ap (λ (y : Member). y.known)
        (published_member
        ∙ sym (get_or-set_same (in_groups s.members) m x no_member (among s is m there old old_is))) in
        let syncs : map sync_in (s.sent ++ packet ∷ [])
        ≡ map sync_in s.sent
        ++ record { sender = m; vector = (get_or (set (in_groups s.members) m x) m no_member).known } ∷ [] =
        map-append sync_in s.sent (packet ∷ [])
        ∙ ap
        (λ (v : List ℕ). map sync_in s.sent ++ (let p : SyncInterest = record { sender = m; vector = v } in p) ∷ [])
        known in
        λ i. record { members = changed i; sent = syncs i; time = s.time; issued = s.issued; tally = s.tally }

    pub world_sent : (sent : List SentPacket) → sent ≡ s.sent ++ sent_packet m b.known (sync_of s.keys m b.known) ∷ []
        → world_of (record s { members = set s.members m b; sent = sent; steps = s.steps + 1 })
        ≡ after_publish (drawing draw) (world_of s) m post
    world_sent sent e =
        ap
        (λ (ps : List SentPacket). world_of (record s { members = set s.members m b; sent = ps; steps = s.steps + 1 }))
        e
        ∙ published_world

    module _ (few : s.steps < 100000) (is_post : IsPost (next_seq old) post) (room : length old.log < 65535) where
      few_logged : length (get_or (logs_around s.members) m []) < 65535
      few_logged =
          let e : length (get_or (logs_around s.members) m []) ≡ length old.log = ap length log_at in
          omega (arith, e, room)

      its_number : IsPost (length (get_or (logs_around s.members) m []) + 1) post
      its_number = subst (λ (l : List Post). IsPost (length l + 1) post) (sym log_at) is_post

      abbrev later : Logs
      later = set (logs_around s.members) m (old.log ++ post ∷ [])

      logs_after : logs_around (set s.members m b) ≡ set (logs_around s.members) m (old.log ++ post ∷ [])
      logs_after =
          ap logs_of (map-set in_group s.members m b)
          ∙ map-set (λ (x : Member). x.log) (in_groups s.members) m (in_group b)
          ∙ ap (set (logs_around s.members) m) (ap (λ (a : MemberState). a.log) b_is)

      are_after : AreLogs s.keys later
      are_after =
          subst (AreLogs s.keys)
          (ap (λ (l : List Post). set (logs_around s.members) m (l ++ post ∷ [])) log_at)
          (logs_grow s.keys (logs_around s.members) m post is.are (among_logs s is m there old old_is) its_number
          few_logged)

      as_many : length later ≡ length (logs_around s.members)
      as_many = length-set (logs_around s.members) m (old.log ++ post ∷ [])

      grown : GrowInto (logs_around s.members) later
      grown =
          subst (GrowInto (logs_around s.members))
          (ap (λ (l : List Post). set (logs_around s.members) m (l ++ post ∷ [])) log_at)
          (logs_have_grown (logs_around s.members) m post (among_logs s is m there old old_is))

      now_consistent : IsConsistentMember s.keys later b
      now_consistent =
          subst (IsConsistentMember s.keys later) (sym b_is)
          (subst (λ (k : ℕ). IsConsistentMember s.keys (set (logs_around s.members) k (old.log ++ post ∷ []))
          (member_publishes s.keys post s.time n old)) (number_is s is m there old old_is)
          (publishes_consistent s.keys post s.time n (logs_around s.members) old (consistent s is m there old old_is)))

      others_consistent : (j : ℕ) → j < length s.members → (j ≡ m → ⊥)
          → IsConsistentMember s.keys later (state_at s.members j)
      others_consistent j l other =
          let number : (state_at s.members j).number ≡ j = is.numbers j l in
          let away : last_of later (state_at s.members j).number
          ≡ last_of (logs_around s.members) (state_at s.members j).number =
          ap (λ (log : List Post). length log)
          (get_or-set_other (logs_around s.members) m (state_at s.members j).number (old.log ++ post ∷ []) []
          (λ e. other (sym number ∙ e))) in
          others_publish s.keys (logs_around s.members) later (state_at s.members j) grown as_many away (is.members j l)

      all_consistent : (j : ℕ) → j < length (set s.members m b)
          → IsConsistentMember s.keys later (state_at (set s.members m b) j)
      all_consistent j l = elim (cases_eq j m) [
        | inl same ↦
            subst (IsConsistentMember s.keys later)
            (sym (ap (state_at (set s.members m b)) same ∙ get_or-set_same s.members m b nobody there)) now_consistent
        | inr other ↦
            subst (IsConsistentMember s.keys later) (sym (get_or-set_other s.members m j b nobody other))
            (others_consistent j
            (let k : length (set s.members m b) ≡ length s.members = length-set s.members m b in omega (arith, l, k))
            other)
      ]

      -- A vector that reports no more than there was reports no more than there is.
      still_consistent : (v : List ℕ) → IsConsistentVector (logs_around s.members) v → IsConsistentVector later v
      still_consistent v t = record { width = t.width ∙ sym as_many; no_more = λ p. more p (t.no_more p) } where
        more : (p : ℕ) → get_or v p 0 ≤ last_of (logs_around s.members) p → get_or v p 0 ≤ last_of later p
        more p h = elim (cases_eq p m) [
          | inl same ↦
              let now : last_of later p ≡ length old.log + 1 =
              ap (λ (k : ℕ). last_of later k) same
              ∙ ap (λ (log : List Post). length log)
              (get_or-set_same (logs_around s.members) m (old.log ++ post ∷ []) []
              (among_logs s is m there old old_is))
              ∙ length-append old.log (post ∷ []) in
              let before : last_of (logs_around s.members) p ≡ length old.log =
              ap (λ (k : ℕ). last_of (logs_around s.members) k) same
              ∙ ap (λ (log : List Post). length log) log_at in
              omega (arith, h, now, before)
          | inr other ↦
              let away : last_of later p ≡ last_of (logs_around s.members) p =
              ap (λ (log : List Post). length log)
              (get_or-set_other (logs_around s.members) m p (old.log ++ post ∷ []) [] other) in
              omega (arith, h, away)
        ]

      still_sent : All (IsConsistentSync s.keys later) s.sent
      still_sent k d l = record {
        sender = (is.sent k d l).sender;
        vector = still_consistent (get_or s.sent k d).vector (is.sent k d l).vector;
        octets = (is.sent k d l).octets;
      }

      -- A member's publication leaves the world sound.
      pub state_sent : (sent : List SentPacket) → sent ≡ s.sent ++ sent_packet m b.known (sync_of s.keys m b.known) ∷ []
          → IsConsistentState (record s { members = set s.members m b; sent = sent; steps = s.steps + 1 })
      state_sent sent e = record {
        are = subst (AreLogs s.keys) (sym logs_after) are_after;
        numbers =
            set_numbers s.members m there b (ap (λ (a : MemberState). a.number) b_is
            ∙ number_is s is m there old old_is)
            is.numbers;
        members =
            subst (λ (ls : Logs).
            (j : ℕ) → j < length (set s.members m b) → IsConsistentMember s.keys ls (state_at (set s.members m b) j))
            (sym logs_after) all_consistent;
        sent =
            subst (λ (ls : Logs). All (IsConsistentSync s.keys ls) sent) (sym logs_after)
            (subst (All (IsConsistentSync s.keys later)) (sym e)
            (All-append (IsConsistentSync s.keys later) s.sent (packet ∷ []) still_sent
            (all_one (IsConsistentSync s.keys later) packet (record {
              sender = let w = is.are.width in let l = among_logs s is m there old old_is in omega (arith, w, l);
              vector = record { width = now_consistent.sound.width; no_more = now_consistent.sound.known };
              octets = refl;
            }))));
        within =
            subst (IsWithinSteps (s.steps + 1))
            (event_is (drawing draw) (world_of s) m post ∙ sym (world_sent sent e))
            (within_more s is few (drawing draw) (λ t. omega arith) (event_of m post)
            (in_range m (next_seq old) post is_post));
        steps = omega (arith, few);
        mirrors =
            subst (λ (ls : Logs). All (IsConsistentMirror s.keys ls) s.mirrors) (sym logs_after)
            (λ k d l. mirrors_grow_consistent s.keys (logs_around s.members) later (get_or s.mirrors k d) grown as_many
            (is.mirrors k d l));
        mirrors_tried = mirrors_still s is (s.steps + 1) (omega arith);
        mirrors_few = is.mirrors_few;
      }
