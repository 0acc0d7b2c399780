-- What a member's timer, a restart and time make of a world.
use Rattle.std.proofs.Common.{◌≡◌, ℕ, zero, suc, ◌+◌, ◌≤◌, ◌<◌, List, [], ◌∷◌, ◌++◌, map, length, get_or, set, refl}
use Rattle.std.proofs.Common.{sym, ap, ◌∙◌, subst, arith}
use Rattle.std.specs.List.{All}
use Rattle.std.proofs.lemmas.List.{length-map, map-set, map-append, get_or-set_same, set-get_or}
use Rattle.std.proofs.lemmas.List.Elements.{All-append}
use Rattle.bench_net.specs.SentList.{SentPacket, sent_packet}
use Rattle.svs_sync.specs.declared.fired.Fired.{Fired}
use Rattle.svs_sync.specs.declared.fired.Fired.TheVariants as fired
use Rattle.svs_sync.specs.SyncStates.{when_fired}
use Rattle.group_model.specs.Member.{Member}
use Rattle.group_model.specs.Events.{SyncInterest, Event}
use Rattle.group_model.specs.World.{World, no_member, member}
use Rattle.group_model.specs.Steps.{timer_at, after_fire, after_restart, drawn}
use Rattle.group_model.specs.Changes as group
use Rattle.repo_member.specs.declared.member.syncing.Fire.{Fire}
use Rattle.repo_member.specs.declared.member.syncing.Fire.TheVariants as does
use Rattle.repo_member.specs.Fires.{IsFireAnswer}
use Rattle.repo_member.specs.MemberState.{MemberState, member_fires, member_restarts}
use Rattle.repo_member.specs.InGroup.{in_group}
use Rattle.repo_member.specs.Verdicts.{sync_of}
use Rattle.repo_member.specs.ConsistentMembers.{IsConsistentMember}
use Rattle.repo_member.proofs.PublicLaws.{fire_is_event, fires_consistent, restarts_consistent}
use Rattle.bench_world.specs.EventValues.{ReportValue, fired_report}
use Rattle.bench_world.specs.Timers.{after_firing, fire_report}
use Rattle.bench_world.specs.Worlds.{GroupState, IsConsistentState, IsConsistentSync, in_groups, logs_around, sync_in}
use Rattle.bench_world.specs.Worlds.{world_of}
use Rattle.bench_world.specs.Worlds.{drawing}
use Rattle.bench_world.proofs.States.{consistent, number_is, member_is, among, in_world, stepped, stepped_at}

pub all_one : {A : Type 0} (P : A → Type 0) (x : A) → P x → All P (x ∷ [])
all_one P x h zero d l = h
all_one P x h (suc k) d l = absurd (omega (arith, l))

-- ---- time

pub later_state : (s : GroupState) → IsConsistentState s → s.steps < 100000 → (ms : ℕ) → ms ≤ 1000000000
    → IsConsistentState (record s { time = s.time + ms; steps = s.steps + 1 })
later_state s is few ms short =
    stepped s is few (drawing (λ _ _. 0)) (λ t. omega arith) (Event.Advance ms) short s.members s.sent (s.time + ms)
    s.tally refl is.numbers is.members is.sent refl

module _ (s : GroupState) (is : IsConsistentState s) (m : ℕ) (there : m < length s.members) (old : MemberState)
    (old_is : old ≡ get_or s.members m old) where
  timer_is : timer_at (world_of s) m ≡ when_fired s.time old.known old.machine
  timer_is = ap (λ (x : Member). when_fired s.time x.known x.machine) (member_is s is m there old old_is)

  pub fires_so : (n : ℕ) (fire : Fire) (received : ReportValue)
      → IsFireAnswer (when_fired s.time old.known old.machine) (sync_of s.keys old.number old.known) fire
      → received ≡ fire_report m n fire → n ≡ length s.sent + 1
      → received ≡ fired_report m (length (map sync_in s.sent) + 1) (timer_at (world_of s) m)
  fires_so n fire received tells e n_is =
      e
      ∙ go (when_fired s.time old.known old.machine) fire tells
      ∙ (λ i. fired_report m (count i) (sym timer_is i)) where
        count : n ≡ length (map sync_in s.sent) + 1
        count = let k = length-map s.sent sync_in in omega (arith, n_is, k)

        go : (x : Fired) (f : Fire) → IsFireAnswer x (sync_of s.keys old.number old.known) f
            → fire_report m n f ≡ fired_report m n x
        go fired.Early does.Early t = refl
        go fired.Quiet does.Quiet t = refl
        go fired.Send (does.Sent sync) t = refl
        go fired.Early does.Quiet t = absurd t
        go fired.Early (does.Sent sync) t = absurd t
        go fired.Quiet does.Early t = absurd t
        go fired.Quiet (does.Sent sync) t = absurd t
        go fired.Send does.Early t = absurd t
        go fired.Send does.Quiet t = absurd t

  module _ (b : MemberState) (draw : ℕ → ℕ → ℕ) (n : ℕ) (n_is : n ≡ draw m old.machine.draws) where
    drawn_is : n ≡ drawn (drawing draw) (world_of s) m
    drawn_is = n_is ∙ ap (λ (x : Member). draw m x.machine.draws) (sym (member_is s is m there old old_is))

    -- ---- a restart

    module _ (b_is : b ≡ member_restarts s.time n old) where
      pub restarted_world : world_of (record s { members = set s.members m b; steps = s.steps + 1 })
          ≡ after_restart (drawing draw) (world_of s) m
      restarted_world =
          ap (λ (ms : List Member). let w : World = record (world_of s) { members = ms } in w)
          (map-set in_group s.members m b
          ∙ ap (set (in_groups s.members) m)
          (ap in_group b_is ∙ (λ i. group.restarts (drawn_is i) s.time (sym (member_is s is m there old old_is) i))))

      pub restarted_state : s.steps < 100000
          → IsConsistentState (record s { members = set s.members m b; steps = s.steps + 1 })
      restarted_state few =
          stepped_at s is few (drawing draw) (λ t. omega arith) (Event.Restart m) tt m there b
          (ap (λ (a : MemberState). a.number) b_is ∙ number_is s is m there old old_is)
          (subst (IsConsistentMember s.keys (logs_around s.members)) (sym b_is)
          (restarts_consistent s.keys (logs_around s.members) s.time n old (consistent s is m there old old_is)))
          s.sent s.time s.tally is.sent restarted_world

    -- ---- a timer

    module _ (b_is : b ≡ member_fires s.time n old) (fire : Fire)
        (tells : IsFireAnswer (when_fired s.time old.known old.machine) (sync_of s.keys old.number old.known) fire)
        (sent reserved : List SentPacket) (vector : List ℕ)
        (reserved_is : reserved ≡ s.sent) (vector_is : vector ≡ old.known)
        (sent_is : sent ≡ after_firing m vector fire reserved) where
      sent_so : sent ≡ after_firing m old.known fire s.sent
      sent_so = sent_is ∙ (λ i. after_firing m (vector_is i) fire (reserved_is i))

      now_member : in_group b ≡ member (after_fire (drawing draw) (world_of s) m (timer_at (world_of s) m)) m
      now_member =
          ap in_group b_is
          ∙ ap (λ (k : ℕ). in_group (member_fires s.time k old)) drawn_is
          ∙ sym (fire_is_event (drawing draw) (world_of s) m old (in_world s is m there old old_is))

      -- one member changes, if any does
      members_so : (x : Fired)
          → set (in_groups s.members) m (member (after_fire (drawing draw) (world_of s) m x) m)
          ≡ (after_fire (drawing draw) (world_of s) m x).members
      members_so fired.Early = set-get_or (in_groups s.members) m no_member
      members_so fired.Quiet =
          ap (set (in_groups s.members) m)
          (get_or-set_same (in_groups s.members) m _ no_member (among s is m there old old_is))
      members_so fired.Send =
          ap (set (in_groups s.members) m)
          (get_or-set_same (in_groups s.members) m _ no_member (among s is m there old old_is))

      syncs_so : (x : Fired) (f : Fire) → IsFireAnswer x (sync_of s.keys old.number old.known) f
          → map sync_in (after_firing m old.known f s.sent) ≡ (after_fire (drawing draw) (world_of s) m x).sent
      syncs_so fired.Early does.Early t = refl
      syncs_so fired.Quiet does.Quiet t = refl
      syncs_so fired.Send (does.Sent sync) t =
          let x : Member = group.resets (drawn (drawing draw) (world_of s) m) s.time (member (world_of s) m) in
          let known : old.known ≡ (get_or (set (in_groups s.members) m x) m no_member).known =
          ap (λ (y : Member). y.known) (sym (member_is s is m there old old_is))
          ∙ sym (ap (λ (y : Member). y.known)
          (get_or-set_same (in_groups s.members) m x no_member (among s is m there old old_is))) in
          map-append sync_in s.sent (sent_packet m old.known sync.items ∷ [])
          ∙ ap
          (λ (v : List ℕ). map sync_in s.sent ++ (let p : SyncInterest = record { sender = m; vector = v } in p) ∷ [])
          known
      syncs_so fired.Early does.Quiet t = absurd t
      syncs_so fired.Early (does.Sent sync) t = absurd t
      syncs_so fired.Quiet does.Early t = absurd t
      syncs_so fired.Quiet (does.Sent sync) t = absurd t
      syncs_so fired.Send does.Early t = absurd t
      syncs_so fired.Send does.Quiet t = absurd t

      rest_so : (ms : List Member) (ss : List SyncInterest) (x : Fired)
          → ms ≡ (after_fire (drawing draw) (world_of s) m x).members
          → ss ≡ (after_fire (drawing draw) (world_of s) m x).sent
          → (let w : World = record (world_of s) { members = ms; sent = ss } in w)
          ≡ after_fire (drawing draw) (world_of s) m x
      rest_so ms ss fired.Early a e = λ i. record (world_of s) { members = a i; sent = e i }
      rest_so ms ss fired.Quiet a e = λ i. record (world_of s) { members = a i; sent = e i }
      rest_so ms ss fired.Send a e = λ i. record (world_of s) { members = a i; sent = e i }

      pub fired_world : world_of (record s { members = set s.members m b; sent = sent; steps = s.steps + 1 })
          ≡ after_fire (drawing draw) (world_of s) m (timer_at (world_of s) m)
      fired_world = rest_so (in_groups (set s.members m b)) (map sync_in sent) (timer_at (world_of s) m)
          (map-set in_group s.members m b ∙ ap (set (in_groups s.members) m) now_member
          ∙ members_so (timer_at (world_of s) m))
          (ap (map sync_in) sent_so
          ∙ syncs_so (timer_at (world_of s) m) fire
          (subst (λ (x : Fired). IsFireAnswer x (sync_of s.keys old.number old.known) fire) (sym timer_is) tells))

      all_sent : (x : Fired) (f : Fire) → IsFireAnswer x (sync_of s.keys old.number old.known) f
          → All (IsConsistentSync s.keys (logs_around s.members)) (after_firing m old.known f s.sent)
      all_sent x does.Early t = is.sent
      all_sent x does.Quiet t = is.sent
      all_sent fired.Send (does.Sent sync) t =
          let at : IsConsistentMember s.keys (logs_around s.members) old = consistent s is m there old old_is in
          All-append (IsConsistentSync s.keys (logs_around s.members)) s.sent (sent_packet m old.known sync.items ∷ [])
          is.sent (all_one (IsConsistentSync s.keys (logs_around s.members)) (sent_packet m old.known sync.items)
          (record {
            sender =
                let w = is.are.width in
                let l = length-map (in_groups s.members) (λ (x : Member). x.log) in
                let a = among s is m there old old_is in omega (arith, w, l, a);
            vector = record { width = at.sound.width; no_more = at.sound.known };
            octets = t ∙ ap (λ (k : ℕ). sync_of s.keys k old.known) (number_is s is m there old old_is);
          }))
      all_sent fired.Early (does.Sent sync) t = absurd t
      all_sent fired.Quiet (does.Sent sync) t = absurd t

      pub fired_state : s.steps < 100000
          → IsConsistentState (record s { members = set s.members m b; sent = sent; steps = s.steps + 1 })
      fired_state few =
          stepped_at s is few (drawing draw) (λ t. omega arith) (Event.Fire m) tt m there b
          (ap (λ (a : MemberState). a.number) b_is ∙ number_is s is m there old old_is)
          (subst (IsConsistentMember s.keys (logs_around s.members)) (sym b_is)
          (fires_consistent s.keys (logs_around s.members) s.time n old (consistent s is m there old old_is)))
          sent s.time s.tally
          (subst (All (IsConsistentSync s.keys (logs_around s.members))) (sym sent_so)
          (all_sent (when_fired s.time old.known old.machine) fire tells)) fired_world
