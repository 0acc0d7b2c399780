-- What octets that a member hears make of a world.
use Rattle.std.proofs.Common.{◌≡◌, ◌⊎◌, inl, inr, ℕ, ◌+◌, ◌<◌, ◌==◌, Bool, true, false, cond, ◌&&◌, ◌||◌, List, [], ◌∷◌}
use Rattle.std.proofs.Common.{map, length, get_or, set, Some, None, refl, sym, ap, ◌∙◌, subst, arith}
use Rattle.std.specs.Prelude.{nat_lt, slice_index, Result, Ok, Err}
use Rattle.std.specs.Cmp.{both_ways}
use Rattle.std.specs.List.{All, list_any}
use Rattle.std.specs.Str.{bytes_eq}
use Rattle.std.proofs.lemmas.Bool.{true≢false, eq-eqb, eqb-true, or_cases, and_parts}
use Rattle.std.proofs.lemmas.List.{map-set}
use Rattle.std.proofs.lemmas.List.Elements.{All-head, All-tail}
use Rattle.std.proofs.lemmas.Slice.Eq.{bytes_eq-Decides}
use Rattle.bench_net.specs.SentList.{SentPacket, was_sent}
use Rattle.svs_sync.specs.declared.sync_refusal.SyncRefusal.{SyncRefusal}
use Rattle.svs_sync.specs.declared.mode.Mode.{Mode}
use Rattle.svs_sync.specs.Suppression.{mode_of}
use Rattle.group_model.specs.Publications.{Logs}
use Rattle.group_model.specs.Member.{Member}
use Rattle.group_model.specs.Events.{SyncInterest, Event}
use Rattle.group_model.specs.World.{Environment, World, member}
use Rattle.group_model.specs.Steps.{exceeds_log, after_deliver, after_hear, hear_outcome, mode_at, drawn}
use Rattle.group_model.specs.Refusals.{Refusal, has_sent, unless, if_unsent}
use Rattle.group_model.specs.Changes as group
use Rattle.group_model.specs.Sound.{IsConsistentVector}
use Rattle.repo_member.specs.declared.refusals.HearRefusal.{HearRefusal}
use Rattle.repo_member.specs.declared.refusals.HearRefusal.TheVariants as hear
use Rattle.repo_member.specs.Groups.{GroupKeys}
use Rattle.repo_member.specs.MemberState.{MemberState, member_hears}
use Rattle.repo_member.specs.InGroup.{in_group}
use Rattle.repo_member.specs.ConsistentMembers.{IsConsistentMember}
use Rattle.repo_member.proofs.PublicLaws.{hears_consistent}
use Rattle.bench_world.specs.declared.event.EventError.{EventError}
use Rattle.bench_world.specs.declared.event.EventError.TheVariants as fault
use Rattle.bench_world.specs.Worlds.{GroupState, IsConsistentState, IsConsistentSync, in_groups, logs_around, sync_in}
use Rattle.bench_world.specs.Worlds.{world_of}
use Rattle.bench_world.specs.Worlds.{drawing}
use Rattle.bench_world.specs.Readings.{read_as}
use Rattle.bench_world.specs.Hearing.{accepted_sync}
use Rattle.bench_world.specs.Steps.{IsFaultOf}
use Rattle.bench_world.specs.EventValues.{ReportValue, mode_report, heard_as, hear_report}
use Rattle.bench_world.proofs.States.{consistent, number_is, member_is, member_set, stepped_at}

abbrev made : ℕ × List ℕ → SyncInterest
made received = record { sender = received.0; vector = received.1 }

-- ---- what was sent

same_test : (sender : ℕ) (v : List ℕ) (p : SentPacket)
    → ((sender == p.sender) && bytes_eq v p.vector) ≡ ((p.sender == sender) && bytes_eq p.vector v)
same_test sender v p =
    let one : (sender == p.sender) ≡ (p.sender == sender) =
    both_ways (sender == p.sender) (p.sender == sender) (λ h. eq-eqb p.sender sender (sym (eqb-true sender p.sender h)))
    (λ h. eq-eqb sender p.sender (sym (eqb-true p.sender sender h))) in
    let two : bytes_eq v p.vector ≡ bytes_eq p.vector v =
    both_ways (bytes_eq v p.vector) (bytes_eq p.vector v)
    (λ h. (bytes_eq-Decides p.vector v).1 (sym ((bytes_eq-Decides v p.vector).0 h)))
    (λ h. (bytes_eq-Decides v p.vector).1 (sym ((bytes_eq-Decides p.vector v).0 h))) in
    λ i. one i && two i

sent_alike : (s : GroupState) (sender : ℕ) (v : List ℕ)
    → was_sent sender v s.sent ≡ has_sent (world_of s) (record { sender = sender; vector = v })
sent_alike s sender v = go s.sent where
  go : (ps : List SentPacket)
      → was_sent sender v ps
      ≡ list_any (λ (x : SyncInterest). x.sender == sender && bytes_eq x.vector v) (map sync_in ps)
  go [] = refl
  go (p ∷ ps) = let head = same_test sender v p in let tail = go ps in λ i. head i || tail i

sent_vector : (g : GroupKeys) (logs : Logs) (sender : ℕ) (v : List ℕ) (ps : List SentPacket)
    → was_sent sender v ps ≡ true → All (IsConsistentSync g logs) ps → IsConsistentVector logs v
sent_vector g logs sender v [] h all = absurd (true≢false (sym h))
sent_vector g logs sender v (p ∷ ps) h all =
    elim (or_cases ((sender == p.sender) && bytes_eq v p.vector) (was_sent sender v ps) h) [
      | inl here ↦
          let both = and_parts (sender == p.sender) (bytes_eq v p.vector) here in
          subst (IsConsistentVector logs) (sym ((bytes_eq-Decides v p.vector).0 both.1))
          (All-head (IsConsistentSync g logs) p ps all).vector
      | inr later ↦ sent_vector g logs sender v ps later (All-tail (IsConsistentSync g logs) p ps all)
    ]

-- ---- the world

-- What is reported of octets by the verdict on them.
abbrev pub hears_received : Environment → World → ℕ → Result (ℕ × List ℕ) SyncRefusal → ReportValue
hears_received env w m r = hear_report m r (hear_outcome env w m (read_as r))

module _ (s : GroupState) (is : IsConsistentState s) (m : ℕ) (there : m < length s.members) (old : MemberState)
    (old_is : old ≡ get_or s.members m old) (r : Result (ℕ × List ℕ) SyncRefusal) where
  too_much : (sync : SyncInterest)
      → exceeds_log (world_of s) m sync ≡ nat_lt (length old.log) (slice_index sync.vector m)
  too_much sync =
      ap (λ (x : Member). nat_lt (length x.log) (slice_index sync.vector m)) (member_is s is m there old old_is)

  -- ---- octets that are refused

  module _ (draws : ℕ → ℕ → ℕ) (x : HearRefusal)
      (x_is : (x ≡ hear.NoMemory) ⊎ (accepted_sync (length old.log) m r ≡ Err x)) where
    -- Refused octets change nothing, are not foreign, and their refusal is reported.
    refused_by : (r : Result (ℕ × List ℕ) SyncRefusal) → accepted_sync (length old.log) m r ≡ Err x
        → (if_unsent (world_of s) m (read_as r) ≡ None)
        × (after_hear (drawing draws) (world_of s) m (read_as r) ≡ world_of s)
        × (hears_received (drawing draws) (world_of s) m r ≡ ReportValue.HearRefused m x)
    refused_by (Err refusal) e = (
      refl,
      refl,
      (let same : hear.Sync refusal
          ≡ x = cc in ap (ReportValue.HearRefused m) same),
    )
    refused_by (Ok received) e = go (nat_lt (length old.log) (slice_index received.1 m)) refl e where
      much : (b : Bool) → nat_lt (length old.log) (slice_index received.1 m) ≡ b
          → exceeds_log (world_of s) m (made received) ≡ b
      much b p = too_much (made received) ∙ p

      go : (b : Bool) → nat_lt (length old.log) (slice_index received.1 m) ≡ b
          → cond b (Err (hear.OwnNumberAhead (length old.log) (slice_index received.1 m))) (Ok (made received)) ≡ Err x
          → (if_unsent (world_of s) m (Some (made received)) ≡ None)
          × (after_hear (drawing draws) (world_of s) m (Some (made received)) ≡ world_of s)
          × (hears_received (drawing draws) (world_of s) m (Ok received) ≡ ReportValue.HearRefused m x)
      go true p h =
          let same : hear.OwnNumberAhead (length old.log) (slice_index received.1 m) ≡ x = cc in (
            ap (λ (b : Bool). cond b None (unless (has_sent (world_of s) (made received)) Refusal.Foreign))
                (much true p),
            ap (λ (b : Bool). cond b (world_of s) (after_deliver (drawing draws) (world_of s) m received.1))
                (much true p),
            ap (λ (b : Bool). heard_as m (cond b
                (Err (length (member (world_of s) m).log, slice_index received.1 m))
                (Ok (mode_at (after_deliver (drawing draws) (world_of s) m received.1) m)))) (much true p)
                ∙ ap (λ (y : Member). ReportValue.HearRefused m
                (hear.OwnNumberAhead (length y.log) (slice_index received.1 m)))
                (member_is s is m there old old_is)
                ∙ ap (ReportValue.HearRefused m) same,
          )
      go false p h = absurd cc

    pub refused_so : (x ≡ hear.NoMemory → ⊥)
        → (if_unsent (world_of s) m (read_as r) ≡ None)
        × (after_hear (drawing draws) (world_of s) m (read_as r) ≡ world_of s)
        × (hears_received (drawing draws) (world_of s) m r ≡ ReportValue.HearRefused m x)
    refused_so other = elim x_is [ inl memory ↦ absurd (other memory) | inr e ↦ refused_by r e ]

  -- ---- octets that are taken

  module _ (sender : ℕ) (v : List ℕ)
      (e : accepted_sync (length old.log) m r ≡ Ok (record { sender = sender; vector = v })) where
    read : (r ≡ Ok (sender, v)) × (nat_lt (length old.log) (slice_index v m) ≡ false)
    read = by r e where
      by : (r : Result (ℕ × List ℕ) SyncRefusal)
          → accepted_sync (length old.log) m r ≡ Ok (record { sender = sender; vector = v })
          → (r ≡ Ok (sender, v)) × (nat_lt (length old.log) (slice_index v m) ≡ false)
      by (Err refusal) h = absurd cc
      by (Ok received) h = go (nat_lt (length old.log) (slice_index received.1 m)) refl h where
        go : (b : Bool) → nat_lt (length old.log) (slice_index received.1 m) ≡ b
            → cond b (Err (hear.OwnNumberAhead (length old.log) (slice_index received.1 m))) (Ok (made received))
            ≡ Ok (record { sender = sender; vector = v })
            → (let r : Result (ℕ × List ℕ) SyncRefusal = Ok received in r ≡ Ok (sender, v))
            × (nat_lt (length old.log) (slice_index v m) ≡ false)
        go true p h = absurd cc
        go false p h =
            let same : made received ≡ record { sender = sender; vector = v } = cc in (
              (λ i. Ok ((same i).sender, (same i).vector)),
              ap (λ (y : SyncInterest). nat_lt (length old.log) (slice_index y.vector m)) (sym same) ∙ p,
            )

    within_log : exceeds_log (world_of s) m (record { sender = sender; vector = v }) ≡ false
    within_log = too_much (record { sender = sender; vector = v }) ∙ read.1

    unsent : if_unsent (world_of s) m (read_as r)
        ≡ unless (has_sent (world_of s) (record { sender = sender; vector = v })) Refusal.Foreign
    unsent =
        ap (λ y. if_unsent (world_of s) m (read_as y)) read.0
        ∙ ap (λ (b : Bool).
        cond b None (unless (has_sent (world_of s) (record { sender = sender; vector = v })) Refusal.Foreign))
        within_log

    -- They are foreign where the signer didn't send the vector.
    pub foreign_so : (x : EventError)
        → (x ≡ fault.NoMemory) ⊎ ((x ≡ fault.Foreign) × (was_sent sender v s.sent ≡ false))
        → IsFaultOf (if_unsent (world_of s) m (read_as r)) x
    foreign_so x h = elim h [
      | inl memory ↦ subst (IsFaultOf (if_unsent (world_of s) m (read_as r))) (sym memory) tt
      | inr foreign ↦
          subst (λ y. IsFaultOf y x)
          (sym (unsent ∙ ap (λ (b : Bool). unless b Refusal.Foreign) (sym (sent_alike s sender v) ∙ foreign.1)))
          (subst (IsFaultOf (Some Refusal.Foreign)) (sym foreign.0) refl)
    ]

    module _ (has : was_sent sender v s.sent ≡ true) where
      pub sent_taken : if_unsent (world_of s) m (read_as r) ≡ None
      sent_taken = unsent ∙ ap (λ (b : Bool). unless b Refusal.Foreign) (sym (sent_alike s sender v) ∙ has)

      module _ (draws : ℕ → ℕ → ℕ) (b : MemberState) (draw : ℕ) (b_is : b ≡ member_hears v s.time draw old)
          (draw_is : draw ≡ draws m old.machine.draws) where
        delivered : world_of (record s {
          members = set s.members m b;
          tally = record s.tally { delivered = s.tally.delivered + 1 };
          steps = s.steps + 1;
        })
            ≡ after_deliver (drawing draws) (world_of s) m v
        delivered =
            let changed : in_groups (set s.members m b)
            ≡ set (in_groups s.members) m
            (group.learns (drawn (drawing draws) (world_of s) m) s.time v (member (world_of s) m)) =
            map-set in_group s.members m b
            ∙ ap (set (in_groups s.members) m) (ap in_group b_is
            ∙ ap (λ (n : ℕ). group.learns n s.time v (in_group old)) draw_is
            ∙ ap (λ (y : Member). group.learns (draws m y.machine.draws) s.time v y)
            (sym (member_is s is m there old old_is))) in
            ap (λ (ms : List Member).
            let w : World = record {
              members = ms;
              sent = map sync_in s.sent;
              time = s.time;
              issued = s.issued;
              tally = record s.tally { delivered = s.tally.delivered + 1 };
            } in
            w) changed

        pub heard_world : world_of (record s {
          members = set s.members m b;
          tally = record s.tally { delivered = s.tally.delivered + 1 };
          steps = s.steps + 1;
        })
            ≡ after_hear (drawing draws) (world_of s) m (read_as r)
        heard_world =
            delivered
            ∙ sym (ap (λ y. after_hear (drawing draws) (world_of s) m (read_as y)) read.0
            ∙ ap (λ (c : Bool). cond c (world_of s) (after_deliver (drawing draws) (world_of s) m v)) within_log)

        pub heard_state : s.steps < 100000
            → IsConsistentState (record s {
              members = set s.members m b;
              tally = record s.tally { delivered = s.tally.delivered + 1 };
              steps = s.steps + 1;
            })
        heard_state few =
            stepped_at s is few (drawing draws) (λ t. omega arith) (Event.Hear m (read_as r)) tt m there b
            (ap (λ (a : MemberState). a.number) b_is ∙ number_is s is m there old old_is)
            (subst (IsConsistentMember s.keys (logs_around s.members)) (sym b_is)
            (hears_consistent s.keys (logs_around s.members) v s.time draw old
            (sent_vector s.keys (logs_around s.members) sender v s.sent has is.sent)
            (consistent s is m there old old_is)))
            s.sent s.time (record s.tally { delivered = s.tally.delivered + 1 }) is.sent heard_world

        pub heard_received : (mode : Mode) → mode ≡ mode_of b.machine.heard
            → mode_report m mode ≡ hears_received (drawing draws) (world_of s) m r
        heard_received mode mode_is =
            ap (mode_report m)
            (mode_is ∙ ap (λ (y : Member). mode_of y.machine.heard) (sym (member_set s.members m b there))
            ∙ ap (λ (w : World). mode_at w m) delivered)
            ∙ sym (ap (hears_received (drawing draws) (world_of s) m) read.0
            ∙ ap (λ (c : Bool). heard_as m (cond c
            (Err (length (member (world_of s) m).log, slice_index v m))
            (Ok (mode_at (after_deliver (drawing draws) (world_of s) m v) m)))) within_log)
