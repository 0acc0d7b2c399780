-- What a member hears keeps what holds under the lock.
use Rattle.std.proofs.Common.{◌≡◌, ℕ, ◌+◌, ◌<◌, ◌≤◌, Bool, true, false, cond, List, length, Option, Some, None}
use Rattle.std.proofs.Common.{Result, Ok, Err}
use Rattle.std.proofs.Common.{refl, ap, sym, ◌∙◌, subst, arith}
use Rattle.std.specs.Prelude.{nat_lt, slice_index}
use Rattle.std.proofs.lemmas.Bool.{ltb-false}
use Rattle.svs_vector.specs.Vectors.{covers}
use Rattle.svs_sync.specs.SyncStates.{SyncState, becomes_steady, after_hearing}
use Rattle.svs_sync.specs.Suppression.{suppression, mode_of}
use Rattle.svs_sync.specs.declared.sync_refusal.SyncRefusal.{SyncRefusal}
use Rattle.repo_object.specs.Objects.{NamedContents}
use Rattle.repo_member.specs.declared.refusals.HearRefusal.{HearRefusal}
use Rattle.repo_member.specs.declared.refusals.HearRefusal.TheVariants.{OwnNumberAhead}
use Rattle.repo_member.specs.MemberState.{MemberState, member_hears}
use Rattle.repo_member.specs.InGroup.{in_group}
use Rattle.repo_member.specs.InEvents.{IsMemberOf}
use Rattle.repo_member.specs.Verdicts.{hear_verdict, received_verdict, group_verdict}
use Rattle.repo_member.proofs.PublicLaws.{hear_is_event, syncs_are_received, hears_consistent}
use Rattle.group_model.specs.Events.{SyncInterest, Event}
use Rattle.group_model.specs.Member.{Member}
use Rattle.group_model.specs.World.{World, member}
use Rattle.group_model.specs.Replies.{heard_reply}
use Rattle.group_model.specs.Steps.{exceeds_log, after_deliver, mode_at, after_event, reply_to}
use Rattle.live_member.specs.declared.event.LiveEvent.TheVariants as event
use Rattle.live_member.specs.declared.event.LiveEntry.{LiveEntry}
use Rattle.live_member.specs.Meanings.{Meaning, whole_logs, logs_at, world_at, environment}
use Rattle.live_member.specs.Reports.{IsReport}
use Rattle.live_member.specs.Lives.{IsLive, living}
use Rattle.live_member.specs.Replay.{live_reply, mode_reply, sync_read, after, reply_of}
use Rattle.live_member.specs.Calls.{hear_change, hear_reply}
use Rattle.live_member.proofs.Around.{width_whole, number_there, is_member, vector_here}
use Rattle.live_member.proofs.Journals.{IsAfter, IsQuiet}

one_draw : (told known : List ℕ) (draw : ℕ) (k : SyncState) (heard : Option (List ℕ))
    → (after_hearing 0 told known draw k heard).draws ≤ k.draws + 1
one_draw told known draw k None = go (covers told known) where
  go : (b : Bool)
      → (cond b (becomes_steady 0 draw k)
      (record k { heard = Some told; deadline = 0 + suppression draw; draws = k.draws + 1 })).draws
      ≤ k.draws + 1
  go true = omega arith
  go false = omega arith
one_draw told known draw k (Some v) = omega arith

-- the verdict on `vector`, by whether it reports more publications of the member than the member has made (`ahead`)
abbrev verdict_by : Bool → MemberState → List ℕ → Result (List ℕ) HearRefusal
verdict_by ahead a vector = cond ahead (Err (OwnNumberAhead (length a.log) (slice_index vector a.number))) (Ok vector)

module _ (t : Meaning) (most : ℕ) (a : MemberState) (journal : List LiveEntry) (unpublished : List NamedContents)
    (octets : List ℕ) (draw : ℕ) (live : IsLive t most (living a journal unpublished)) (tell : IsReport t octets)
    (value : draw ≡ slice_index t.draws a.number) where
  abbrev w : World
  w = world_at t a.number (in_group a)

  abbrev sync : SyncInterest
  sync = record { sender = tell.sender; vector = tell.vector }

  there : a.number < length t.lists
  there = number_there t a live.logs live.consistent

  member_is : IsMemberOf w a.number a
  member_is = is_member t a live.logs live.consistent

  is_reported : group_verdict t.group octets ≡ Ok (tell.sender, tell.vector)
  is_reported =
      ap (group_verdict t.group) tell.told
      ∙ syncs_are_received t.group (whole_logs t) tell.sender tell.vector live.within.logs
      (omega (arith, tell.there, live.within.logs.width, width_whole t)) tell.consistent

  pub verdict_is : hear_verdict t.group a octets ≡ verdict_by (nat_lt (length a.log)
      (slice_index tell.vector a.number)) a tell.vector
  verdict_is = ap (received_verdict a) is_reported

  too_much : (b : Bool) → nat_lt (length a.log) (slice_index tell.vector a.number) ≡ b
      → exceeds_log w a.number sync ≡ b
  too_much b is = ap (λ (m : Member). nat_lt (length m.log) (slice_index tell.vector a.number)) member_is.same ∙ is

  -- the member after the sync Interest, by whether its vector reports more publications than the member has made
  read : (b : Bool) → nat_lt (length a.log) (slice_index tell.vector a.number) ≡ b
      → after t a.number (in_group a) (event.Hear octets) ≡ in_group (hear_change (verdict_by b a tell.vector) draw a)
  read b is =
      ap (λ (v : Result (ℕ × List ℕ) SyncRefusal).
      member (after_event (environment t) w (Event.Hear a.number (sync_read v))) a.number) is_reported
      ∙ hear_is_event (environment t) w a.number sync a member_is
      ∙ ap (λ (c : Bool). in_group (cond c a (member_hears tell.vector 0 (slice_index t.draws a.number) a))) is
      ∙ go b where
        go : (c : Bool) → in_group (cond c a (member_hears tell.vector 0 (slice_index t.draws a.number) a))
            ≡ in_group (hear_change (verdict_by c a tell.vector) draw a)
        go true = refl
        go false = ap (λ (d : ℕ). in_group (member_hears tell.vector 0 d a)) (sym value)

  replied : (b : Bool) → nat_lt (length a.log) (slice_index tell.vector a.number) ≡ b
      → hear_reply (verdict_by b a tell.vector) draw a ≡ reply_of t a.number (in_group a) (event.Hear octets)
  replied b is = sym (
      ap (λ (v : Result (ℕ × List ℕ) SyncRefusal).
      live_reply (reply_to (environment t) w (Event.Hear a.number (sync_read v)))) is_reported
      ∙ ap (λ (c : Bool). live_reply (heard_reply (cond c (Err (
        length (member w a.number).log,
        slice_index tell.vector a.number,
      ))
      (Ok (mode_at (after_deliver (environment t) w a.number tell.vector) a.number))))) (too_much b is)
      ∙ go b is) where
        go : (c : Bool) → nat_lt (length a.log) (slice_index tell.vector a.number) ≡ c
            → live_reply (heard_reply (cond c (Err (length (member w a.number).log, slice_index tell.vector a.number))
            (Ok (mode_at (after_deliver (environment t) w a.number tell.vector) a.number))))
            ≡ hear_reply (verdict_by c a tell.vector) draw a
        go true h = refl
        go false h =
            ap (λ (m : Member). mode_reply (mode_of m.machine.heard))
            (sym (ap (λ (c : Bool). member (cond c w (after_deliver (environment t) w a.number tell.vector)) a.number)
            (too_much false h))
            ∙ hear_is_event (environment t) w a.number sync a member_is
            ∙ ap (λ (c : Bool). in_group (cond c a (member_hears tell.vector 0 (slice_index t.draws a.number) a))) h
            ∙ ap (λ (d : ℕ). in_group (member_hears tell.vector 0 d a)) (sym value))

  quiet : (b : Bool) → nat_lt (length a.log) (slice_index tell.vector a.number) ≡ b
      → IsQuiet t a (hear_change (verdict_by b a tell.vector) draw a)
  quiet true is = record { log = refl; hidden = refl; draws = omega arith; consistent = live.consistent }
  quiet false is =
      let few : slice_index tell.vector a.number ≤ length a.log =
      ltb-false (length a.log) (slice_index tell.vector a.number) is in
      record {
        log = refl;
        hidden = refl;
        draws = one_draw tell.vector a.known draw a.machine a.machine.heard;
        consistent = hears_consistent t.group (logs_at t a.number a.log) tell.vector 0 draw a
            (vector_here t a.number a.log unpublished live.list there tell.vector tell.consistent few) live.consistent;
      }

  number_stays : (b : Bool) → (hear_change (verdict_by b a tell.vector) draw a).number ≡ a.number
  number_stays true = refl
  number_stays false = refl

  abbrev ahead : Bool
  ahead = nat_lt (length a.log) (slice_index tell.vector a.number)

  -- the reply and the member after the sync Interest, by the verdict on it
  pub hear_after : IsAfter t (event.Hear octets) (hear_reply (hear_verdict t.group a octets) draw a) a
      (hear_change (hear_verdict t.group a octets) draw a)
  hear_after =
      subst (λ v. IsAfter t (event.Hear octets) (hear_reply v draw a) a (hear_change v draw a)) (sym verdict_is)
      (record {
        replied = replied ahead refl;
        changed = sym (read ahead refl);
        number = number_stays ahead;
      })

  pub hear_quiet : IsQuiet t a (hear_change (hear_verdict t.group a octets) draw a)
  hear_quiet = subst (λ v. IsQuiet t a (hear_change v draw a)) (sym verdict_is) (quiet ahead refl)
