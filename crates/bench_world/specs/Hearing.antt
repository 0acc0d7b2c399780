-- What a member takes of octets that are a sync Interest.
use Rattle.std.specs.Prelude.{ℕ, ◌≡◌, ◌≤◌, List, Result, Ok, Err, length, slice_index, nat_lt, if◌then◌else◌}
use Rattle.svs_sync.specs.declared.sync_refusal.SyncRefusal.{SyncRefusal}
use Rattle.group_model.specs.Events.{SyncInterest}
use Rattle.repo_member.specs.Groups.{node_limit}
use Rattle.repo_member.specs.MemberState.{MemberState}
use Rattle.repo_member.specs.declared.refusals.HearRefusal.{HearRefusal}
use Rattle.repo_member.specs.declared.refusals.HearRefusal.TheVariants.{Sync, OwnNumberAhead}

-- The sync Interest that a member with this number and `own` publications takes, or why it doesn't take it.
abbrev pub accepted_sync : (own number : ℕ) → Result (ℕ × List ℕ) SyncRefusal → Result SyncInterest HearRefusal
accepted_sync own number (Err refusal) = Err (Sync refusal)
accepted_sync own number (Ok received) =
    if nat_lt own (slice_index received.1 number) then Err (OwnNumberAhead own (slice_index received.1 number))
    else Ok (record { sender = received.0; vector = received.1 })

-- The member `a` can hear the vector `received`: the vector has a number for each member, at most `node_limit` numbers,
-- and reports no more publications of `a` than `a` made.
pub record CanHearVector (received : List ℕ) (a : MemberState) : Type 0 where
  pub own : slice_index received a.number ≤ length a.log
  pub width : length received ≡ length a.known
  pub members : length received ≤ node_limit
