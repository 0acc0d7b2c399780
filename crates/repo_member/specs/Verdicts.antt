-- What a member answers to a sync Interest and to a packet that it asked for, except where memory runs out.
use Rattle.std.specs.Prelude.{◌≡◌, ◌≢◌, ◌⊎◌, ℕ, List, Option, Some, None, Result, Ok, Err, IsOk, length, slice_index}
use Rattle.std.specs.Prelude.{nat_lt, if◌then◌else◌}
use Rattle.ndn_data.specs.Data.{Data}
use Rattle.svs_sync.specs.declared.sync_refusal.SyncRefusal.{SyncRefusal}
use Rattle.svs_sync.specs.declared.sync_refusal.SyncRefusal.TheVariants as sync_refusal
use Rattle.svs_sync.specs.SyncInterest.{sync_interest, sync_verdict}
use Rattle.repo_plan.specs.declared.part.Part.{Part}
use Rattle.repo_plan.specs.Plan.{claim_of}
use Rattle.repo_object.specs.declared.part_refusal.PartRefusal.{PartRefusal}
use Rattle.repo_object.specs.Objects.{key_name}
use Rattle.repo_object.specs.Verdict.{ring_verdict}
use Rattle.repo_member.specs.declared.refusals.HearRefusal.{HearRefusal}
use Rattle.repo_member.specs.declared.refusals.HearRefusal.TheVariants.{Sync, OwnNumberAhead, NoMemory}
use Rattle.repo_member.specs.declared.refusals.AcceptRefusal.{AcceptRefusal}
use Rattle.repo_member.specs.declared.refusals.AcceptRefusal.TheVariants.{FetcherIdle, Refused}
use Rattle.repo_member.specs.Groups.{GroupKeys, node_at, member_key}
use Rattle.repo_member.specs.MemberState.{MemberState, member_plan, want_of}

-- the sync Interest of a member with a vector
abbrev pub sync_of : GroupKeys → ℕ → List ℕ → List ℕ
sync_of g number vector =
    sync_interest g.name vector g.members.names (key_name (node_at g number)) (member_key g number)

-- the vector `received` is heard, unless it reports more publications of the member than it made
abbrev pub vector_verdict : MemberState → List ℕ → Result (List ℕ) HearRefusal
vector_verdict a received =
    if nat_lt (length a.log) (slice_index received a.number)
    then Err (OwnNumberAhead (length a.log) (slice_index received a.number))
    else Ok received

-- the verdict on the vector of a sync Interest of the group, or the refusal of octets that are none
abbrev pub received_verdict : MemberState → Result (ℕ × List ℕ) SyncRefusal → Result (List ℕ) HearRefusal
received_verdict a (Err refusal) = Err (Sync refusal)
received_verdict a (Ok received) = vector_verdict a received.1

-- the number of the member that signed the sync Interest `octets`, and its vector; or why the octets are refused
abbrev pub group_verdict : GroupKeys → List ℕ → Result (ℕ × List ℕ) SyncRefusal
group_verdict g octets = sync_verdict g.name g.members.names g.members.ring octets

-- the vector that the member takes from octets, or why they are refused
abbrev pub hear_verdict : GroupKeys → MemberState → List ℕ → Result (List ℕ) HearRefusal
hear_verdict g a octets = received_verdict a (group_verdict g octets)

-- A refusal of octets is that of `verdict`, or says that memory ran out for a vector that passed. It is never
-- `NoMemory` as a refusal of the sync Interest.
pub record IsHearRefusal (verdict : Result (List ℕ) HearRefusal) (refusal : HearRefusal) : Type 0 where
  pub refused : (refusal ≡ NoMemory) ⊎ (verdict ≡ Err refusal)
  pub memory : refusal ≡ NoMemory → IsOk verdict
  pub sync : refusal ≢ Sync sync_refusal.NoMemory

-- the part `t`, where a packet passes for it, or why the packet is refused
abbrev pub passed : Part → Result Data PartRefusal → Result Part AcceptRefusal
passed t (Ok d) = Ok t
passed t (Err refusal) = Err (Refused refusal)

-- The part that octets are taken for, or why they are refused, by what the fetcher claims.
abbrev pub claim_verdict : GroupKeys → MemberState → List ℕ → Option Part → Result Part AcceptRefusal
claim_verdict g a octets None = Err FetcherIdle
claim_verdict g a octets (Some t) = passed t (ring_verdict (want_of g a.store t) g.members.ring octets)

-- the part that a fetcher's octets are taken for, or why they are refused
abbrev pub accept_verdict : GroupKeys → MemberState → ℕ → List ℕ → Result Part AcceptRefusal
accept_verdict g a f octets = claim_verdict g a octets (claim_of (member_plan a) f)
