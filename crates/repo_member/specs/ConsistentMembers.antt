-- Consistent members: sound members of a group whose stored packets were published, and what follows for them.
use Rattle.std.specs.Prelude.{◌≡◌, ℕ, ◌<◌, ◌≤◌, true, List, [], map, length, Some, unwrap_or, slice_index_or, IsOk}
use Rattle.std.specs.Prelude.{IsSomeAnd, Ok, nat_le, ◌==◌, if◌then◌else◌}
use Rattle.sha2.specs.Sha256.{sha256}
use Rattle.repo_plan.specs.declared.part.Part.{Part}
use Rattle.repo_plan.specs.Parts.{Pair, pair_of}
use Rattle.sorted_lists.specs.SortedList.{keys}
use Rattle.repo_plan.specs.Plan.{is_wanted, claim_of}
use Rattle.repo_object.specs.Objects.{offered}
use Rattle.repo_object.specs.Publication.{Listed, published_listing}
use Rattle.repo_object.specs.Wants.{WantedPart, want_record, want_index, want_segment}
use Rattle.repo_object.specs.Verdict.{ring_verdict}
use Rattle.group_model.specs.Publications.{Logs, no_object, post_at, shape_at}
use Rattle.group_model.specs.Sound.{IsPublished, IsPublishedPart, IsSoundMember}
use Rattle.repo_member.specs.Groups.{GroupKeys, node_at, publisher_at}
use Rattle.repo_holdings.specs.Records.{Packet}
use Rattle.repo_member.specs.MemberState.{MemberState, IsMemberState, IsOfGroup, member_plan, want_of, logged}
use Rattle.repo_member.specs.Verdicts.{accept_verdict}
use Rattle.repo_member.specs.InGroup.{in_group, AreLogs, published_packet, AreItsPackets, StoresConsistently}

-- The member's log is the group's of its number, the member is sound in its group, its sync state has a place for each
-- member, and each stored packet is the one that the publisher of its part made.
pub record IsConsistentMember (g : GroupKeys) (logs : Logs) (a : MemberState) : Type 0 where
  pub there : a.number < length logs
  pub log : slice_index_or logs a.number [] ≡ a.log
  pub sound : IsSoundMember logs a.number (in_group a)
  pub machine : a.machine.members ≡ length logs
  pub packets : AreItsPackets g logs a

-- What the record of a published object lists.
abbrev pub consistent_listing : GroupKeys → Logs → Pair → Listed
consistent_listing g logs pair =
    published_listing (publisher_at g pair.0) pair.1 (unwrap_or (offered (post_at logs pair)) no_object)

-- The want of a published part: a record is asked for by its publisher's name, an index packet as the record lists it,
-- and a segment by the digest of its packet.
abbrev pub published_want : GroupKeys → Logs → Part → WantedPart
published_want g logs t =
    if t.part == 0 then want_record t (node_at g t.publisher) g.name
    else if nat_le t.part (shape_at logs (pair_of t)).index
    then want_index t (consistent_listing g logs (pair_of t)) (node_at g t.publisher) g.name
    else want_segment t (shape_at logs (pair_of t)) (consistent_listing g logs (pair_of t)).name
    (sha256 (unwrap_or (published_packet g logs t) []))

-- Parts with their packets.
abbrev pub published_packets : GroupKeys → Logs → List Part → List Packet
published_packets g logs ts = map (λ t. (t, unwrap_or (published_packet g logs t) [])) ts

-- ---- what follows

-- A consistent member satisfies what holds of every member by itself.
abbrev pub ConsistentIsMemberState : Type 0
ConsistentIsMemberState = (g : GroupKeys) (logs : Logs) (a : MemberState) → IsConsistentMember g logs a
    → IsMemberState a

-- The vector of a consistent member has a number for each member of the group.
abbrev pub ConsistentIsOf : Type 0
ConsistentIsOf = (g : GroupKeys) (logs : Logs) (a : MemberState) → AreLogs g logs → IsConsistentMember g logs a
    → IsOfGroup g a

-- Each packet that a consistent member stores is that of a published part.
abbrev pub ConsistentStores : Type 0
ConsistentStores = (g : GroupKeys) (logs : Logs) (a : MemberState) → IsConsistentMember g logs a
    → StoresConsistently g logs a

-- What a consistent member stores are the published packets of the parts that it holds.
abbrev pub StoresThose : Type 0
StoresThose =
    (g : GroupKeys) (logs : Logs) (a : MemberState) → IsConsistentMember g logs a → a.store
    ≡ published_packets g logs (keys a.store)

-- What a consistent member's log gives of an own publication are the published packets of its parts.
abbrev pub LogsThose : Type 0
LogsThose = (g : GroupKeys) (logs : Logs) (a : MemberState) (t : Part) → IsConsistentMember g logs a → t.publisher
    ≡ a.number
    → IsPublished logs (pair_of t) → logged g a t ≡ published_packet g logs t

-- ---- what is wanted

-- A part that a consistent member wants was published.
abbrev pub WantsPublished : Type 0
WantsPublished = (g : GroupKeys) (logs : Logs) (a : MemberState) (t : Part) → AreLogs g logs
    → IsConsistentMember g logs a
    → is_wanted (member_plan a) t ≡ true → IsPublishedPart logs t

-- The want that a consistent member has of a part is that of the published part.
abbrev pub WantsAreConsistent : Type 0
WantsAreConsistent = (g : GroupKeys) (logs : Logs) (a : MemberState) (t : Part) → AreLogs g logs
    → IsConsistentMember g logs a
    → is_wanted (member_plan a) t ≡ true → want_of g a.store t ≡ published_want g logs t

-- A published part has a packet, of at most 8,800 octets.
abbrev pub PacketsAreThere : Type 0
PacketsAreThere = (g : GroupKeys) (logs : Logs) (t : Part) → AreLogs g logs → IsPublishedPart logs t
    → IsSomeAnd (published_packet g logs t) (λ octets. length octets ≤ 8800)

-- The packet of a published part passes for the want of that part.
abbrev pub PacketsPass : Type 0
PacketsPass = (g : GroupKeys) (logs : Logs) (t : Part) (octets : List ℕ) → AreLogs g logs → IsPublishedPart logs t
    → published_packet g logs t ≡ Some octets → IsOk (ring_verdict (published_want g logs t) g.members.ring octets)

-- The published packet of a part that a member wants passes for its want.
abbrev pub PacketsPassForMembers : Type 0
PacketsPassForMembers = (g : GroupKeys) (logs : Logs) (a : MemberState) (t : Part) (octets : List ℕ) → AreLogs g logs
    → IsConsistentMember g logs a → is_wanted (member_plan a) t ≡ true → published_packet g logs t ≡ Some octets
    → IsOk (ring_verdict (want_of g a.store t) g.members.ring octets)

-- ---- what is accepted

-- Octets are taken for the part that the fetcher claims.
abbrev pub AcceptsTheClaimed : Type 0
AcceptsTheClaimed =
    (g : GroupKeys) (a : MemberState) (f : ℕ) (octets : List ℕ) (t : Part) → accept_verdict g a f octets ≡ Ok t
    → claim_of (member_plan a) f ≡ Some t

-- A consistent member takes the packet of the part for a claim of it.
abbrev pub TakesTheConsistent : Type 0
TakesTheConsistent = (g : GroupKeys) (logs : Logs) (a : MemberState) (f : ℕ) (t : Part) (octets : List ℕ)
    → AreLogs g logs
    → IsConsistentMember g logs a → claim_of (member_plan a) f ≡ Some t → published_packet g logs t ≡ Some octets
    → accept_verdict g a f octets ≡ Ok t
