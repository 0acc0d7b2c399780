-- A group with the packets of its members, and the model's world for it.
use Rattle.std.specs.Prelude.{ℕ, ◌≡◌, ◌*◌, ◌≤◌, ◌<◌, true, List, [], map, length, slice_index_or, None}
use Rattle.std.specs.List.{All, remove}
use Rattle.sorted_lists.specs.Range.{numbers_from}
use Rattle.repo_plan.specs.declared.part.Part.{Part}
use Rattle.repo_plan.specs.Plan.{no_claims}
use Rattle.bench_net.specs.SentList.{SentPacket, sent_packet}
use Rattle.group_model.specs.Publications.{Logs}
use Rattle.group_model.specs.Member.{Member, tries_of}
use Rattle.group_model.specs.Events.{SyncInterest}
use Rattle.group_model.specs.Events.Response.{Nothing}
use Rattle.group_model.specs.Sound.{IsConsistentVector}
use Rattle.group_model.specs.Limits.{IsWithinSteps}
use Rattle.group_model.specs.World.{Tally, Issued, World, Environment, logs_of}
use Rattle.repo_member.specs.Groups.{GroupKeys}
use Rattle.repo_member.specs.MemberState.{MemberState, no_insertions, initial_member}
use Rattle.repo_member.specs.Verdicts.{sync_of}
use Rattle.repo_member.specs.InGroup.{in_group, AreLogs}
use Rattle.repo_member.specs.ConsistentMembers.{IsConsistentMember}
use Rattle.repo_mirror.specs.MirrorState.{MirrorState}
use Rattle.repo_mirror.specs.ConsistentMirrors.{IsConsistentMirror}

-- A group: its names and keys, its members with their packets, the packets that were sent, the time, the commands that
-- clients made for members, the tally, the number of steps made, and its mirrors.
pub record GroupState : Type 0 where
  pub keys : GroupKeys
  pub members : List MemberState
  pub sent : List SentPacket
  pub time : ℕ
  pub issued : List Issued
  pub tally : Tally
  pub steps : ℕ
  pub mirrors : List MirrorState

-- What is found under a number that no member has.
abbrev pub nobody : MemberState
nobody = record {
  number = 0;
  log = [];
  known = [];
  store = [];
  hidden = [];
  claims = no_claims;
  attempts = [];
  machine = record { members = 0; heard = None; deadline = 0; draws = 0 };
  insertions = no_insertions;
}

-- The state of member `j`, counted from 0.
abbrev pub state_at : List MemberState → ℕ → MemberState
state_at members j = slice_index_or members j nobody

-- Each member is consistent with the group that has the keys `g` and the logs `logs`.
abbrev pub AreConsistentMembers : GroupKeys → Logs → List MemberState → Type 0
AreConsistentMembers g logs members = (j : ℕ) → j < length members → IsConsistentMember g logs (state_at members j)

-- Member `j` of the list has the number `j`.
abbrev pub MembersAreNumbered : List MemberState → Type 0
MembersAreNumbered members = (j : ℕ) → j < length members → (state_at members j).number ≡ j

-- The sync state of a member (`machine`), its draws included, and its attempts at parts are unchanged.
pub record CountsStay (old new : MemberState) : Type 0 where
  pub machine : new.machine ≡ old.machine
  pub attempts : new.attempts ≡ old.attempts

-- The sync state of every member, and its attempts at parts, are unchanged.
abbrev pub AllCountsStay : List MemberState → List MemberState → Type 0
AllCountsStay old new = (j : ℕ) → CountsStay (state_at old j) (state_at new j)

-- All members but member `j`.
abbrev pub others_than : ℕ → List MemberState → List MemberState
others_than j members = remove members j

-- The members as their group has them, without their packets.
abbrev pub in_groups : List MemberState → List Member
in_groups members = map in_group members

-- The publications of these members, each member's in order.
abbrev pub logs_around : List MemberState → Logs
logs_around members = logs_of (in_groups members)

-- A packet that was sent, as its group has it: its sender and its vector.
abbrev pub sync_in : SentPacket → SyncInterest
sync_in p = record { sender = p.sender; vector = p.vector }

-- The model's world for the group `s`.
abbrev pub world_of : GroupState → World
world_of s = record {
  members = in_groups s.members;
  sent = map sync_in s.sent;
  time = s.time;
  issued = s.issued;
  tally = s.tally;
}

-- ---- what holds of every group

-- The packet `p` is the sync Interest of a member with the vector `p.vector`, which reports only existing publications.
pub record IsConsistentSync (g : GroupKeys) (logs : Logs) (p : SentPacket) : Type 0 where
  pub sender : p.sender < length g.members.names
  pub vector : IsConsistentVector logs p.vector
  pub octets : p.octets ≡ sync_of g p.sender p.vector

-- The sync Interest that the member `a` would send now, as a sent packet with its sender and its vector.
abbrev pub tells : GroupKeys → MemberState → SentPacket
tells g a = sent_packet a.number a.known (sync_of g a.number a.known)

-- The mirror `m` has tried no part more often than 16 times `steps`.
abbrev pub MirrorTriedFew : ℕ → MirrorState → Type 0
MirrorTriedFew steps m = (t : Part) → tries_of m.attempts t ≤ steps * 16

-- A sound world: what was published is within the limits, each member stores the packets of the parts that it holds,
-- each sent packet is the sync Interest of a member, counts are within the limits for the number of steps, and at most
-- four mirrors hold what was published.
pub record IsConsistentState (s : GroupState) : Type 0 where
  pub are : AreLogs s.keys (logs_around s.members)
  pub numbers : MembersAreNumbered s.members
  pub members : AreConsistentMembers s.keys (logs_around s.members) s.members
  pub sent : All (IsConsistentSync s.keys (logs_around s.members)) s.sent
  pub within : IsWithinSteps s.steps (world_of s)
  pub steps : s.steps ≤ 100000
  pub mirrors : All (IsConsistentMirror s.keys (logs_around s.members)) s.mirrors
  pub mirrors_tried : All (MirrorTriedFew s.steps) s.mirrors
  pub mirrors_few : length s.mirrors ≤ 4

-- ---- draws

-- What is found under a number that no sent packet has.
abbrev pub no_packet : SentPacket
no_packet = sent_packet 0 [] []

-- An environment in which only the draws matter: every attempt passes, no member answers, and packets have no octets.
abbrev pub drawing : (ℕ → ℕ → ℕ) → Environment
drawing draw = record { draw = draw; passes = λ _ _ _ _. true; serves = λ _ _ _. Nothing; size = λ _ _. 0 }

-- Member `j`, which has nothing yet, in a group of `n` members: the time is 0, and it has its first draw.
abbrev pub begun_one : ℕ → (ℕ → ℕ → ℕ) → ℕ → MemberState
begun_one n draw j = initial_member n j 0 (draw j 0)

-- The members of a group of `n`, which have nothing yet.
abbrev pub begun_all : ℕ → (ℕ → ℕ → ℕ) → List MemberState
begun_all n draw = map (begun_one n draw) (numbers_from 0 n)

-- A world of these members alone, for fetches and settles: nothing was sent, issued or counted, and the time is 0.
abbrev pub only_members : List MemberState → World
only_members members = record {
  members = in_groups members;
  sent = [];
  time = 0;
  issued = [];
  tally = record { delivered = 0; attempts = 0; parts = 0; octets = 0 };
}
