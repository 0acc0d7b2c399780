-- What a settle makes of all members, and what it leaves when memory runs out.
use Rattle.std.specs.Prelude.{ℕ, ◌≡◌, ◌≤◌, ◌<◌, ◌⊎◌, true, List, length, slice_index, sum_by}
use Rattle.repo_plan.specs.declared.part.Part.{Part}
use Rattle.repo_plan.specs.Plan.{no_claims}
use Rattle.group_model.specs.Publications.{Logs}
use Rattle.group_model.specs.Member.{Member, member_holds}
use Rattle.group_model.specs.Settles.{IsGathering}
use Rattle.group_model.specs.World.{World, member, logs, someone_holds}
use Rattle.group_model.specs.Steps.{settled_vector, settled_member, new_parts}
use Rattle.repo_member.specs.Groups.{GroupKeys}
use Rattle.repo_member.specs.MemberState.{MemberState}
use Rattle.repo_member.specs.InGroup.{in_group}
use Rattle.bench_net.specs.SentList.{SentPacket, sent_packet}
use Rattle.bench_world.specs.Truth.{AllTriedFew}
use Rattle.bench_world.specs.Worlds.{state_at, in_groups, AllCountsStay, AreConsistentMembers, MembersAreNumbered}
use Rattle.bench_world.specs.declared.sync_exchange.MemberSync.{MemberSync}

-- The sync Interest of a member, as it is stored among the packets that were sent.
abbrev pub sent_sync : MemberSync → SentPacket
sent_sync t = sent_packet t.sender t.vector.items t.octets.items

-- The sum of the weights of the parts that the members `ms` gain in a settle of the world `w`.
abbrev pub new_parts_sum : (Part → ℕ) → World → List Member → ℕ
new_parts_sum weight w ms = sum_by (λ m. sum_by weight (new_parts w m)) ms

-- A call has changed neither the number of members, nor their sync states, nor their attempts at parts. Each member is
-- consistent and stands under its number.
pub record StayConsistent (g : GroupKeys) (ls : Logs) (old new : List MemberState) : Type 0 where
  pub len : length new ≡ length old
  pub consistent : AreConsistentMembers g ls new
  pub numbers : MembersAreNumbered new
  pub counts : AllCountsStay old new

-- ---- where memory ran out

-- The member `new` is partly settled: each number of its vector is between the old and the settled one, and it holds
-- its old parts and only parts of the settled member. Its claims are the old ones, or have ended; nothing else changed.
pub record IsPartlySettled (w : World) (old new : Member) : Type 0 where
  pub log : new.log ≡ old.log
  pub hidden : new.hidden ≡ old.hidden
  pub attempts : new.attempts ≡ old.attempts
  pub machine : new.machine ≡ old.machine
  pub processes : new.processes ≡ old.processes
  pub next_process : new.next_process ≡ old.next_process
  pub claims : (new.claims ≡ old.claims) ⊎ (new.claims ≡ no_claims)
  pub width : length new.known ≡ length old.known
  pub known_more : (p : ℕ) → slice_index old.known p ≤ slice_index new.known p
  pub known_less : (p : ℕ) → slice_index new.known p ≤ slice_index (settled_vector w) p
  pub kept : (t : Part) → member_holds old t ≡ true → member_holds new t ≡ true
  pub came : (t : Part) → member_holds new t ≡ true → member_holds (settled_member w old) t ≡ true

-- Each member of the world `w` is partly settled in `new`.
pub record ArePartlySettled (w : World) (new : List Member) : Type 0 where
  pub len : length new ≡ length w.members
  pub each : (j : ℕ) → j < length w.members → IsPartlySettled w (member w j) (member (record w { members = new }) j)

-- ---- one member after another

-- Each member is gathering parts, or has gathered them. The parts that someone holds are the same as in the world `w`.
pub record AreGathering (g : GroupKeys) (w : World) (begun members : List MemberState) : Type 0 where
  pub len : length members ≡ length begun
  pub consistent : AreConsistentMembers g (logs w) members
  pub numbers : MembersAreNumbered members
  pub tried : AllTriedFew members
  pub each : (i : ℕ) → i < length members → IsGathering w (member w i) (in_group (state_at members i))
  pub someones : (t : Part) → someone_holds (in_groups members) t ≡ someone_holds w.members t
  pub counts : AllCountsStay begun members

-- The members below number `j` have settled, and the others are as in `begun`.
pub record FetchedSoFar (g : GroupKeys) (w : World) (begun : List MemberState) (j : ℕ) (members : List MemberState) :
    Type 0 where
  pub all : AreGathering g w begun members
  pub done : (i : ℕ) → i < j → in_group (state_at members i) ≡ settled_member w (member w i)
  pub still : (i : ℕ) → j ≤ i → state_at members i ≡ state_at begun i
