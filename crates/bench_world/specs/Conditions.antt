-- The conditions of claims, fetches and settles: of members, of mirrors, and of the number of workers.
use Rattle.std.specs.Prelude.{ℕ, ◌≡◌, ◌≤◌, ◌<◌, List, length, map, Option, Some, None}
use Rattle.repo_plan.specs.declared.part.Part.{Part}
use Rattle.repo_plan.specs.Calls.{IsFetcher}
use Rattle.repo_plan.specs.Plan.{claim_of}
use Rattle.repo_object.specs.Wants.{WantedPart}
use Rattle.group_model.specs.Publications.{Logs}
use Rattle.group_model.specs.World.{World, someone_holds}
use Rattle.group_model.specs.World as group
use Rattle.group_model.specs.Sound.{IsSoundGroup, IsPublishedPart}
use Rattle.group_model.specs.Settles.{learnt_member}
use Rattle.group_model.specs.Steps.{settled_vector}
use Rattle.repo_member.specs.Groups.{GroupKeys}
use Rattle.repo_member.specs.MemberState.{MemberState, member_plan}
use Rattle.repo_member.specs.InGroup.{AreLogs}
use Rattle.repo_member.specs.ConsistentMembers.{IsConsistentMember, published_want}
use Rattle.repo_mirror.specs.MirrorState.{MirrorState, mirror_holdings}
use Rattle.repo_mirror.specs.ConsistentMirrors.{IsConsistentMirror}
use Rattle.bench_world.specs.declared.touched.Touched.{Touched}
use Rattle.bench_world.specs.Holders.{HolderPredicates}
use Rattle.bench_world.specs.MemberWords.{member_words}
use Rattle.bench_world.specs.Touching.{LacksOnlyTouched, NoneLacks}
use Rattle.bench_world.specs.Unsettled.{MirrorLacksNone, MirrorsLackNone}
use Rattle.bench_world.specs.MirrorSteps.{mirror_at}
use Rattle.bench_world.specs.Truth.{AreFewLogs, TriedFew, AllTriedFew}
use Rattle.bench_world.specs.Worlds.{state_at, in_groups, others_than, logs_around, only_members}
use Rattle.bench_world.specs.Worlds.{AreConsistentMembers, MembersAreNumbered}

-- ---- a fetcher's claim

-- Octets can be compared with the packet of the part `t`: the part was published, and the member `p` is its publisher.
pub record CanCompare (g : GroupKeys) (ls : Logs) (p : MemberState) (t : Part) : Type 0 where
  pub logs : AreLogs g ls
  pub publisher : IsConsistentMember g ls p
  pub number : p.number ≡ t.publisher
  pub part : IsPublishedPart ls t

-- The member `a` is consistent with its group, and `f` is the number of one of its fetchers.
pub record CanWant (g : GroupKeys) (ls : Logs) (f : ℕ) (a : MemberState) : Type 0 where
  pub logs : AreLogs g ls
  pub consistent : IsConsistentMember g ls a
  pub fetcher : IsFetcher f

-- The fetcher `f` of the member `a` claims the part of the want `w`, and the member `p` is the publisher of that part.
pub record CanAccept (g : GroupKeys) (ls : Logs) (f : ℕ) (w : WantedPart) (p a : MemberState) : Type 0 where
  pub logs : AreLogs g ls
  pub publisher : IsConsistentMember g ls p
  pub number : p.number ≡ w.part.publisher
  pub asker : IsConsistentMember g ls a
  pub fetcher : IsFetcher f
  pub claim : claim_of (member_plan a) f ≡ Some w.part
  pub want : w ≡ published_want g ls w.part

-- The fetcher `f` of member `m` can receive a packet for its claim: the member exists, and all members are consistent.
pub record CanGetAt (g : GroupKeys) (ls : Logs) (f m : ℕ) (ms : List MemberState) : Type 0 where
  pub logs : AreLogs g ls
  pub numbers : MembersAreNumbered ms
  pub consistent : AreConsistentMembers g ls ms
  pub width : length ms ≡ length ls
  pub there : m < length ms
  pub fetcher : IsFetcher f

-- Member `q` can answer for the claim of the fetcher `f` of member `m`.
pub record CanAnswerAt (g : GroupKeys) (ls : Logs) (f m q : ℕ) (ms : List MemberState) : Type 0 where
  pub get : CanGetAt g ls f m ms
  pub other : q < length ms

-- ---- one holder and the members that lend

module _ {H : Type 0} (words : HolderPredicates H) where
  -- The holder `s` can gather parts in a settle, in which the network loses nothing.
  pub record CanFetchAll (g : GroupKeys) (ls : Logs) (n : ℕ) (touched : Touched) (lenders : List MemberState)
      (lost : Option ℕ) (s : H) : Type 0 where
    pub workers : (1 ≤ n) × (n ≤ 16)
    pub logs : AreFewLogs g ls
    pub others : AreConsistentMembers g ls lenders
    pub loss : lost ≡ None
    pub consistent : words.is_consistent g ls s
    pub tried : TriedFew (words.holdings s)
    pub lacks : LacksOnlyTouched words touched lenders s

  -- The holder `s` can fetch parts, with at most `most` attempts at each.
  pub record CanFetch (g : GroupKeys) (ls : Logs) (n most : ℕ) (lenders : List MemberState) (s : H) : Type 0 where
    pub workers : (1 ≤ n) × (n ≤ 16)
    pub tries : (1 ≤ most) × (most ≤ 16)
    pub logs : AreFewLogs g ls
    pub others : AreConsistentMembers g ls lenders
    pub consistent : words.is_consistent g ls s
    pub tried : TriedFew (words.holdings s)

-- ---- one mirror and all members

-- Mirror `i` can fetch parts from the members `lenders`, with at most `most` attempts at each.
pub record CanFetchFor (g : GroupKeys) (n most i : ℕ) (lenders : List MemberState) (ms : List MirrorState) : Type
    0 where
  pub workers : (1 ≤ n) × (n ≤ 16)
  pub tries : (1 ≤ most) × (most ≤ 16)
  pub there : i < length ms
  pub few : i < 4
  pub logs : AreFewLogs g (logs_around lenders)
  pub others : AreConsistentMembers g (logs_around lenders) lenders
  pub consistent : IsConsistentMirror g (logs_around lenders) (mirror_at ms i)
  pub tried : TriedFew (mirror_holdings (mirror_at ms i))

-- Mirror `i` can gather parts from the members `lenders` in a settle. `received` is the join of all members' vectors.
pub record CanFetchAllFor (g : GroupKeys) (n i : ℕ) (lenders : List MemberState) (touched : Touched)
    (received : List ℕ) (ms : List MirrorState) : Type 0 where
  pub workers : (1 ≤ n) × (n ≤ 16)
  pub there : i < length ms
  pub few : i < 4
  pub logs : AreFewLogs g (logs_around lenders)
  pub sound : IsSoundGroup (only_members lenders)
  pub others : AreConsistentMembers g (logs_around lenders) lenders
  pub known : received ≡ settled_vector (only_members lenders)
  pub consistent : IsConsistentMirror g (logs_around lenders) (mirror_at ms i)
  pub tried : TriedFew (mirror_holdings (mirror_at ms i))
  pub lacks : MirrorLacksNone touched (someone_holds (in_groups lenders)) (mirror_at ms i)

-- All mirrors can gather parts from the members `lenders` in a settle. `received` is the join of all members' vectors.
pub record CanFetchAllForMirrors (g : GroupKeys) (n : ℕ) (lenders : List MemberState) (touched : Touched)
    (received : List ℕ) (ms : List MirrorState) : Type 0 where
  pub workers : (1 ≤ n) × (n ≤ 16)
  pub few : length ms ≤ 4
  pub logs : AreFewLogs g (logs_around lenders)
  pub sound : IsSoundGroup (only_members lenders)
  pub others : AreConsistentMembers g (logs_around lenders) lenders
  pub known : received ≡ settled_vector (only_members lenders)
  pub consistent : (i : ℕ) → i < length ms → IsConsistentMirror g (logs_around lenders) (mirror_at ms i)
  pub tried : (i : ℕ) → i < length ms → TriedFew (mirror_holdings (mirror_at ms i))
  pub lacks : MirrorsLackNone touched (in_groups lenders) ms

-- ---- all members

-- The members can announce their vectors: each is consistent, and they stand under their numbers.
pub record CanTell (g : GroupKeys) (ls : Logs) (ms : List MemberState) : Type 0 where
  pub logs : AreLogs g ls
  pub numbers : MembersAreNumbered ms
  pub consistent : AreConsistentMembers g ls ms

-- Member `j` can gather parts from the others in a settle.
pub record CanFetchAllAt (g : GroupKeys) (ls : Logs) (n j : ℕ) (touched : Touched) (ms : List MemberState) : Type
    0 where
  pub workers : (1 ≤ n) × (n ≤ 16)
  pub there : j < length ms
  pub logs : AreFewLogs g ls
  pub members : AreConsistentMembers g ls ms
  pub tried : AllTriedFew ms
  pub lacks : LacksOnlyTouched member_words touched (others_than j ms) (state_at ms j)

-- The members `ms` are those of the world `w`, and member `j` can fetch, with at most `most` attempts at each part.
pub record CanFetchAt (g : GroupKeys) (w : World) (n most j : ℕ) (ms : List MemberState) : Type 0 where
  pub workers : (1 ≤ n) × (n ≤ 16)
  pub tries : (1 ≤ most) × (most ≤ 16)
  pub there : j < length ms
  pub logs : AreFewLogs g (group.logs w)
  pub begun : in_groups ms ≡ w.members
  pub numbers : MembersAreNumbered ms
  pub consistent : AreConsistentMembers g (group.logs w) ms
  pub tried : AllTriedFew ms

-- The members `ms` are those of the world `w` after each joined all vectors to its own. They can gather parts in a
-- settle.
pub record CanGatherAll (g : GroupKeys) (w : World) (n : ℕ) (touched : Touched) (ms : List MemberState) : Type
    0 where
  pub workers : (1 ≤ n) × (n ≤ 16)
  pub logs : AreFewLogs g (group.logs w)
  pub sound : IsSoundGroup w
  pub learnt : in_groups ms ≡ map (learnt_member w) w.members
  pub consistent : AreConsistentMembers g (group.logs w) ms
  pub numbers : MembersAreNumbered ms
  pub tried : AllTriedFew ms
  pub lacks : NoneLacks touched (in_groups ms)

-- The members `ms` are those of the world `w`, and can settle.
pub record CanSettle (g : GroupKeys) (w : World) (n : ℕ) (touched : Touched) (ms : List MemberState) : Type 0 where
  pub workers : (1 ≤ n) × (n ≤ 16)
  pub logs : AreFewLogs g (group.logs w)
  pub begun : in_groups ms ≡ w.members
  pub numbers : MembersAreNumbered ms
  pub consistent : AreConsistentMembers g (group.logs w) ms
  pub sound : IsSoundGroup w
  pub tried : AllTriedFew ms
  pub lacks : NoneLacks touched (in_groups ms)
