-- A member by itself and the same member as its group has it.
use Rattle.std.specs.Prelude.{◌≡◌, ℕ, ◌+◌, ◌<◌, ◌≤◌, ◌↔◌, true, List, [], ◌∷◌, ◌++◌, map, filter, length, take}
use Rattle.std.specs.Prelude.{replicate}
use Rattle.std.specs.Prelude.{Option, Some, None, is_some, slice_index_or, slice_set, if◌then◌else◌}
use Rattle.std.specs.List.{All}
use Rattle.svs_vector.specs.Vectors.{join}
use Rattle.svs_sync.specs.declared.fired.Fired.{Fired}
use Rattle.svs_sync.specs.declared.fired.Fired.TheVariants as fired
use Rattle.svs_sync.specs.SyncStates.{when_fired}
use Rattle.repo_plan.specs.declared.part.Part.{Part}
use Rattle.repo_plan.specs.Parts.{part_cmp, pair_of}
use Rattle.sorted_lists.specs.SortedList.{keys, contains, value_of, Rises}
use Rattle.repo_plan.specs.Plan.{wanted}
use Rattle.ndn_name.specs.Names.{Component}
use Rattle.repo_object.specs.Objects.{Post, IsPost}
use Rattle.repo_process.specs.Processes.{Process}
use Rattle.repo_process.specs.Insertions.{next_number}
use Rattle.repo_object.specs.Publication.{packet_at}
use Rattle.group_model.specs.Publications.{Logs, post_at, last_of}
use Rattle.group_model.specs.Member.{Member, member_holds, catalogue, catalogued_under, gains, deletes_all}
use Rattle.group_model.specs.Member.{with_each_tried, member_without_claims}
use Rattle.group_model.specs.Member as group_member
use Rattle.group_model.specs.Sound.{IsPublished, IsSoundMember}
use Rattle.group_model.specs.Wanted.{IsWantedPart, HoldsRecords}
use Rattle.group_model.specs.Changes as group
use Rattle.group_model.specs.World.{Environment, member, initial_world}
use Rattle.group_model.specs.Steps.{can_start}
use Rattle.repo_member.specs.Groups.{GroupKeys, IsGroup, publisher_at}
use Rattle.repo_holdings.specs.Listed.{member_catalogue}
use Rattle.repo_member.specs.MemberState.{MemberState, ArePosts, publication_limit, member_plan, initial_member}
use Rattle.repo_member.specs.MemberState.{member_publishes}
use Rattle.repo_holdings.specs.Taking.{Fetched}
use Rattle.repo_member.specs.MemberState.{member_learns, member_hears, member_fires, member_claims, member_accepts}
use Rattle.repo_member.specs.MemberState.{member_takes}
use Rattle.repo_member.specs.MemberState.{member_ends_claims, member_resets, member_restarts}
use Rattle.repo_member.specs.Deleting.{member_deletes}
use Rattle.repo_member.specs.Commanded.{member_state_starts}
use Rattle.repo_member.specs.Blocks.{member_keeps}

-- The member as its group has it: it holds the parts whose packets it stores.
abbrev pub in_group : MemberState → Member
in_group a = record {
  log = a.log;
  known = a.known;
  held = keys a.store;
  hidden = a.hidden;
  claims = a.claims;
  attempts = a.attempts;
  machine = a.machine;
  processes = a.insertions.processes;
  next_process = a.insertions.next_process;
}

-- The member stores its packets in order of the parts, each part once.
abbrev pub StoresInOrder : MemberState → Type 0
StoresInOrder a = Rises part_cmp (keys a.store)

-- ---- changes of a member by itself, which are changes of that member in its group

-- A new member by itself is a member of a group in which nothing has happened.
abbrev pub BeginsAlike : Type 0
BeginsAlike =
    (env : Environment) (n j : ℕ) → j < n → in_group (initial_member n j 0 (env.draw j 0))
    ≡ member (initial_world env n) j

-- Publishing an object or a withdrawal, with all packets stored, changes the member in its group as the group says.
abbrev pub PublishesAlike : Type 0
PublishesAlike = (g : GroupKeys) (post : Post) (time draw : ℕ) (a : MemberState) → StoresInOrder a
    → in_group (member_publishes g post time draw a) ≡ group.publishes draw time a.number post (in_group a)

-- Hearing a vector changes the member in its group as the group says.
abbrev pub HearsAlike : Type 0
HearsAlike = (received : List ℕ) (time draw : ℕ) (a : MemberState)
    → in_group (member_hears received time draw a) ≡ group.learns draw time received (in_group a)

-- Taking a vector of which the sync state isn't informed, as in a settle, joins it to the vector in the group, too.
abbrev pub LearnsAlike : Type 0
LearnsAlike = (received : List ℕ) (a : MemberState)
    → in_group (member_learns received a) ≡ record (in_group a) { known = join (in_group a).known received }

-- A member of a group after its timer was asked, by the timer's answer.
abbrev pub after_timer : Fired → (draw time : ℕ) → Member → Member
after_timer fired.Early draw time m = m
after_timer fired.Quiet draw time m = group.resets draw time m
after_timer fired.Send draw time m = group.resets draw time m

-- Asking the timer changes the member in its group as the group says.
abbrev pub FiresAlike : Type 0
FiresAlike = (time draw : ℕ) (a : MemberState)
    → in_group (member_fires time draw a)
    ≡ after_timer (when_fired time (in_group a).known (in_group a).machine) draw time (in_group a)

-- A fetcher's claim of a part, or of nothing, changes the member in its group as the group says.
abbrev pub ClaimsAlike : Type 0
ClaimsAlike = (f : ℕ) (claim : Option Part) (a : MemberState)
    → in_group (member_claims f claim a) ≡ group.member_with_claim f claim (in_group a)

-- Accepting the packet of a fetcher's part changes the member in its group as the group says.
abbrev pub AcceptsAlike : Type 0
AcceptsAlike = (f : ℕ) (t : Part) (octets : List ℕ) (a : MemberState) → StoresInOrder a
    → in_group (member_accepts f t octets a) ≡ group.takes f t (in_group a)

-- The parts that a fetch asked for.
abbrev pub asked_for : List Fetched → List Part
asked_for xs = map (λ x. x.part) xs

-- The parts of a fetch whose packets were received.
abbrev pub parts_fetched : List Fetched → List Part
parts_fetched xs = asked_for (filter (λ x. is_some x.packet) xs)

-- Each part was tried as often as `tries` says.
abbrev pub AreTries : (Part → ℕ) → List Fetched → Type 0
AreTries tries xs = All (λ x. x.attempts ≡ tries x.part) xs

-- Taking the outcome of a fetch changes the member in its group so: it holds the parts that were received, and the
-- attempts of each part are counted.
abbrev pub TakesAlike : Type 0
TakesAlike = (tries : Part → ℕ) (xs : List Fetched) (a : MemberState) → StoresInOrder a → AreTries tries xs
    → in_group (member_takes xs a)
    ≡ record (gains (parts_fetched xs) (in_group a)) {
      attempts = with_each_tried tries (asked_for xs) (in_group a).attempts;
    }

-- The end of all claims changes the member in its group as the group says.
abbrev pub EndsClaimsAlike : Type 0
EndsClaimsAlike = (a : MemberState) → in_group (member_ends_claims a) ≡ member_without_claims (in_group a)

-- Resetting the sync state to Steady changes the member in its group as the group says.
abbrev pub ResetsAlike : Type 0
ResetsAlike = (time draw : ℕ) (a : MemberState)
    → in_group (member_resets time draw a) ≡ group.resets draw time (in_group a)

-- A restart changes the member in its group as the group says.
abbrev pub RestartsAlike : Type 0
RestartsAlike = (time draw : ℕ) (a : MemberState)
    → in_group (member_restarts time draw a) ≡ group.restarts draw time (in_group a)

-- The begin of an insertion process, where there is a number for it, changes the member in its group as the group says.
abbrev pub StartsAlike : Type 0
StartsAlike = (name : List Component) (first last : ℕ) (a : MemberState)
    → in_group (member_state_starts name first last a (next_number a.insertions))
    ≡ (if can_start (in_group a) then group.member_starts name first last (in_group a) else in_group a)

-- Keeping an insertion process under a number changes the member in its group as the group says.
abbrev pub KeepsAlike : Type 0
KeepsAlike = (number : ℕ) (p : Process) (a : MemberState)
    → in_group (member_keeps number p a) ≡ group.member_with_process number p (in_group a)

-- ---- what is stored and what was published

-- What the members of a group can have published: a log for each member, of objects within the limits and withdrawals
-- of earlier numbers, with no more publications than there are numbers.
pub record AreLogs (g : GroupKeys) (logs : Logs) : Type 0 where
  pub group : IsGroup g
  pub width : length logs ≡ length g.members.names
  pub posts : All ArePosts logs
  pub few : All (λ log. length log ≤ publication_limit) logs

-- The packet of a part, as its publisher makes it.
abbrev pub published_packet : GroupKeys → Logs → Part → Option (List ℕ)
published_packet g logs t = packet_at (publisher_at g t.publisher) t.seq (post_at logs (pair_of t)) t.part

-- Each stored packet is the one that the publisher of its part made.
abbrev pub AreItsPackets : GroupKeys → Logs → MemberState → Type 0
AreItsPackets g logs a = (t : Part) (octets : List ℕ) → value_of part_cmp a.store t ≡ Some octets
    → published_packet g logs t ≡ Some octets

-- The member stores parts of what was published, in order, and of each the packet that its publisher made.
pub record StoresConsistently (g : GroupKeys) (logs : Logs) (a : MemberState) : Type 0 where
  pub in_order : StoresInOrder a
  pub published : (t : Part) → member_holds (in_group a) t ≡ true → IsPublished logs (pair_of t)
  pub packets : AreItsPackets g logs a

-- A member that is sound in its group, and whose stored packets are those that the publishers of their parts made,
-- stores consistently.
abbrev pub SoundStoresConsistently : Type 0
SoundStoresConsistently = (g : GroupKeys) (logs : Logs) (a : MemberState) → IsSoundMember logs a.number (in_group a)
    → AreItsPackets g logs a → StoresConsistently g logs a

-- The plan of the member by itself, which reads what the stored records list, is the group's plan of that member.
abbrev pub PlansAlike : Type 0
PlansAlike = (g : GroupKeys) (logs : Logs) (a : MemberState) → AreLogs g logs → StoresConsistently g logs a
    → member_plan a ≡ group_member.plan_of logs (in_group a)

-- The member wants the parts that the group says: the records of the known publications, and the published parts that a
-- record or index packet lists which it holds; none that it holds or hides.
abbrev pub WantsAlike : Type 0
WantsAlike = (g : GroupKeys) (logs : Logs) (a : MemberState) (t : Part) → AreLogs g logs → StoresConsistently g logs a
    → HoldsRecords (in_group a)
    → (contains part_cmp (wanted (member_plan a)) t ≡ true) ↔ IsWantedPart logs (in_group a) t

-- The catalogue of the member by itself, which reads the stored packets, is the group's catalogue of that member.
abbrev pub ListsAlike : Type 0
ListsAlike = (g : GroupKeys) (logs : Logs) (a : MemberState) → AreLogs g logs → StoresConsistently g logs a
    → member_catalogue a.store ≡ catalogue logs (in_group a)

-- A deletion by name changes the member in its group as the group says: the same publications are hidden.
abbrev pub DeletesAlike : Type 0
DeletesAlike = (g : GroupKeys) (logs : Logs) (name : List Component) (a : MemberState) → AreLogs g logs
    → StoresConsistently g logs a
    → in_group (member_deletes name a) ≡ deletes_all (catalogued_under logs (in_group a) name) (in_group a)

-- ---- what lasts

-- The publication of part `t` was published, and `octets` are the packet of `t` that its publisher made.
pub record IsItsPacket (g : GroupKeys) (logs : Logs) (t : Part) (octets : List ℕ) : Type 0 where
  pub published : IsPublished logs (pair_of t)
  pub packet : published_packet g logs t ≡ Some octets

-- If a packet was received for part `t`, it is the packet of `t` that its publisher made.
abbrev pub IsConsistentFetch : GroupKeys → Logs → Part → Option (List ℕ) → Type 0
IsConsistentFetch g logs t None = Unit {0}
IsConsistentFetch g logs t (Some octets) = IsItsPacket g logs t octets

-- Each log in `later` begins with the log of the same member in `logs`.
abbrev pub GrowInto : Logs → Logs → Type 0
GrowInto logs later = (p : ℕ) → take (last_of logs p) (slice_index_or later p []) ≡ slice_index_or logs p []

-- A new member stores consistently.
abbrev pub BeginsConsistently : Type 0
BeginsConsistently = (g : GroupKeys) (logs : Logs) (members number time draw : ℕ)
    → StoresConsistently g logs (initial_member members number time draw)

-- A member stores consistently in the logs that `logs` grow into.
abbrev pub GrowsConsistently : Type 0
GrowsConsistently = (g : GroupKeys) (logs later : Logs) (a : MemberState) → GrowInto logs later
    → StoresConsistently g logs a
    → StoresConsistently g later a

-- A member that publishes stores consistently, where its log with the publication is the group's log of its number.
abbrev pub PublishesConsistently : Type 0
PublishesConsistently = (g : GroupKeys) (post : Post) (time draw : ℕ) (logs : Logs) (a : MemberState)
    → a.number < length logs → slice_index_or logs a.number [] ≡ a.log → StoresConsistently g logs a →
    let published = member_publishes g post time draw a in
    StoresConsistently g (slice_set logs a.number published.log) published

-- A member that accepts the published packet of a part stores consistently.
abbrev pub AcceptsConsistently : Type 0
AcceptsConsistently = (g : GroupKeys) (logs : Logs) (f : ℕ) (t : Part) (octets : List ℕ) (a : MemberState)
    → IsItsPacket g logs t octets → StoresConsistently g logs a
    → StoresConsistently g logs (member_accepts f t octets a)

-- A member that takes the outcome of a fetch stores consistently, if each packet is the published one of its part.
abbrev pub TakesConsistently : Type 0
TakesConsistently = (g : GroupKeys) (logs : Logs) (xs : List Fetched) (a : MemberState)
    → All (λ x. IsConsistentFetch g logs x.part x.packet) xs → StoresConsistently g logs a
    → StoresConsistently g logs (member_takes xs a)

-- A change that leaves the stored packets as they are leaves the member storing consistently.
abbrev pub StaysConsistent : Type 0
StaysConsistent =
    (g : GroupKeys) (logs : Logs) (a b : MemberState) → b.store ≡ a.store → StoresConsistently g logs a
    → StoresConsistently g logs b

-- Logs without a publication, one for each member, can be what the members of a group have published.
abbrev pub LogsBegin : Type 0
LogsBegin = (g : GroupKeys) → IsGroup g → AreLogs g (replicate (length g.members.names) [])

-- Logs stay within the limits when a member publishes once more, where it has a number left for it.
abbrev pub LogsGrow : Type 0
LogsGrow = (g : GroupKeys) (logs : Logs) (j : ℕ) (post : Post) → AreLogs g logs → j < length logs
    → IsPost (last_of logs j + 1) post → last_of logs j < publication_limit
    → AreLogs g (slice_set logs j (slice_index_or logs j [] ++ post ∷ []))
