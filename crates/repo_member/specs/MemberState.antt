-- A member by itself: its own state, without what it can't know of other members.
use Rattle.std.specs.Prelude.{◌≡◌, ℕ, ◌+◌, ◌-◌, ◌<◌, true, List, [], ◌∷◌, ◌++◌, length, Option, Some, None, slice_get}
use Rattle.std.specs.Prelude.{slice_set, slice_index, replicate, ◌==◌, if◌then◌else◌}
use Rattle.std.specs.Option.{option_and_then}
use Rattle.svs_vector.specs.Vectors.{join}
use Rattle.svs_sync.specs.SyncStates.{SyncState, becomes_steady, after_hearing, state_after_firing}
use Rattle.svs_sync.specs.Suppression.{periodic}
use Rattle.repo_plan.specs.declared.part.Part.{Part}
use Rattle.repo_plan.specs.Parts.{Pair, part_cmp}
use Rattle.sorted_lists.specs.SortedList.{Rises, keys}
use Rattle.repo_plan.specs.Plan.{PlanState, no_claims, knows, hides}
use Rattle.repo_object.specs.Objects.{Post, IsPost, Publisher}
use Rattle.repo_object.specs.Publication.{packets, packet_at}
use Rattle.repo_object.specs.Wants.{WantedPart}
use Rattle.repo_process.specs.Insertions.{Insertions}
use Rattle.repo_store.specs.StoreList.{with_packet}
use Rattle.group_model.specs.Member.{with_tries}
pub use Rattle.repo_holdings.specs.NewPublications.{as_parts, with_packets}
pub use Rattle.repo_holdings.specs.Taking.{Fetched, with_fetched}
pub use Rattle.repo_holdings.specs.Wanting.{nothing_listed}
use Rattle.repo_holdings.specs.Wanting.{want_at}
use Rattle.repo_holdings.specs.Records.{Packet}
use Rattle.repo_holdings.specs.HoldingsState.{HoldingsState, held_plan}
use Rattle.repo_member.specs.Groups.{GroupKeys, publisher_at}

-- all that a member has by itself
pub record MemberState : Type 0 where
  pub number : ℕ  -- its place in the group
  pub log : List Post  -- what it published, in order
  pub known : List ℕ  -- its vector: a SeqNo for each member
  pub store : List Packet  -- the packet of each part that it holds, in order of the parts
  pub hidden : List Pair  -- in order
  pub claims : List (Option Part)  -- by fetcher; the first stands at place 0
  pub attempts : List (Part × ℕ)  -- in order, without 0
  pub machine : SyncState
  pub insertions : Insertions  -- its insertion processes

-- no insertion processes
abbrev pub no_insertions : Insertions
no_insertions = record { processes = []; next_process = 1 }

-- a member that has nothing yet: number `number` of a group of `members` members, with its first draw `draw` at `time`
abbrev pub initial_member : ℕ → ℕ → ℕ → ℕ → MemberState
initial_member members number time draw = record {
  number = number;
  log = [];
  known = replicate members 0;
  store = [];
  hidden = [];
  claims = no_claims;
  attempts = [];
  machine = record { members = members; heard = None; deadline = time + periodic draw; draws = 1 };
  insertions = no_insertions;
}

-- what the member has of publications: its vector, packets, hidden publications, claims and attempts
abbrev pub member_holdings : MemberState → HoldingsState
member_holdings a = record {
  known = a.known;
  store = a.store;
  hidden = a.hidden;
  claims = a.claims;
  attempts = a.attempts;
  spare = 0;
}

-- the member's fetch plan: it holds the parts that it stores, and the stored records say which parts there are
abbrev pub member_plan : MemberState → PlanState
member_plan a = held_plan (member_holdings a)

-- what holds of every member: its number is one of its group, its vector has the number of its latest publication, its
-- sync state is for all members of its vector, it stores each part once, in order, and it knows each publication that
-- it hid
pub record IsMemberState (a : MemberState) : Type 0 where
  pub member : a.number < length a.known
  pub own : slice_index a.known a.number ≡ length a.log
  pub width : a.machine.members ≡ length a.known
  pub in_order : Rises part_cmp (keys a.store)
  pub hidden : (pair : Pair) → hides (member_plan a) pair ≡ true → knows (member_plan a) pair ≡ true

-- each publication of `log` can have its number, counted from 1: it is an object within the limits, or withdraws an
-- earlier number
abbrev pub ArePosts : List Post → Type 0
ArePosts log = (i : ℕ) (post : Post) → slice_get log i ≡ Some post → IsPost (i + 1) post

-- the number of members of the group is the length of the member's vector
abbrev pub IsOfGroup : GroupKeys → MemberState → Type 0
IsOfGroup g a = length g.members.names ≡ length a.known

-- ---- publishing

-- how many publications a member has at most, which is the number of the last
abbrev pub publication_limit : ℕ
publication_limit = 65535

-- the number of the next publication
abbrev pub next_seq : MemberState → ℕ
next_seq a = length a.log + 1

-- the packets of the member's next publication, `post`, each under its part
abbrev pub new_packets : GroupKeys → Post → MemberState → List Packet
new_packets g post a =
    as_parts (a.number, next_seq a) 0 (packets (publisher_at g a.number) (next_seq a) post)

-- an object or a withdrawal is published: the member holds all its packets
abbrev pub member_publishes : GroupKeys → Post → ℕ → ℕ → MemberState → MemberState
member_publishes g post time draw a = record a {
  log = a.log ++ post ∷ [];
  known = slice_set a.known a.number (next_seq a);
  store = with_packets (new_packets g post a) a.store;
  machine = becomes_steady time draw a.machine;
}

-- the packet of part `t` of the publication `post`, as `publisher` makes it under the number that `t` has
abbrev pub packet_in : Publisher → Part → Post → Option (List ℕ)
packet_in publisher t post = packet_at publisher t.seq post t.part

-- The packet of a part that the member itself published, by its log.
abbrev pub logged : GroupKeys → MemberState → Part → Option (List ℕ)
logged g a t =
    if t.publisher == a.number then
    if t.seq == 0 then None
    else option_and_then (packet_in (publisher_at g a.number) t) (slice_get a.log (t.seq - 1))
    else None

-- ---- hearing

-- The member knows of all that a vector reports.
abbrev pub member_learns : List ℕ → MemberState → MemberState
member_learns received a = record a { known = join a.known received }

-- the member takes the vector `received`, and its sync state hears it along with the vector that the member had before
abbrev pub member_hears : List ℕ → ℕ → ℕ → MemberState → MemberState
member_hears received time draw a =
    record (member_learns received a) { machine = after_hearing time received a.known draw a.machine a.machine.heard }

-- The member's timer is asked at this time, in milliseconds.
abbrev pub member_fires : ℕ → ℕ → MemberState → MemberState
member_fires time draw a = record a { machine = state_after_firing time draw a.machine }

-- ---- fetching

-- a fetcher claims a part, or nothing
abbrev pub member_claims : ℕ → Option Part → MemberState → MemberState
member_claims f claim a = record a { claims = slice_set a.claims (f - 1) claim }

-- the want of a part: a record is asked for by its publisher's name, an index packet as the stored record lists it, and
-- a segment as the stored record or index packet does
abbrev pub want_of : GroupKeys → List Packet → Part → WantedPart
want_of g stored t = want_at g.members.names g.name stored t

-- the member stores the packet `octets` of part `t`, and the claim of fetcher `f` ends
abbrev pub member_accepts : ℕ → Part → List ℕ → MemberState → MemberState
member_accepts f t octets a = record (member_claims f None a) { store = with_packet t octets a.store }

-- ---- a fetch's outcome

-- The packets that were received are stored, and all attempts counted.
abbrev pub member_takes : List Fetched → MemberState → MemberState
member_takes [] a = a
member_takes (x ∷ xs) a = member_takes xs (record a {
  store = with_fetched x.part x.packet a.store;
  attempts = with_tries x.part x.attempts a.attempts;
})

-- ---- starting again

-- No fetcher of the member claims a part.
abbrev pub member_ends_claims : MemberState → MemberState
member_ends_claims a = record a { claims = no_claims }

-- The member's sync state is Steady from this time on.
abbrev pub member_resets : ℕ → ℕ → MemberState → MemberState
member_resets time draw a = record a { machine = becomes_steady time draw a.machine }

-- Insertion processes end, and the number of the next one stays.
abbrev pub member_ends_insertions : MemberState → MemberState
member_ends_insertions a = record a { insertions = record a.insertions { processes = [] } }

-- The member starts again: claims and insertion processes end, and its sync state is Steady.
abbrev pub member_restarts : ℕ → ℕ → MemberState → MemberState
member_restarts time draw a = member_resets time draw (member_ends_insertions (member_ends_claims a))
