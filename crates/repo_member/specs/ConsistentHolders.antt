-- Consistent holders: members or mirrors of a group whose stored packets were published, what they want, and what they
-- take.
use Rattle.std.specs.Prelude.{◌≡◌, ℕ, true, false, ◌||◌, List, Some, IsOk, IfSome}
use Rattle.std.specs.List.{All}
use Rattle.sorted_lists.specs.SortedList.{keys, contains, value_of}
use Rattle.repo_plan.specs.declared.part.Part.{Part}
use Rattle.repo_plan.specs.Parts.{Pair, pair_cmp, part_cmp, part_of}
use Rattle.repo_plan.specs.Plan.{is_wanted, is_unclaimed}
use Rattle.repo_object.specs.Verdict.{ring_verdict}
use Rattle.repo_holdings.specs.Records.{Packet}
use Rattle.repo_holdings.specs.HoldingsState.{HoldingsState, AreInOrder, held_plan}
use Rattle.repo_holdings.specs.Taking.{Fetched, with_all_fetched, with_all_tries, after_outcome}
use Rattle.repo_holdings.specs.Wanting.{want_at}
use Rattle.group_model.specs.Publications.{Logs}
use Rattle.group_model.specs.Sound.{IsKnown, IsConsistentVector, IsHeldSoundly, IsPublishedPart}
use Rattle.repo_member.specs.Groups.{GroupKeys}
use Rattle.repo_member.specs.MemberState.{MemberState, initial_member, member_holdings, member_takes}
use Rattle.repo_member.specs.InGroup.{AreLogs, StoresConsistently, published_packet, parts_fetched}
use Rattle.repo_member.specs.ConsistentMembers.{IsConsistentMember, published_want, published_packets}

-- The holder `h` knows the hidden publication `pair`, and holds no part of it.
pub record IsHiddenFrom (h : HoldingsState) (pair : Pair) : Type 0 where
  pub known : IsKnown h.known pair
  pub none_held : (x : ℕ) → contains part_cmp (keys h.store) (part_of pair x) ≡ false

-- The vector of the holder `h` reports no publication that there isn't. Each part that it holds is one of a known
-- publication; it holds the record of that publication too, and the part that lists it. Each hidden publication is
-- known, and no part of it is held. Each stored packet is the one that the publisher of its part made.
pub record IsConsistentHolder (g : GroupKeys) (logs : Logs) (h : HoldingsState) : Type 0 where
  pub vector : IsConsistentVector logs h.known
  pub in_order : AreInOrder h
  pub held : (t : Part) → contains part_cmp (keys h.store) t ≡ true → IsHeldSoundly logs h.known (keys h.store) t
  pub hidden : (pair : Pair) → contains pair_cmp h.hidden pair ≡ true → IsHiddenFrom h pair
  pub packets : (t : Part) (octets : List ℕ) → value_of part_cmp h.store t ≡ Some octets
      → published_packet g logs t ≡ Some octets

-- A member that published nothing, and whose vector, packets, hidden publications, claims and attempts are those of the
-- holder `h`.
abbrev pub member_with : HoldingsState → MemberState
member_with h = record (initial_member 0 0 0 0) {
  known = h.known;
  store = h.store;
  hidden = h.hidden;
  claims = h.claims;
  attempts = h.attempts;
}

-- ---- which holders are consistent

-- A consistent member is a consistent holder.
abbrev pub MembersAreHolders : Type 0
MembersAreHolders =
    (g : GroupKeys) (logs : Logs) (a : MemberState) → IsConsistentMember g logs a
    → IsConsistentHolder g logs (member_holdings a)

-- A consistent holder stores parts of what was published, in order, and of each the packet that its publisher made.
abbrev pub HoldersStoreConsistently : Type 0
HoldersStoreConsistently = (g : GroupKeys) (logs : Logs) (h : HoldingsState) → IsConsistentHolder g logs h
    → StoresConsistently g logs (member_with h)

-- What a consistent holder stores are the published packets of the parts that it holds.
abbrev pub HoldersStoreThose : Type 0
HoldersStoreThose = (g : GroupKeys) (logs : Logs) (h : HoldingsState) → IsConsistentHolder g logs h
    → h.store ≡ published_packets g logs (keys h.store)

-- ---- what is wanted

-- A part that a consistent holder wants was published.
abbrev pub HoldersWantPublished : Type 0
HoldersWantPublished = (g : GroupKeys) (logs : Logs) (h : HoldingsState) (t : Part) → AreLogs g logs
    → IsConsistentHolder g logs h → is_wanted (held_plan h) t ≡ true → IsPublishedPart logs t

-- The want that a consistent holder has of a part is that of the published part.
abbrev pub HoldersWantConsistently : Type 0
HoldersWantConsistently = (g : GroupKeys) (logs : Logs) (h : HoldingsState) (t : Part) → AreLogs g logs
    → IsConsistentHolder g logs h → is_wanted (held_plan h) t ≡ true
    → want_at g.members.names g.name h.store t ≡ published_want g logs t

-- The published packet of a part that a consistent holder wants passes for the holder's want.
abbrev pub PacketsPassForHolders : Type 0
PacketsPassForHolders = (g : GroupKeys) (logs : Logs) (h : HoldingsState) (t : Part) (octets : List ℕ)
    → AreLogs g logs → IsConsistentHolder g logs h → is_wanted (held_plan h) t ≡ true → published_packet g logs t
    ≡ Some octets
    → IsOk (ring_verdict (want_at g.members.names g.name h.store t) g.members.ring octets)

-- ---- what is taken

-- The parts that are stored after a fetch are those that were received, and those that were stored before.
abbrev pub FetchedAreStored : Type 0
FetchedAreStored = (xs : List Fetched) (stored : List Packet) (u : Part)
    → contains part_cmp (keys (with_all_fetched xs stored)) u
    ≡ (contains part_cmp (parts_fetched xs) u || contains part_cmp (keys stored) u)

-- A member that takes the parts of a fetch one by one has the packets and attempts of taking all at once.
abbrev pub MembersTakeAll : Type 0
MembersTakeAll = (xs : List Fetched) (a : MemberState)
    → member_takes xs a ≡ record a { store = with_all_fetched xs a.store; attempts = with_all_tries xs a.attempts }

-- The octets that were received for part `t` are its published packet; the holder `h` wants `t`, and no fetcher claims
-- it.
pub record ArrivesConsistently (g : GroupKeys) (logs : Logs) (h : HoldingsState) (t : Part) (octets : List ℕ) : Type
    0 where
  pub unclaimed : is_unclaimed (held_plan h) t ≡ true
  pub packet : published_packet g logs t ≡ Some octets

-- A consistent holder stays consistent when it takes the outcome of a fetch whose packets are published ones of wanted
-- parts that no fetcher claims.
abbrev pub HoldersTakeConsistently : Type 0
HoldersTakeConsistently = (g : GroupKeys) (logs : Logs) (xs : List Fetched) (h : HoldingsState) → AreLogs g logs
    → All (λ x. IfSome x.packet (ArrivesConsistently g logs h x.part)) xs → IsConsistentHolder g logs h
    → IsConsistentHolder g logs (after_outcome xs h)
