-- The members of a settle, each in its place.
use Rattle.std.specs.Prelude.{ℕ, ◌≡◌, ◌≢◌, ◌+◌, ◌*◌, ◌<◌, ◌≤◌, Bool, true, false, not, List, [], ◌∷◌, ◌++◌, length}
use Rattle.std.specs.Prelude.{None}
use Rattle.std.specs.Prelude.{filter, slice_index, slice_index_or}
use Rattle.repo_plan.specs.declared.part.Part.{Part}
use Rattle.sorted_lists.specs.SortedList.{contains, keys}
use Rattle.repo_plan.specs.Parts.{part_cmp}
use Rattle.repo_plan.specs.Plan.{no_claims, claim_of}
use Rattle.group_model.specs.Publications.{Logs, last_of, all_parts, join_of}
use Rattle.group_model.specs.OneMember.{KnowsAll}
use Rattle.repo_member.specs.MemberState.{MemberState, initial_member, member_plan, member_claims}
use Rattle.repo_holdings.specs.Listed.{member_catalogue}
use Rattle.live_member.specs.declared.event.LiveEvent.TheVariants as event
use Rattle.live_member.specs.declared.event.LiveReply.TheVariants as reply
use Rattle.live_member.specs.declared.event.LiveEntry.{LiveEntry}
use Rattle.live_member.specs.Meanings.{Meaning, whole_logs}
use Rattle.live_member.specs.Lives.{Living, living, IsLive}
use Rattle.live_member.specs.Entries.{claims_by}
use Rattle.live_member.specs.LockedCalls.{entry}

-- The member at a place.
abbrev pub at : List Living → ℕ → Living
at ls p = slice_index_or ls p (living (initial_member 0 0 0 0) [] [])

-- Each member is live, with at most 1,000,000 entries in its journal.
abbrev pub AreLive : Meaning → List Living → Type 0
AreLive t ls = (p : ℕ) → p < length ls → IsLive t 1000000 (at ls p)

-- Each member stands at the place of its number.
pub record ArePlaced (t : Meaning) (ls : List Living) : Type 0 where
  pub width : length ls ≡ length t.lists
  pub numbers : (p : ℕ) → p < length ls → (at ls p).state.number ≡ p

-- From place `from` on, no journal has more than `most` entries.
abbrev pub HasRoom : ℕ → ℕ → List Living → Type 0
HasRoom from most ls = (p : ℕ) → from ≤ p → p < length ls → length (at ls p).journal ≤ most

-- A journal that begins with an earlier one, unchanged. Fetcher 2 claims nothing more in it.
pub record Continues (old new : List LiveEntry) : Type 0 where
  pub more : List LiveEntry
  pub journal : new ≡ old ++ more
  pub second : claims_by 2 more ≡ 0

-- Each member's journal begins with the one that it had.
abbrev pub KeepPrefixes : List Living → List Living → Type 0
KeepPrefixes old new = (p : ℕ) → Continues (at old p).journal (at new p).journal

-- Only the member at place `j` has changed, and its journal begins with the one that it had.
pub record Only (j : ℕ) (old new : List Living) : Type 0 where
  pub width : length new ≡ length old
  pub others : (p : ℕ) → p ≢ j → at new p ≡ at old p
  pub number : (at new j).state.number ≡ (at old j).state.number
  pub prefix : Continues (at old j).journal (at new j).journal

-- ---- what was published, and claims

-- The claim of fetcher `f` has ended, by an entry; where there was none nothing has changed.
pub record Loses (t : Meaning) (f : ℕ) (old new : Living) : Type 0 where
  pub live : IsLive t 1000000 new
  pub none : claim_of (member_plan old.state) f ≡ None → new ≡ old
  pub claims : new.state.claims ≡ (member_claims f None old.state).claims
  pub number : new.state.number ≡ old.state.number
  pub unpublished : new.unpublished ≡ old.unpublished
  pub entries : length new.journal ≤ length old.journal + 1
  pub prefix : Continues old.journal new.journal

-- A member whose whole list is published, and of which no fetcher claims a part.
pub record IsReady (t : Meaning) (l : Living) : Type 0 where
  pub live : IsLive t 1000000 l
  pub unpublished : l.unpublished ≡ []
  pub claims : l.state.claims ≡ no_claims

-- A member was made ready, with at most `most` entries in its journal. Its journal begins with the one that it had.
pub record MakesReady (t : Meaning) (most : ℕ) (old new : Living) : Type 0 where
  pub ready : IsReady t new
  pub number : new.state.number ≡ old.state.number
  pub entries : length new.journal ≤ most
  pub prefix : Continues old.journal new.journal

-- All members are in their places, and each is ready for a settle.
pub record AreReady (t : Meaning) (ls : List Living) : Type 0 where
  pub placed : ArePlaced t ls
  pub each : (p : ℕ) → p < length ls → IsReady t (at ls p)

-- ---- what is heard

-- A vector with these numbers reports all publications of the first `n` members.
abbrev pub KnowsThose : Logs → ℕ → List ℕ → Type 0
KnowsThose ls n known = (p : ℕ) → p < n → last_of ls p ≤ slice_index known p

-- The member at place `j` knows of the lists of the first `n` members, by at most `entries` entries more.
pub record Hears (t : Meaning) (j n entries : ℕ) (old new : List Living) : Type 0 where
  pub only : Only j old new
  pub ready : IsReady t (at new j)
  pub knows : KnowsThose (whole_logs t) n (at new j).state.known
  pub few : length (at new j).journal ≤ length (at old j).journal + entries

-- A member that knows of all lists.
pub record IsGathering (t : Meaning) (l : Living) : Type 0 where
  pub ready : IsReady t l
  pub knows : KnowsAll (whole_logs t) l.state.known

-- All members know of all lists.
abbrev pub AreGathering : Meaning → List Living → Type 0
AreGathering t ls = (p : ℕ) → p < length ls → IsGathering t (at ls p)

-- The member at place `j` can fetch: all are ready, and it knows of all lists.
pub record CanGather (t : Meaning) (j : ℕ) (ls : List Living) : Type 0 where
  pub ready : AreReady t ls
  pub there : j < length ls
  pub gathering : IsGathering t (at ls j)

-- ---- what is fetched

-- The parts of the lists that a member doesn't hold.
abbrev pub missing : Logs → List Part → List Part
missing ls held = filter (λ t. not (contains part_cmp held t)) (all_parts ls)

-- How many parts of the lists a member doesn't hold.
abbrev pub missing_of : Meaning → MemberState → ℕ
missing_of t a = length (missing (whole_logs t) (keys a.store))

-- The member at place `j` gained at least `turns` parts, by at most `2 * turns` entries.
pub record Turned (t : Meaning) (j turns : ℕ) (old new : List Living) : Type 0 where
  pub only : Only j old new
  pub gathering : IsGathering t (at new j)
  pub fewer : missing_of t (at new j).state + turns ≤ missing_of t (at old j).state
  pub few : length (at new j).journal ≤ length (at old j).journal + 2 * turns

-- A member whose catalogue is the join of all lists.
pub record IsJoined (t : Meaning) (l : Living) : Type 0 where
  pub ready : IsReady t l
  pub catalogue : member_catalogue l.state.store ≡ join_of (whole_logs t)

-- The catalogue of the member at place `j` is the join of all lists.
pub record Joins (t : Meaning) (j : ℕ) (old new : List Living) : Type 0 where
  pub only : Only j old new
  pub joined : IsJoined t (at new j)

-- The member at place `j` gained a part; or nothing is to be claimed, and its catalogue is the join of all lists.
abbrev pub AfterTurn : Meaning → ℕ → List Living → List Living → Bool → Type 0
AfterTurn t j old new true = Turned t j 1 old new
AfterTurn t j old new false = Joins t j old new

-- Fetcher 1 has claimed a part and taken its packet, by two entries.
pub record ClaimsAndTakes (old new : Living) : Type 0 where
  pub part : Part
  pub journal : new.journal
      ≡ old.journal ++ entry (event.Claim 1) (reply.Claimed part) ∷ entry (event.Accept 1 part) reply.Kept ∷ []

-- Fetcher 1 has claimed a part and taken its packet, by two entries; or it found no part, by one entry.
abbrev pub EntersTurn : Living → Living → Bool → Type 0
EntersTurn old new true = ClaimsAndTakes old new
EntersTurn old new false = new.journal ≡ old.journal ++ entry (event.Claim 1) reply.NoPart ∷ []

-- The catalogue of every member is the join of all lists.
abbrev pub AreJoined : Meaning → List Living → Type 0
AreJoined t ls = (p : ℕ) → p < length ls → IsJoined t (at ls p)
