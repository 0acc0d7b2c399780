-- The plan and the packets of a member, which belong together, and packets that are received.
use Rattle.std.specs.Prelude.{◌≡◌, ℕ, ◌+◌, ◌≤◌, true, false, List, Option, Some, None, option_map, is_some, IsOk, ◌==◌}
use Rattle.std.specs.Prelude.{if◌then◌else◌}
use Rattle.ndn_data.specs.Data.{data_of}
use Rattle.repo_plan.specs.declared.part.Part.{Part}
use Rattle.repo_plan.specs.Parts.{Pair, part_cmp, shape_of_segments}
use Rattle.repo_plan.specs.declared.shape.Shape.{Shape}
use Rattle.sorted_lists.specs.SortedList.{Rises, keys, value_of}
use Rattle.repo_plan.specs.Plan.{PlanState, holds}
use Rattle.repo_plan.specs.Sound.{CanBeHeld}
use Rattle.repo_object.specs.Publication.{RecordSays}
use Rattle.repo_object.specs.Publication.RecordSays.{Lists, WithdrawsNumber}
use Rattle.repo_object.specs.Verdict.{stated_in}
use Rattle.repo_store.specs.StoreList.{StoreList}
use Rattle.repo_catalog.specs.declared.entry.Entry.{Entry}
use Rattle.repo_catalog.specs.Entries.{with_entry}
use Rattle.repo_holdings.specs.declared.record_summary.RecordSummary.{RecordSummary}
use Rattle.repo_holdings.specs.declared.record_summary.RecordSummary.TheVariants.{Object, Withdrawal}
use Rattle.repo_holdings.specs.Records.{Packet}
use Rattle.repo_holdings.specs.Listed.{stored_at, stated_at, listed_shape, shapes_in}
use Rattle.repo_holdings.specs.StoredParents.{lists_at, ListsAsMany}

-- a plan holds what is stored, and knows what the stored records say; the record of each stored part is stored, and
-- each stored index packet lists as many digests as it must
pub record PlanFits (plan : PlanState) (packets : List Packet) : Type 0 where
  pub in_order : Rises part_cmp (keys packets)
  pub held : plan.held ≡ keys packets
  pub shapes : plan.shapes ≡ shapes_in packets
  pub recorded : (pair : Pair) (x : ℕ) → is_some (stored_at packets pair x) ≡ true
      → is_some (stated_at packets pair) ≡ true
  pub indexed : (t : Part) (octets : List ℕ) → value_of part_cmp packets t ≡ Some octets
      → ListsAsMany octets (lists_at packets t)

-- the entries with one more, if there is one
abbrev pub with_listed : Option Entry → List Entry → List Entry
with_listed None entries = entries
with_listed (Some e) entries = with_entry e entries

-- there is room to hold `n` parts
pub record HaveRoomFor (n : ℕ) (plan : PlanState) (store : StoreList) : Type 0 where
  pub for_plan : n ≤ plan.spare
  pub for_store : n ≤ store.spare

-- the room for `n` parts was used
pub record HaveUsed (n : ℕ) (plan : PlanState) (store : StoreList) (plan_now : PlanState) (store_now : StoreList)
    : Type 0 where
  pub of_plan : plan_now.spare + n ≡ plan.spare
  pub of_store : store_now.spare + n ≡ store.spare

-- a part is not held, and may be held from now on
pub record IsMissing (plan : PlanState) (t : Part) : Type 0 where
  pub free : CanBeHeld plan t
  pub not_held : holds plan t ≡ false

-- ---- packets that are received

-- the summary of what a record says
abbrev pub summary_of : RecordSays → RecordSummary
summary_of (Lists l) = Object (listed_shape l) l.name
summary_of (WithdrawsNumber seq) = Withdrawal seq

-- which parts the publication has: a withdrawal has its record alone
abbrev pub summary_shape : RecordSummary → Shape
summary_shape (Object shape name) = shape
summary_shape (Withdrawal seq) = shape_of_segments 0

-- the summary of what the packet of a part says; `None` where the part is no record
abbrev pub summary_in : Part → List ℕ → Option RecordSummary
summary_in t octets = if t.part == 0 then option_map summary_of (stated_in octets) else None

-- the part counts in the summary of a part's packet, if it has one
abbrev pub shape_in_summary : Part → List ℕ → Option Shape
shape_in_summary t octets = option_map summary_shape (summary_in t octets)

-- a packet that may be stored for a part, with the shape that it reports
pub record IsPacketOf (packets : List Packet) (t : Part) (octets : List ℕ) (known : Option Shape) : Type 0 where
  pub shape : is_some known ≡ (t.part == 0)
  pub summary : known ≡ shape_in_summary t octets
  pub lists : ListsAsMany octets (lists_at packets t)

-- a packet that was received for a part, with the summary in it, which a record has and no other part
pub record IsArrival (packets : List Packet) (t : Part) (octets : List ℕ) (summary : Option RecordSummary) : Type
    0 where
  pub reads : IsOk (data_of octets)
  pub record_part : is_some summary ≡ (t.part == 0)
  pub tells : summary ≡ summary_in t octets
  pub lists : ListsAsMany octets (lists_at packets t)

-- what a plan knows, its claims, its hidden publications and its attempts are unchanged
pub record KeepsOthers (old new : PlanState) : Type 0 where
  pub known : new.known ≡ old.known
  pub claims : new.claims ≡ old.claims
  pub hidden : new.hidden ≡ old.hidden
  pub attempts : new.attempts ≡ old.attempts
