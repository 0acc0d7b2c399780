-- New publications, all parts of which are stored at once.
use Rattle.std.specs.Prelude.{◌≡◌, ℕ, ◌+◌, ◌-◌, true, false, List, [], ◌∷◌, length, Option, Some, option_map}
use Rattle.std.specs.Option.{option_and_then}
use Rattle.repo_plan.specs.Parts.{Pair, part_of, last_part}
use Rattle.repo_plan.specs.Plan.{PlanState, knows, holds, hides, is_claimed}
use Rattle.repo_object.specs.Publication.{Listed}
use Rattle.repo_object.specs.Verdict.{stated_in}
use Rattle.repo_store.specs.StoreList.{with_packet}
use Rattle.repo_holdings.specs.declared.record_summary.RecordSummary.{RecordSummary}
use Rattle.repo_holdings.specs.Records.{Packet}
use Rattle.repo_holdings.specs.Listed.{listing_in}
use Rattle.repo_holdings.specs.StoredParents.{index_count, ListsAsMany}
use Rattle.repo_holdings.specs.Gaining.{summary_of, summary_shape}
use Rattle.repo_holdings.specs.HoldingsState.{HoldingsState}

-- the packets `stored`, after the packets of a list were put one after another
abbrev pub with_packets : List Packet → List Packet → List Packet
with_packets [] stored = stored
with_packets (e ∷ es) stored = with_packets es (with_packet e.0 e.1 stored)

-- packets as those of a publication's parts, from part `x` on
abbrev pub as_parts : Pair → ℕ → List (List ℕ) → List Packet
as_parts pair x [] = []
as_parts pair x (octets ∷ more) = (part_of pair x, octets) ∷ as_parts pair (x + 1) more

-- of the packets from part `x` on of a publication whose record lists `l`, each index packet lists as many digests as
-- it must
abbrev pub ListInTurn : Option Listed → ℕ → List (List ℕ) → Type 0
ListInTurn l x [] = Unit {0}
ListInTurn l x (octets ∷ more) =
    ListsAsMany octets (option_and_then (index_count x) l) × ListInTurn l (x + 1) more

-- the packets of a publication with this summary: first a record that says so, and then a packet for each part after
-- it, of which each index packet lists as many digests as it must
abbrev pub ArePackets : RecordSummary → List (List ℕ) → Type 0
ArePackets summary [] = ⊥
ArePackets summary (octets ∷ following) =
    (option_map summary_of (stated_in octets) ≡ Some summary)
    × ((length following ≡ last_part (summary_shape summary)) × ListInTurn (listing_in octets) 1 following)

-- a publication that the plan knows of and doesn't hide, and of which no part is held or claimed
pub record IsNew (plan : PlanState) (pair : Pair) : Type 0 where
  pub known : knows plan pair ≡ true
  pub not_held : (x : ℕ) → holds plan (part_of pair x) ≡ false
  pub not_hidden : hides plan pair ≡ false
  pub not_claimed : (x : ℕ) → is_claimed plan (part_of pair x) ≡ false

-- the packets `made` are stored as the parts of the publication `pair`, within the capacity
abbrev pub publishes_too : Pair → List (List ℕ) → HoldingsState → HoldingsState
publishes_too pair made h = record h {
  store = with_packets (as_parts pair 0 made) h.store;
  spare = h.spare - length made;
}
