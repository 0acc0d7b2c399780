-- The packets that are stored, with their plan and what their records said.
use Rattle.std.specs.Prelude.{◌≡◌, ℕ, ◌+◌, ◌-◌, ◌≤◌, List, vec_capacity}
use Rattle.repo_plan.specs.declared.part.Part.{Part}
use Rattle.repo_plan.specs.Plan.{after_hold, uses_room}
use Rattle.repo_store.specs.StoreList.{with_packet}
use Rattle.repo_catalog.specs.declared.entry.Entry.{Entry}
use Rattle.repo_catalog.specs.Entries.{EntryList}
use Rattle.repo_holdings.specs.declared.holdings.pending.Pending.{Pending}
use Rattle.repo_holdings.specs.declared.holdings.stock.Stock.{Stock}
use Rattle.repo_holdings.specs.Listed.{member_catalogue}
use Rattle.repo_holdings.specs.Noted.{AreNotes}
use Rattle.repo_holdings.specs.Gaining.{PlanFits, shape_in_summary}

-- the plan and the notes agree with the stored packets
pub record IsSound (s : Stock) : Type 0 where
  pub tied : PlanFits s.plan s.store.packets
  pub noted : AreNotes s.notes s.store.packets

-- the stock is sound, and the entries are those of the objects that are stored whole and not withdrawn
pub record MatchesEntries (s : Stock) (entries : List Entry) : Type 0 where
  pub sound : IsSound s
  pub listed : entries ≡ member_catalogue s.store.packets

-- nothing changed but the room
pub record OnlyRoomChanges (old new : Stock) : Type 0 where
  pub plan : new.plan ≡ record old.plan { spare = new.plan.spare }
  pub store : new.store.packets ≡ old.store.packets
  pub names : new.notes.names ≡ old.notes.names
  pub withdrawn : new.notes.withdrawn ≡ old.notes.withdrawn

-- there is room for `changes` changes of the plan, for `packets` packets, and for notes of `packets` records
pub record HasRoom (changes packets : ℕ) (s : Stock) : Type 0 where
  pub for_plan : changes ≤ s.plan.spare
  pub for_store : packets ≤ s.store.spare
  pub for_notes : packets ≤ s.notes.spare

-- there is room for `n` parts, each of which may be held and tried, for notes of `n` records, for `n` entries, and for
-- `n` changes that wait
pub record HaveRoom (n : ℕ) (s : Stock) (p : Pending) (catalogue : EntryList) : Type 0 where
  pub for_plan : n + n ≤ s.plan.spare
  pub for_store : n ≤ s.store.spare
  pub for_notes : n ≤ s.notes.spare
  pub for_catalogue : n ≤ catalogue.spare
  pub for_fresh : n ≤ vec_capacity p.fresh
  pub for_gone : n ≤ vec_capacity p.gone

-- a part is held from now on, with its packet, for which room was used
pub record AfterHolding (t : Part) (octets : List ℕ) (old new : Stock) : Type 0 where
  pub plan : new.plan ≡ uses_room (after_hold t (shape_in_summary t octets) old.plan)
  pub store : new.store ≡ record { packets = with_packet t octets old.store.packets; spare = old.store.spare - 1 }
  pub notes_room : old.notes.spare ≤ new.notes.spare + 1
