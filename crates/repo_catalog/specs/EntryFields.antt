-- How a catalogue is kept.
use Rattle.std.specs.Prelude.{vec_capacity}
use Rattle.repo_catalog.specs.declared.catalogue.Catalogue.TheInside.{Inside}
use Rattle.repo_catalog.specs.KeptEntries.{AreKept, HasRoom, room_of}

-- The entries are kept as they are to be, and there is the room that is spare.
pub record AreEntries (c : Inside) : Type 0 where
  pub kept : AreKept c.entries.items c.aside.items c.names c.entry_totals
  pub room : HasRoom c.spare (room_of c.entries.items c.entries.capacity (vec_capacity c.aside) c.names)
