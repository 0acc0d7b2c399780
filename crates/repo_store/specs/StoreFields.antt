-- The invariant of a store's fields.
use Rattle.repo_store.specs.declared.store.Store.TheInside.{Inside}
use Rattle.repo_store.specs.NameLayers.{HasRoom, IsIndexOf}

-- The index by name has the entries that the packet table holds, and capacity for as many more as the table has.
pub record IsStored (s : Inside) : Type 0 where
  pub names : IsIndexOf s.kept.slots s.kept.held s.names
  pub room : HasRoom s.names s.kept.spare
