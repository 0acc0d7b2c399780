-- The invariant of the fields of `Settled`.
use Rattle.repo_store.specs.declared.settled.Settled.TheInside.{Inside}
use Rattle.repo_store.specs.Blocks.{AreBlocks}

-- Each block is a block of the settled entries.
pub record IsSettled (s : Inside) : Type 0 where
  pub blocks : AreBlocks s.held.items s.blocks.items
