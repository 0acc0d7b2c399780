-- The process after a block, the answer to a block, and the object of a process that has all of its blocks.
use Rattle.std.specs.Prelude.{ℕ, Bool, true, false, not, ◌&&◌, List, Vec, map, Option, Some, None, if◌then◌else◌}
use Rattle.std.specs.Borrow.{Bor}
use Rattle.ndn_name.specs.Names.{Component}
use Rattle.repo_object.specs.Objects.{NamedContents}
use Rattle.repo_process.specs.declared.block_state.BlockState as declared_state
use Rattle.repo_process.specs.declared.block_state.BlockState.TheVariants as state
use Rattle.repo_process.specs.Processes.{Process, BlockState, missing, is_whole, object_of}
use Rattle.repo_process.specs.Processes.BlockState.{Unknown, Already, Waiting, Whole}
use Rattle.repo_process.specs.Fields.{blocks_from}

-- The answer to a block, by what became of it.
abbrev pub answer_of_block : BlockState → declared_state.BlockState
answer_of_block Unknown = state.Unknown
answer_of_block Already = state.Complete
answer_of_block (Waiting p) = state.Kept (missing p)
answer_of_block (Whole p) = state.Complete

-- The block was taken, and with it no block is missing.
abbrev pub is_last : BlockState → Bool
is_last (Whole p) = true
is_last _ = false

-- The process `p` after a block, by what became of the block.
abbrev pub arrived : Process → BlockState → Process
arrived p Unknown = p
arrived p Already = p
arrived p (Waiting q) = q
arrived p (Whole q) = q

-- The object of the process, if there is a process, it holds all of its blocks, and its object was not published.
abbrev pub whole_object : Option Process → Option NamedContents
whole_object None = None
whole_object (Some p) = if not p.published && is_whole p then Some (object_of p) else None

-- A process that counts as unpublished again, with these contents as its blocks.
abbrev pub reopened : List (List ℕ) → Process → Process
reopened contents p = record p { blocks = blocks_from p.first contents; published = false }

-- The object of this name and these contents, which are borrowed, not copied.
abbrev pub lent_object : {A : Type 0} → Bor (List Component) × Bor (List (Vec ℕ A)) → NamedContents
lent_object lent = record { name = lent.0.now; contents = map (λ c. c.items) lent.1.now }
