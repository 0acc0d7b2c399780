-- The insertion processes of a repository.
use Rattle.std.specs.Prelude.{ℕ, ◌+◌, List, Option, Some, None, nat_le, if◌then◌else◌}
use Rattle.std.specs.Ordering.{nat_cmp}
use Rattle.ndn_name.specs.Names.{Component}
use Rattle.sorted_lists.specs.SortedList.{value_of, with_value}
use Rattle.repo_process.specs.Processes.{Process, BlockState, starting, block_state}
use Rattle.repo_process.specs.Processes.BlockState.{Unknown, Already, Waiting, Whole}

-- The processes by number, and the number that the next one gets.
pub record Insertions : Type 0 where
  pub processes : List (ℕ × Process)
  pub next_process : ℕ

-- The number that the next process gets, or `None` once the last number, 4,294,967,295, was given.
abbrev pub next_number : Insertions → Option ℕ
next_number i = if nat_le i.next_process 4294967295 then Some i.next_process else None

-- The insertions with the process `p` under this number.
abbrev pub with_process : ℕ → Process → Insertions → Insertions
with_process number p i = record i { processes = with_value nat_cmp number p i.processes }

-- A process begins under the next number.
abbrev pub starts : List Component → (first last : ℕ) → Insertions → Insertions
starts name first last i =
    record (with_process i.next_process (starting name first last) i) { next_process = i.next_process + 1 }

-- The insertions with the given process, if there is one, changed by `change` under `number`.
abbrev pub with_changed : ℕ → (Process → Process) → Insertions → Option Process → Insertions
with_changed number change i None = i
with_changed number change i (Some p) = with_process number (change p) i

-- The process of this number is changed, if there is one.
abbrev pub changes_process : ℕ → (Process → Process) → Insertions → Insertions
changes_process number change i = with_changed number change i (value_of nat_cmp i.processes number)

-- The insertions after a block for the process of this number, by what became of the block.
abbrev pub with_arrival : ℕ → Insertions → BlockState → Insertions
with_arrival number i Unknown = i
with_arrival number i Already = i
with_arrival number i (Waiting p) = with_process number p i
with_arrival number i (Whole p) = with_process number p i

-- A block is received for the process of this number.
abbrev pub blocks_process : (number index : ℕ) → List ℕ → Insertions → Insertions
blocks_process number index content i = with_arrival number i (block_state i.processes number index content)
