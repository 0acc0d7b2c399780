-- How the commands that clients made are kept: each once, and which was made when.
use Rattle.std.specs.Prelude.{◌≡◌, ℕ, ◌+◌, ◌<◌, ◌≤◌, List, map, length, slice_index_or, vec_capacity}
use Rattle.std.specs.List.{list_any, All}
use Rattle.indexmap.specs.IndexSet.{spare}
use Rattle.repo_command.specs.declared.command.Command.TheVariants.{Check}
use Rattle.group_model.specs.World.{Issued}
use Rattle.bench_world.specs.declared.issued.IssuedCommand.{IssuedCommand}
use Rattle.bench_world.specs.declared.issued.IssuedCommands.TheInside.{Inside}
use Rattle.bench_world.specs.Commanding.{is_that}
use Rattle.bench_world.specs.IssuedCommands.{issued_of, is_same}

-- What is found under a number that no command has.
abbrev pub no_command : IssuedCommand
no_command = record { member = 0; client = 0; command = Check 0 }

-- The commands that have the numbers `made` among `commands`.
abbrev pub commands_made : List IssuedCommand → List ℕ → List Issued
commands_made commands made = map (λ k. issued_of (slice_index_or commands k no_command)) made

-- The lists have capacity for `spare` more commands, each number in `made` is that of a command, and a command was made
-- exactly if it is among `commands`.
pub record AreIssued (s : Inside) : Type 0 where
  pub room : s.spare + length s.made.items ≤ vec_capacity s.made
  pub room_of_commands : s.spare ≤ spare s.commands
  pub within : All (λ k. k < length s.commands.keys) s.made.items
  pub answers : (c : IssuedCommand)
      → list_any (is_that (c.member, c.client, c.command)) (commands_made s.commands.keys s.made.items)
      ≡ list_any (is_same c) s.commands.keys
