-- Which orders may be carried out, and what a client's command leaves.
use Rattle.std.specs.Prelude.{◌≡◌, ℕ, ◌+◌, Bool, true, ◌==◌, ◌&&◌, List, Result, Ok, Err}
use Rattle.std.specs.List.{list_any}
use Rattle.repo_command.specs.declared.command.Command.{Command}
use Rattle.repo_command.specs.declared.answer.Answer.{Answer}
use Rattle.group_model.specs.Commands.{is_equal_command}
use Rattle.group_model.specs.World.{Issued}
use Rattle.group_model.specs.Steps.{after_issue, command_answer}
use Rattle.bench_world.specs.Worlds.{GroupState, world_of}

-- The issued command `i` has the member, the client and the command of `order`.
abbrev pub is_that : ℕ × ℕ × Command → Issued → Bool
is_that order i = i.member == order.0 && (i.client == order.1 && is_equal_command i.command order.2)

-- The client of `order` made its command for member `m`.
abbrev pub is_issued : List Issued → ℕ → ℕ × Command → Bool
is_issued issued m order = list_any (is_that (m, order.0, order.1)) issued

-- The order was refused with a code, or its client made its command for member `m`.
abbrev pub may_order : List Issued → ℕ → Result (ℕ × Command) ℕ → Bool
may_order issued m (Ok order) = is_issued issued m order
may_order issued m (Err code) = true

-- A client made a command for member `m`, which answered `given`. This counts as a step; keys and mirrors are
-- unchanged.
pub record IsIssued (old : GroupState) (m client : ℕ) (command : Command) (new : GroupState) (given : Answer)
    : Type 0 where
  pub world : world_of new ≡ after_issue (world_of old) m client command
  pub answer : given ≡ command_answer (world_of old) m command
  pub steps : new.steps ≡ old.steps + 1
  pub keys : new.keys ≡ old.keys
  pub mirrors : new.mirrors ≡ old.mirrors
