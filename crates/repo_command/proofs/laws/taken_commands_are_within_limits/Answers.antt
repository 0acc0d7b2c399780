use Rattle.repo_command.proofs.TakenLemmas.{taken_commands}
use Rattle.repo_command.proofs.laws.taken_commands_are_within_limits.Goals as goal

pub returns : goal.returns
returns c = taken_commands
