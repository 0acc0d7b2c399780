use Rattle.repo_command.proofs.MadeLemmas.{made_commands}
use Rattle.repo_command.proofs.laws.made_commands_are_checked.Goals as goal

pub returns : goal.returns
returns c = made_commands
