use Rattle.repo_command.proofs.NameLemmas.{name_is_tested}
use Rattle.repo_command.proofs.laws.commands_are_tested.Goals as goal

pub returns : goal.returns
returns c = name_is_tested
