use Rattle.repo_command.proofs.RefusalLemmas.{refused_for_octets}
use Rattle.repo_command.proofs.laws.command_refusals_are_of_the_octets.Goals as goal

pub returns : goal.returns
returns c = refused_for_octets
