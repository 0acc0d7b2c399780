use Rattle.script_lang.proofs.RefusalLemmas.{read_for_a_cause, checked_for_a_cause}
use Rattle.script_lang.proofs.laws.refusals_are_of_the_lines.Goals as goal

pub returns-clause-read : goal.returns-clause-read
returns-clause-read c = read_for_a_cause

pub returns-clause-checked : goal.returns-clause-checked
returns-clause-checked c = checked_for_a_cause
