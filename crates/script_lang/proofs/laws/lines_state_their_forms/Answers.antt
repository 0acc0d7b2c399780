use Rattle.script_lang.proofs.StatedForms.{states_its_form, read_in_its_form}
use Rattle.script_lang.proofs.laws.lines_state_their_forms.Goals as goal

pub returns-clause-lines : goal.returns-clause-lines
returns-clause-lines c = states_its_form

pub returns-clause-octets : goal.returns-clause-octets
returns-clause-octets c = read_in_its_form
