use Rattle.lab_trace.proofs.SameValuesLaws.{begins_so}
use Rattle.lab_trace.proofs.laws.a_note_is_of_a_state.Goals as goal

pub returns : goal.returns
returns c = begins_so
