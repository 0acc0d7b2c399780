use Rattle.lab_trace.proofs.SameValuesLaws.{known_by}
use Rattle.lab_trace.proofs.laws.a_reader_knows_the_state.Goals as goal

pub returns : goal.returns
returns c = known_by
