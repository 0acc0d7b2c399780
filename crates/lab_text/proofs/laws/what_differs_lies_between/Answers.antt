use Rattle.lab_text.proofs.DifferenceLaws.{differing_between, differing_apart}
use Rattle.lab_text.proofs.laws.what_differs_lies_between.Goals as goal

pub returns-clause-between : goal.returns-clause-between
returns-clause-between c = differing_between

pub returns-clause-apart : goal.returns-clause-apart
returns-clause-apart c = differing_apart
