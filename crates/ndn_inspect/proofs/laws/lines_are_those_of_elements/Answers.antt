use Rattle.ndn_inspect.proofs.LineLemmas.{lines_at-nil, lines_at-element, lines_at-fault}
use Rattle.ndn_inspect.proofs.laws.lines_are_those_of_elements.Goals as goal

pub returns-clause-nothing : goal.returns-clause-nothing
returns-clause-nothing c = lines_at-nil

pub returns-clause-element : goal.returns-clause-element
returns-clause-element c = lines_at-element

pub returns-clause-fault : goal.returns-clause-fault
returns-clause-fault c = lines_at-fault
