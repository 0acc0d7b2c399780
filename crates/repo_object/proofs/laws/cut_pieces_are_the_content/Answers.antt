use Rattle.repo_object.proofs.CutLemmas.{cut_pieces}
use Rattle.repo_object.proofs.laws.cut_pieces_are_the_content.Goals as goal

pub returns : goal.returns
returns c = λ size content some. cut_pieces size content some
