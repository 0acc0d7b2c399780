use Rattle.repo_command.proofs.AnswerLemmas.{answer_again}
use Rattle.repo_command.proofs.laws.written_answers_are_read.Goals as goal

pub returns : goal.returns
returns c = answer_again
