use Rattle.lab_capture.proofs.PrintedAnswers.{answer_read}
use Rattle.lab_capture.proofs.laws.answers_are_read_in_reports.Goals as goal

pub returns : goal.returns
returns c = λ verb label answer v l small one.
    answer_read verb label answer.code v l small answer.process answer.inserted answer.deleted one
