use Rattle.lab_capture.proofs.Reports.{four, too_few}
use Rattle.lab_capture.proofs.answers.answer_in.Goals as goal

pub returns-in_default : goal.returns-in_default
returns-in_default c = too_few c.args.words.now c.in_default.len_below

pub returns-in_default-2 : goal.returns-in_default-2
returns-in_default-2 c = four c.args.words.now c.in_default.len_at_least c.in_default.len_below
