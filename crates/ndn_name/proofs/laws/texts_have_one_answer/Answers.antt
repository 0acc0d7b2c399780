use Rattle.ndn_name.proofs.OneAnswer.{one-answer}
use Rattle.ndn_name.proofs.laws.texts_have_one_answer.Goals as goal

pub returns : goal.returns
returns c = one-answer
