use Rattle.ndn_name.proofs.PrintedTexts.{parts_at, uri-is, parts-name, parts-good}
use Rattle.ndn_name.proofs.laws.printed_names_are_read.Goals as goal

pub returns : goal.returns
returns c = λ name valid short. (parts_at 0 name, uri-is name valid, parts-good 0 name valid, short, parts-name 0 name)
