use Rattle.ndn_name.specs.Uri.{uri}
use Rattle.ndn_name.proofs.ComputedNames.{texts-computed}
use Rattle.ndn_name.proofs.PrintedTexts.{parts_at, parts-name, uri-is}
use Rattle.ndn_name.proofs.laws.printed_names_are_computed.Goals as goal

pub returns : goal.returns
returns c name h = (texts-computed (uri name) name).1 (parts_at 0 name, uri-is name h, parts-name 0 name)
