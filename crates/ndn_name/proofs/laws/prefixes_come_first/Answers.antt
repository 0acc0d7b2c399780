use Rattle.ndn_name.proofs.Prefixes.{prefix-first}
use Rattle.ndn_name.proofs.laws.prefixes_come_first.Goals as goal

pub returns : goal.returns
returns c = prefix-first
