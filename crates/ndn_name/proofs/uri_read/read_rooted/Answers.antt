use Rattle.std.proofs.Common.{map, arith, rules}
use Rattle.ndn_name.specs.UriReading.{uri_part}
use Rattle.ndn_name.proofs.PathTexts.{rooted-reads, otherwise}
use Rattle.ndn_name.proofs.uri_read.read_rooted.Goals as goal

pub returns-in_default : goal.returns-in_default
returns-in_default c = (0, omega arith, otherwise c.args.at c.args.text.now c.in_default.ensures)

pub returns : goal.returns
returns c =
    rooted-reads (λ v. map uri_part v.items) c.args.at c.in-Some.path.now c.args.text.now c.read_path.result
    c.in-Some.ensures (search rules) c.read_path.ensures
