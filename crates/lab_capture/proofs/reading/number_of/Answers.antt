use Rattle.std.proofs.Common.{rules, sym}
use Rattle.std.proofs.lemmas.Nat.{le_bytes_4}
use Rattle.lab_capture.proofs.reading.number_of.Goals as goal

pub returns-clause-spelled : goal.returns-clause-spelled
returns-clause-spelled c = sym (le_bytes_4 c.args.octets _ (search rules) (search rules) c.from_le_bytes.ensures)
