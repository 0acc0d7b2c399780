use Rattle.std.proofs.Common.{take}
use Rattle.ndn_name.proofs.Decimals.{SoFar}
use Rattle.ndn_name.proofs.uri_digits.read_decimal.Given as goal

abbrev pub invariant-loop-i : goal.invariant-loop-i
invariant-loop-i l = SoFar l.most l.number (take l.i l.text)
