use Rattle.std.proofs.Common.{◌≡◌, ◌++◌, take}
use Rattle.ndn_name.specs.Uri.{digest_text}
use Rattle.ndn_name.proofs.uri_print.put_digits.Given as goal

abbrev pub invariant-loop-octet : goal.invariant-loop-octet
invariant-loop-octet l = l.out.items ≡ l.fn.out.items ++ digest_text (take l.octet-index l.octets)
