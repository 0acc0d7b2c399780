use Rattle.std.proofs.Common.{◌≡◌, ◌++◌, ℕ, List, take}
use Rattle.ndn_name.specs.Uri.{IsDigits}
use Rattle.ndn_name.proofs.uri_digits.read_digest.Given as goal

abbrev pub invariant-loop-octet : goal.invariant-loop-octet
invariant-loop-octet l = record {
  prefix : List ℕ;
  split : prefix ++ l.rest ≡ l.text;
  read : IsDigits (take l.octet-index l.octet-items) prefix;
}
