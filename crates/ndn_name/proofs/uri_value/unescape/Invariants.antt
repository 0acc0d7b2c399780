use Rattle.std.proofs.Common.{◌≡◌, ◌++◌, ℕ, List, length}
use Rattle.ndn_name.specs.Uri.{IsEscaped}
use Rattle.ndn_name.proofs.uri_value.unescape.Given as goal

abbrev pub invariant-loop-rest : goal.invariant-loop-rest
invariant-loop-rest l = record {
  prefix : List ℕ;
  split : prefix ++ l.rest ≡ l.text;
  read : IsEscaped l.octets.items prefix;
}

abbrev pub decreases-loop-rest : goal.decreases-loop-rest
decreases-loop-rest l = length l.rest
