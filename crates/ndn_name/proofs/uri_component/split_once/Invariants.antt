use Rattle.std.proofs.Common.{take}
use Rattle.ndn_name.specs.UriReading.{LacksOctet}
use Rattle.ndn_name.proofs.uri_component.split_once.Given as goal

abbrev pub invariant-loop-i : goal.invariant-loop-i
invariant-loop-i l = LacksOctet l.octet (take l.i l.text)
