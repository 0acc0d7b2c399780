use Rattle.std.proofs.Common.{◌≡◌, ◌++◌, take}
use Rattle.lab_picture.specs.Svg.{escaped}
use Rattle.lab_picture.proofs.svg.put_escaped.Given as goal

abbrev pub invariant-loop-octet : goal.invariant-loop-octet
invariant-loop-octet l = l.out.items ≡ l.fn.out.items ++ escaped (take l.octet-index l.text)
