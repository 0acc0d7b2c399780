use Rattle.std.proofs.Common.{◌≡◌, ◌++◌, take}
use Rattle.lab_picture.specs.Svg.{attributes}
use Rattle.lab_picture.proofs.svg.put_attributes.Given as goal

abbrev pub invariant-loop-number : goal.invariant-loop-number
invariant-loop-number l = l.out.items ≡ l.fn.out.items ++ attributes (take l.number-index l.numbers)
