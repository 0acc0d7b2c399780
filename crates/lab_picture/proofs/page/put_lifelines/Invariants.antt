use Rattle.std.proofs.Common.{◌≡◌, ◌++◌}
use Rattle.lab_picture.specs.Page.{lifeline}
use Rattle.lab_picture.specs.Svg.{each}
use Rattle.lab_picture.proofs.page.put_lifelines.Given as goal

abbrev pub invariant-loop-column : goal.invariant-loop-column
invariant-loop-column l = l.out.items ≡ l.fn.out.items ++ each l.column (lifeline l.members l.bottom)
