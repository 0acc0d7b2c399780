use Rattle.std.proofs.Common.{◌≡◌, ◌++◌}
use Rattle.lab_picture.specs.Marks.{change, number_at}
use Rattle.lab_picture.specs.Svg.{each}
use Rattle.lab_picture.proofs.marks.put_changes.Given as goal

abbrev pub invariant-loop-column : goal.invariant-loop-column
invariant-loop-column l =
    l.out.items ≡ l.fn.out.items
    ++ each l.column (λ column. change l.row column (number_at l.before column) (number_at l.now column))
