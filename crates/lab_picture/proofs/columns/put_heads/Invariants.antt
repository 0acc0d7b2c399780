use Rattle.std.proofs.Common.{◌≡◌, ◌++◌, length}
use Rattle.lab_picture.specs.Page.{head}
use Rattle.lab_picture.specs.Sights.{column_label}
use Rattle.lab_picture.specs.Svg.{each}
use Rattle.lab_picture.proofs.columns.put_heads.Given as goal

abbrev pub invariant-loop-column : goal.invariant-loop-column
invariant-loop-column l =
    l.out.items ≡ l.fn.out.items
    ++ each l.column (λ column. head (length l.words.members) column (column_label l.words column))
