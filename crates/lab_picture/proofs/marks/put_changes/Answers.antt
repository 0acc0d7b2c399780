use Rattle.std.proofs.Common.{ℕ}
use Rattle.lab_picture.specs.Marks.{change, number_at}
use Rattle.lab_picture.proofs.Eachs.{each_begins, each_goes_on}
use Rattle.lab_picture.proofs.marks.put_changes.Goals as goal

pub loop-column-init : goal.loop-column-init
loop-column-init c = each_begins c.args.out.now.items
    (λ (column : ℕ). change c.args.row column (number_at c.args.before.now column) (number_at c.args.now.now column))

pub loop-column-preserved : goal.loop-column-preserved
loop-column-preserved c = each_goes_on c.args.out.now.items c.loop-column.out.items c.put_change.new.out.items
    c.loop-column.column
    (λ (column : ℕ). change c.args.row column (number_at c.args.before.now column) (number_at c.args.now.now column))
    c.loop-column.invariant
    (rw (c.number_at.ensures, c.number_at-in-loop-column.ensures) at c.in_ok-put_change.ensures)
