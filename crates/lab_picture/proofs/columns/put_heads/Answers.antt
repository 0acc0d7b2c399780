use Rattle.std.proofs.Common.{ℕ, length}
use Rattle.lab_picture.specs.Page.{head}
use Rattle.lab_picture.specs.Sights.{column_label}
use Rattle.lab_picture.proofs.Eachs.{each_begins, each_goes_on}
use Rattle.lab_picture.proofs.columns.put_heads.Goals as goal

pub loop-column-init : goal.loop-column-init
loop-column-init c = each_begins c.args.out.now.items
    (λ (column : ℕ). head (length c.args.words.now.members) column (column_label c.args.words.now column))

pub loop-column-preserved : goal.loop-column-preserved
loop-column-preserved c = each_goes_on c.args.out.now.items c.loop-column.out.items c.put_head.new.out.items
    c.loop-column.column
    (λ (column : ℕ). head (length c.args.words.now.members) column (column_label c.args.words.now column))
    c.loop-column.invariant (rw (c.column_label.ensures, c.members-members.ensures.len) at c.in_ok-put_head.ensures)
