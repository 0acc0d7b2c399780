use Rattle.lab_picture.specs.Page.{lifeline}
use Rattle.lab_picture.proofs.Eachs.{each_begins, each_goes_on}
use Rattle.lab_picture.proofs.page.put_lifelines.Goals as goal

pub loop-column-init : goal.loop-column-init
loop-column-init c = each_begins c.args.out.now.items (lifeline c.args.members c.args.bottom)

pub loop-column-preserved : goal.loop-column-preserved
loop-column-preserved c = each_goes_on c.args.out.now.items c.loop-column.out.items c.put_lifeline.new.out.items
    c.loop-column.column (lifeline c.args.members c.args.bottom) c.loop-column.invariant
    c.in_ok-put_lifeline.ensures
