use Rattle.lab_lint.proofs.Joins.{three_on}
use Rattle.lab_lint.proofs.Togethers.{other_together}
use Rattle.lab_lint.proofs.expected.put_together.Goals as goal

pub returns-in_ok-put_number-in-Insert : goal.returns-in_ok-put_number-in-Insert
returns-in_ok-put_number-in-Insert c = rw c.in-Insert.is (three_on c.put-in-Insert.result c.args.out.now.items _ _ _
    c.put.new.out.items c.put_number.new.out.items c.put-in-Insert.new.out.items c.in_ok-put-in-Insert.ensures
    c.in_ok-put_number-in-Insert.ensures c.put-in-Insert.ensures)

pub returns-in_ok-put_number-in_default : goal.returns-in_ok-put_number-in_default
returns-in_ok-put_number-in_default c = rw (other_together c.args.verb c.in_default.not-Insert)
    (three_on c.put-in_default-2.result c.args.out.now.items _ _ _ c.put-in_default.new.out.items
    c.put_number-in_default.new.out.items c.put-in_default-2.new.out.items c.in_ok-put-in_default.ensures
    c.in_ok-put_number-in_default.ensures c.put-in_default-2.ensures)
