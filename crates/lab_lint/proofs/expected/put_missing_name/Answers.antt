use Rattle.std.proofs.Common.{append_assoc, codes}
use Rattle.lab_lint.specs.Expected.{form_text}
use Rattle.lab_lint.proofs.Joins.{two_on}
use Rattle.lab_lint.proofs.expected.put_missing_name.Goals as goal

pub returns : goal.returns
returns c = rw (append_assoc c.args.name.now (codes " is missing; ") (form_text c.args.verb))
    (two_on c.put_then_form.result c.args.out.now.items c.args.name.now _ c.put.new.out.items
    c.put_then_form.new.out.items c.in_ok-put.ensures c.put_then_form.ensures)
