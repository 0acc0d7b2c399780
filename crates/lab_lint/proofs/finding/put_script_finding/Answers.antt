use Rattle.lab_lint.proofs.Joins.{three_on}
use Rattle.lab_lint.proofs.finding.put_script_finding.Goals as goal

pub returns : goal.returns
returns c = three_on c.put.result c.args.out.now.items _ _ _ c.put_begin.new.out.items c.put_limits.new.out.items
    c.put.new.out.items c.in_ok-put_begin.ensures c.in_ok-put_limits.ensures c.put.ensures
