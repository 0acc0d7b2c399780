use Rattle.std.proofs.Common.{rules, sym}
use Rattle.lab_text.proofs.LineCuts.{first_cut, open_cut}
use Rattle.lab_text.proofs.cutting.split_first_line.Goals as goal

pub returns-in-Some-clause-lines : goal.returns-in-Some-clause-lines
returns-in-Some-clause-lines c = rw (c.split_at.ensures.front, c.split_at.ensures.back)
    (first_cut c.args.octets.now c.in-Some.at (sym c.in-Some.ensures.place))

pub returns-in-None-clause-lines : goal.returns-in-None-clause-lines
returns-in-None-clause-lines c = rw (c.split_at-in-None.ensures.front, c.split_at-in-None.ensures.back)
    (open_cut c.args.octets.now (search rules) (sym c.in-None.ensures.place))
