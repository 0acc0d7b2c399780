use Rattle.live_top.proofs.Cutting.{last_line, line_found, whole_line}
use Rattle.live_top.proofs.input.first_line.Goals as goal

pub returns-in-Some-clause-cut : goal.returns-in-Some-clause-cut
returns-in-Some-clause-cut c =
    rw (c.split_at.ensures.front, c.split_at.ensures.back) (line_found c.args.octets.now c.in-Some.at
    c.in-Some.ensures.place)

pub returns-in-None-clause-cut : goal.returns-in-None-clause-cut
returns-in-None-clause-cut c =
    whole_line c.args.octets.now c.split_at-in-None.result.0.now c.split_at-in-None.result.1.now
    c.split_at-in-None.ensures.front c.split_at-in-None.ensures.back
    (last_line c.args.octets.now c.requires c.in-None.ensures.place)
