use Rattle.lab_text.proofs.LineCuts.{last_cut}
use Rattle.lab_text.proofs.cutting.split_last_line.Goals as goal

pub returns-clause-lines : goal.returns-clause-lines
returns-clause-lines c = rw (c.split_at.ensures.front, c.split_at.ensures.back)
    (last_cut c.args.octets.now c.in_ok-prefix.prefix.now c.up_to_last_feed-before.result.now _
    c.in_ok-prefix.ensures.cases.0 c.up_to_last_feed-before.ensures.whole c.up_to_last_feed-before.ensures.rest)
