use Rattle.std.proofs.Common.{rules, sym, ◌∙◌}
use Rattle.lab_text.proofs.Differing.{last_same, last_other, none_before_left, none_before_right}
use Rattle.lab_text.proofs.difference.before_common_line.Goals as goal

pub returns-in_err-expected_others-clause-lines : goal.returns-in_err-expected_others-clause-lines
returns-in_err-expected_others-clause-lines c =
    let none = none_before_left c.args.expected.now c.args.actual.now c.in_err-expected_others.ensures.lines in
    search rules

pub returns-in_err-came_others-clause-lines : goal.returns-in_err-came_others-clause-lines
returns-in_err-came_others-clause-lines c =
    let none = none_before_right c.args.expected.now c.args.actual.now c.in_err-came_others.ensures.lines in
    search rules

pub returns-then-ne-clause-lines : goal.returns-then-ne-clause-lines
returns-then-ne-clause-lines c =
    last_other _ _ _ _ _ _ c.in_ok-expected_others.ensures.lines c.in_ok-came_others.ensures.lines
    (rw (c.without_feed.ensures, c.without_feed-2.ensures) at (sym c.ne.ensures ∙ c.if-ne.true))

pub returns-clause-lines : goal.returns-clause-lines
returns-clause-lines c =
    last_same _ _ _ _ _ _ c.in_ok-expected_others.ensures.lines c.in_ok-came_others.ensures.lines
    (rw (c.without_feed.ensures, c.without_feed-2.ensures) at (sym c.ne.ensures ∙ c.if-ne.false))
