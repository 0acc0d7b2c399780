use Rattle.std.proofs.Common.{rules, sym, ◌∙◌}
use Rattle.lab_text.proofs.Differing.{first_same, first_other, none_left, none_right}
use Rattle.lab_text.proofs.difference.after_common_line.Goals as goal

pub returns-in_err-line-clause-lines : goal.returns-in_err-line-clause-lines
returns-in_err-line-clause-lines c =
    let none = none_left c.args.expected.now c.args.actual.now c.in_err-line.ensures.lines in search rules

pub returns-in_err-other-clause-lines : goal.returns-in_err-other-clause-lines
returns-in_err-other-clause-lines c =
    let none = none_right c.args.expected.now c.args.actual.now c.in_err-other.ensures.lines in search rules

pub returns-then-ne-clause-lines : goal.returns-then-ne-clause-lines
returns-then-ne-clause-lines c =
    first_other _ _ _ _ _ _ c.in_ok-line.ensures.lines c.in_ok-other.ensures.lines
    (rw (c.without_feed.ensures, c.without_feed-2.ensures) at (sym c.ne.ensures ∙ c.if-ne.true))

pub returns-clause-lines : goal.returns-clause-lines
returns-clause-lines c =
    first_same _ _ _ _ _ _ c.in_ok-line.ensures.lines c.in_ok-other.ensures.lines
    (rw (c.without_feed.ensures, c.without_feed-2.ensures) at (sym c.ne.ensures ∙ c.if-ne.false))
