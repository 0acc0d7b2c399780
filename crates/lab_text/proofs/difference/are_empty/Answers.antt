use Rattle.std.proofs.Common.{◌≡◌, true, false, sym, ◌∙◌}
use Rattle.lab_text.specs.Differences.{is_empty_list}
use Rattle.lab_text.specs.LineTexts.{line_texts}
use Rattle.lab_text.proofs.LineCuts.{emptiness}
use Rattle.lab_text.proofs.difference.are_empty.Goals as goal

pub returns-then-is_empty : goal.returns-then-is_empty
returns-then-is_empty c =
    let first : is_empty_list (line_texts c.args.expected.now) ≡ true =
    emptiness c.args.expected.now ∙ sym c.is_empty.ensures ∙ c.if-is_empty.true in
    rw first (c.is_empty-then-is_empty.ensures ∙ sym (emptiness c.args.actual.now))

pub returns-else-is_empty : goal.returns-else-is_empty
returns-else-is_empty c =
    let first : is_empty_list (line_texts c.args.expected.now) ≡ false =
    emptiness c.args.expected.now ∙ sym c.is_empty.ensures ∙ c.if-is_empty.false in
    rw first c.if-is_empty.false
