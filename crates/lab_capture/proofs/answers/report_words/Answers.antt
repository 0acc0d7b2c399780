use Rattle.std.proofs.Common.{rules, ◌∙◌}
use borrow.Author.Tests.{tests}
use Rattle.std.proofs.lemmas.Iterator.Consumers.{map_from_collect}
use Rattle.std.proofs.lemmas.Iterator.Splits.{YieldsList-from_slice_split}
use Rattle.lab_text.specs.LineTexts.{without_feed}
use Rattle.lab_capture.proofs.answers.report_words.Goals as goal

pub returns : goal.returns
returns c = map_from_collect _ c.collect.ensures.ran
    (YieldsList-from_slice_split _ _ (without_feed c.args.report.now)
    (c.split.ensures.rest ∙ c.without_feed.ensures) c.split.ensures.done
    c.split.ensures.closure (λ x r q k. search (rules, tests)))
