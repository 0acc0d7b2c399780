use Rattle.std.proofs.Common.{rules, ◌∙◌, not, eqb, ℕ}
use borrow.Author.Tests.{tests}
use Rattle.std.proofs.lemmas.Iterator.{YieldsList-from_slice}
use Rattle.std.proofs.lemmas.Iterator.Search.{find_from_yields_List}
use Rattle.script_lang.proofs.read.first_other.Goals as goal

pub returns : goal.returns
returns c = c.copied.ensures
    ∙ find_from_yields_List (λ (octet : ℕ). not (eqb octet 32)) _ _ c.find.result c.find.ensures.ran
    (YieldsList-from_slice c.args.octets.now c.iter.ensures.rest) (λ x b q k. search (rules, tests))
