use Rattle.std.proofs.Common.{◌++◌, ◌∷◌, List, [], refl, sym, ap, subst, ◌∙◌}
use Rattle.repo_catalog.specs.declared.entry.Entry.{Entry}
use Rattle.repo_catalog.specs.Entries.{AreApart}
use Rattle.repo_catalog.proofs.ManyLemmas.{apart_none, apart_more}
use Rattle.repo_tests.proofs.catalog.alone.Goals as goal

pub returns-clause-apart : goal.returns-clause-apart
returns-clause-apart g c =
    let a = c.in_ok-first.first in
    subst AreApart
    (sym (c.in_ok-push.ensures.items ∙ ap (λ (xs : List Entry). xs ++ a ∷ []) c.new-fresh.ensures.items))
    (apart_more [] a apart_none refl)
