use Rattle.std.proofs.Common.{ap, subst, ◌∙◌, sym}
use Rattle.sorted_lists.specs.SortedList.{contains}
use Rattle.repo_catalog.specs.NameKeys.{KeyList, key_cmp, IsFirstFrom}
use Rattle.repo_catalog.proofs.KeyLemmas.{first_none, first_some}
use Rattle.repo_catalog.proofs.name_index.NameIndex.first_from.Goals as goal

pub returns-in-Some : goal.returns-in-Some
returns-in-Some c =
    subst (λ (l : KeyList). IsFirstFrom c.args.key l.keys c.in-Some.first) c.self.view_is
    (first_some c.args.key c.self.inside.map.entries _ c.self.invariant.in_order (sym c.in-Some.ensures.found))

pub returns-in-None : goal.returns-in-None
returns-in-None c = λ q there.
    first_none c.args.key c.self.inside.map.entries (sym c.in-None.ensures.found) q
    (ap (λ (l : KeyList). contains key_cmp l.keys q) c.self.view_is ∙ there)
