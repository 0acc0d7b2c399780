use Rattle.std.proofs.Common.{◌≡◌, Bool, not, List, [], ◌∷◌, length, sym, ap, ◌∙◌, subst, arith}
use Rattle.std.specs.List.{filter}
use Rattle.std.proofs.lemmas.Bool.{eqb-true}
use Rattle.sorted_lists.specs.SortedList.{Rises, contains}
use Rattle.repo_plan.specs.Parts.{Pair, pair_cmp}
use Rattle.repo_catalog.specs.declared.entry.Entry.{Entry}
use Rattle.repo_catalog.specs.Entries.{EntryList, publication_of, without_all}
use Rattle.repo_catalog.proofs.ManyLemmas.{without_none}
use Rattle.repo_holdings.proofs.CatalogueLemmas.{fun_ext}
use Rattle.repo_holdings.proofs.PairLists.{apart_permuted, contains_permuted, sorted_pairs_rise}
use Rattle.repo_holdings.proofs.holdings.taking.remove_gone.Goals as goal

none_there : (pairs : List Pair) (catalogue : EntryList) → length pairs ≡ 0
    → catalogue ≡ record catalogue { entries = without_all pairs catalogue.entries }
none_there [] catalogue h =
    ap (λ (entries : List Entry). record catalogue { entries = entries }) (sym (without_none catalogue.entries))
none_there (pair ∷ pairs) catalogue h = absurd (omega (arith, h))

pub returns-then-is_empty-clause-removed : goal.returns-then-is_empty-clause-removed
returns-then-is_empty-clause-removed c =
    let none = eqb-true _ 0 (sym c.is_empty.ensures ∙ c.if-is_empty.true) in
    none_there c.args.gone.now.items c.args.catalogue.now (omega (arith, none, c.args.gone.now.ok.0))

pub remove_all-requires : goal.remove_all-requires
remove_all-requires c =
    subst (Rises pair_cmp) (sym c.deref.ensures.value)
    (sorted_pairs_rise c.sort_unstable.new.self.items c.sort_unstable.ensures.sorted
    (apart_permuted c.args.gone.now.items c.sort_unstable.new.self.items c.sort_unstable.ensures.permutation
    c.requires))

pub returns-clause-removed : goal.returns-clause-removed
returns-clause-removed c =
    let same : contains pair_cmp c.deref.result.now ≡ contains pair_cmp c.args.gone.now.items =
    fun_ext (contains pair_cmp c.deref.result.now) (contains pair_cmp c.args.gone.now.items)
    (λ k. ap (λ (pairs : List Pair). contains pair_cmp pairs k) c.deref.ensures.value
    ∙ contains_permuted k c.args.gone.now.items c.sort_unstable.new.self.items c.sort_unstable.ensures.permutation) in
    c.remove_all.ensures
    ∙ ap (λ (among : Pair → Bool). record c.args.catalogue.now {
      entries = filter (λ e. not (among (publication_of e))) c.args.catalogue.now.entries;
    }) same
