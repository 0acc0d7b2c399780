use Rattle.std.proofs.Common.{List, ap, sym, ◌∙◌}
use Rattle.std.specs.Prelude.{filter, not}
use Rattle.std.specs.Ordering.{eq_by_cmp}
use Rattle.ndn_name.specs.Names.{Component}
use Rattle.sorted_lists.specs.SortedList.{keys, value_of}
use Rattle.sorted_lists.proofs.Entries.{value_in_order}
use Rattle.sorted_lists.proofs.Sets.{eq_turned}
use Rattle.repo_plan.specs.Parts.{Pair, pair_cmp}
use Rattle.repo_plan.proofs.Orders.{exact_pairs}
use Rattle.repo_plan.proofs.Changes.{pair_test}
use Rattle.repo_holdings.specs.Noted.{NotesState}
use Rattle.repo_holdings.proofs.SortedMaps.{unset_in_order}
use Rattle.repo_holdings.proofs.notes.Notes.take_name.Goals as goal

pub returns-clause-name : goal.returns-clause-name
returns-clause-name c =
    c.remove.ensures.value
    ∙ sym (value_in_order exact_pairs _ (λ x y. pair_test x y ∙ eq_turned exact_pairs y x) c.self.inside.names.entries
    c.args.publication)
    ∙ ap (λ (n : NotesState). value_of pair_cmp n.names c.args.publication) c.self.view_is

pub returns-clause-left : goal.returns-clause-left
returns-clause-left c =
    ap (λ (names : List (Pair × List Component)). record {
      names = names;
      withdrawn = keys c.self.inside.withdrawn.entries;
      spare = c.self.inside.spare;
    })
    (unset_in_order exact_pairs _ (λ x y. pair_test x y ∙ eq_turned exact_pairs y x) c.self.inside.names.entries
    c.remove.new.self.entries c.args.publication
    c.remove.ensures.updates.0)
    ∙ ap (λ (n : NotesState). record n {
      names = filter (λ e. not (eq_by_cmp pair_cmp c.args.publication e.0)) n.names;
    }) c.self.view_is
