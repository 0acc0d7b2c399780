use Rattle.std.proofs.Common.{sym, ap, ◌∙◌}
use Rattle.std.specs.Option.{is_some}
use Rattle.sorted_lists.specs.SortedList.{contains}
use Rattle.repo_plan.specs.Parts.{pair_cmp}
use Rattle.repo_holdings.specs.Noted.{NotesState}
use Rattle.repo_holdings.proofs.SortedMaps.{has_value}
use Rattle.repo_holdings.proofs.notes.Notes.is_withdrawn.Goals as goal

pub returns : goal.returns
returns c =
    c.is_some.ensures
    ∙ ap is_some c.get.ensures
    ∙ sym (has_value pair_cmp c.self.inside.withdrawn.entries c.args.publication)
    ∙ ap (λ (n : NotesState). contains pair_cmp n.withdrawn c.args.publication) c.self.view_is
