use Rattle.std.proofs.Common.{ap, ◌∙◌}
use Rattle.sorted_lists.specs.SortedList.{insert_key, keys}
use Rattle.sorted_lists.proofs.Sets.{keys-with_value}
use Rattle.repo_plan.specs.Parts.{pair_cmp}
use Rattle.repo_plan.proofs.Orders.{exact_pairs}
use Rattle.repo_holdings.specs.Noted.{NotesState}
use Rattle.repo_holdings.proofs.notes.Notes.note_withdrawn.Goals as goal

pub returns-clause-withdrawn : goal.returns-clause-withdrawn
returns-clause-withdrawn c =
    ap keys c.insert.ensures.entries
    ∙ keys-with_value exact_pairs c.args.publication _ c.self.inside.withdrawn.entries
    ∙ ap (λ (n : NotesState). insert_key pair_cmp c.args.publication n.withdrawn) c.self.view_is
