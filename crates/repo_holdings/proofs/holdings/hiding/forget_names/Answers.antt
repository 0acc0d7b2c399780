use Rattle.std.proofs.Common.{ℕ, Bool, cond, not, None, get_or, ap, ◌∙◌}
use Rattle.std.specs.Ordering.{eq_by_cmp}
use Rattle.sorted_lists.specs.SortedList.{value_of}
use Rattle.sorted_lists.proofs.Sets.{value_of-filter, eq_turned}
use Rattle.repo_plan.specs.Parts.{Pair, pair_cmp}
use Rattle.repo_plan.proofs.Orders.{exact_pairs}
use Rattle.repo_holdings.specs.Noted.{NotesState}
use Rattle.repo_holdings.proofs.HidingLemmas.{is_none_of}
use Rattle.repo_holdings.proofs.holdings.hiding.forget_names.Goals as goal

pub loop-publication-preserved : goal.loop-publication-preserved
loop-publication-preserved c =
    let left = c.take_name.ensures.left in
    let inv = c.loop-publication.invariant in
    let i : ℕ = c.loop-publication.publication-index in
    let pair : Pair = get_or c.args.publications.now i (0, 0) in
    record {
      withdrawn = ap (λ (n : NotesState). n.withdrawn) left ∙ inv.withdrawn;
      spare = ap (λ (n : NotesState). n.spare) left ∙ inv.spare;
      others = λ q other.
          ap (λ (n : NotesState). value_of pair_cmp n.names q) left
          ∙ value_of-filter exact_pairs (λ (k : Pair). not (eq_by_cmp pair_cmp pair k)) c.loop-publication.notes.names q
          ∙ ap (λ (b : Bool). cond (not b) (value_of pair_cmp c.loop-publication.notes.names q) None)
          (eq_turned exact_pairs pair q
          ∙ is_none_of c.args.publications.now q other i (0, 0) c.loop-publication-test.true)
          ∙ inv.others q other;
    }
