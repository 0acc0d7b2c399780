use Rattle.std.proofs.Common.{◌∙◌, ap, List, subst, sym}
use Rattle.sorted_lists.specs.SortedList.{Rises, contains}
use Rattle.repo_plan.specs.declared.part.Part.{Part}
use Rattle.repo_plan.specs.Parts.{part_cmp}
use Rattle.lab_capture.proofs.HeldLists.{is_held_by}
use Rattle.lab_capture.proofs.held.HeldParts.has.Goals as goal

pub returns : goal.returns
returns c =
    c.is_ok.ensures.value
    ∙ is_held_by c.args.part c.deref.result.now c.binary_search.result
    (subst (Rises part_cmp) (sym c.deref.ensures.value) c.self.invariant)
    c.binary_search.ensures.bound c.binary_search.ensures.position
    ∙ ap (λ (ts : List Part). contains part_cmp ts c.args.part) (c.deref.ensures.value ∙ c.self.view_is)
