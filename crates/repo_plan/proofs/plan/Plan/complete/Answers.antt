use Rattle.std.proofs.Common.{Bool, ◌&&◌, sym, ap, ◌∙◌}
use Rattle.std.specs.Prelude.{is_some}
use Rattle.std.specs.Ordering.{nat_cmp}
use Rattle.repo_plan.specs.Parts.{Pair}
use Rattle.sorted_lists.specs.Runs.{has_number}
use Rattle.repo_plan.specs.Plan.{PlanState, shape_of, is_complete}
use Rattle.repo_plan.proofs.Views.{complete_is}
use Rattle.repo_plan.proofs.plan.Plan.complete.Goals as goal

pub returns-then-is_some : goal.returns-then-is_some
returns-then-is_some c =
    let pair : Pair = (c.args.publisher, c.args.seq) in
    let some =
    c.if-is_some.ensures
    ∙ ap is_some c.shape.ensures.shape
    ∙ ap (λ (p : PlanState). is_some (shape_of p pair)) (sym c.self.view_is) in
    c.contains.ensures
    ∙ ap (λ (b : Bool). b && has_number nat_cmp c.self.inside.done pair) some
    ∙ complete_is c.self.inside c.self.invariant pair
    ∙ ap (λ (p : PlanState). is_complete p pair) c.self.view_is
