use Rattle.std.proofs.Common.{◌≡◌, Option, Some, None, refl, sym, ap, ◌∙◌}
use Rattle.std.specs.Prelude.{IfSome}
use Rattle.repo_plan.specs.Parts.{Shape, IsShape}
use Rattle.repo_plan.specs.Plan.{PlanState, shape_of}
use Rattle.repo_plan.proofs.plan.Plan.shape.Goals as goal

pub returns-clause-shape : goal.returns-clause-shape
returns-clause-shape c =
    c.get.ensures ∙ ap (λ (p : PlanState). shape_of p (c.args.publisher, c.args.seq)) c.self.view_is

each_sized : (o : Option Shape) → ((n : Shape) → o ≡ Some n → IsShape n) → IfSome o IsShape
each_sized None h = tt
each_sized (Some n) h = h n refl

pub returns-clause-sized : goal.returns-clause-sized
returns-clause-sized c =
    each_sized c.get.result
    (λ n h. c.self.invariant.sound.sized (c.args.publisher, c.args.seq) n (sym c.get.ensures ∙ h))
