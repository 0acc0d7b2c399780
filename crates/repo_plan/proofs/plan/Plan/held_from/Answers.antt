use Rattle.std.proofs.Common.{◌≡◌, true, false, Option, Some, None, sym}
use Rattle.std.proofs.lemmas.Bool.{true≢false}
use Rattle.std.specs.Prelude.{is_some}
use Rattle.repo_plan.specs.declared.part.Part.{Part}
use Rattle.repo_plan.specs.Plan.{PlanState, holds}
use Rattle.repo_plan.specs.Sound.{PlanIsSound}
use Rattle.repo_plan.specs.Leaps.{IsHeldHere, IsLeastFrom, IsLeastLater}
use Rattle.repo_plan.proofs.Leaps.{found_here, found_later, listed_least}
use Rattle.repo_plan.proofs.plan.Plan.held_from.Goals as goal

here_least : (p : PlanState) → PlanIsSound p → (t : Part) (o : Option Part) → IsHeldHere p t o → is_some o ≡ true
    → IsLeastFrom (holds p) t o
here_least p s t None h e = absurd (true≢false (sym e))
here_least p s t (Some u) h e = found_here p s t u h

later_least : (p : PlanState) → PlanIsSound p → (t : Part) (o r : Option Part) → IsHeldHere p t o
    → is_some o ≡ false → IsLeastLater p t r → IsLeastFrom (holds p) t r
later_least p s t None r h e = found_later p s t h r
later_least p s t (Some u) r h e = absurd (true≢false e)

pub returns-then-is_some-clause-least : goal.returns-then-is_some-clause-least
returns-then-is_some-clause-least c =
    here_least c.args.self.now c.cite_soundness.ensures c.args.part c.held_here-here.result c.held_here-here.ensures
    (sym c.if-is_some.ensures)

pub returns-then-is_some-clause-list : goal.returns-then-is_some-clause-list
returns-then-is_some-clause-list c =
    listed_least c.args.self.now c.cite_soundness.ensures c.args.part c.held_here-here.result
    (here_least c.args.self.now c.cite_soundness.ensures c.args.part c.held_here-here.result c.held_here-here.ensures
    (sym c.if-is_some.ensures))

pub returns-else-is_some-clause-least : goal.returns-else-is_some-clause-least
returns-else-is_some-clause-least c =
    later_least c.args.self.now c.cite_soundness.ensures c.args.part c.held_here-here.result c.record_after.result
    c.held_here-here.ensures (sym c.if-is_some.ensures) c.record_after.ensures

pub returns-else-is_some-clause-list : goal.returns-else-is_some-clause-list
returns-else-is_some-clause-list c =
    listed_least c.args.self.now c.cite_soundness.ensures c.args.part c.record_after.result
    (later_least c.args.self.now c.cite_soundness.ensures c.args.part c.held_here-here.result c.record_after.result
    c.held_here-here.ensures (sym c.if-is_some.ensures) c.record_after.ensures)
