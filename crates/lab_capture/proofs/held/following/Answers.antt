use Rattle.std.proofs.Common.{◌∙◌, Option, ap, sym}
use Rattle.repo_plan.specs.declared.part.Part.{Part}
use Rattle.repo_plan.specs.Plan.{is_after}
use Rattle.lab_capture.proofs.HeldLists.{from_all, from_next}
use Rattle.lab_capture.proofs.held.following.Goals as goal

pub returns-in-None : goal.returns-in-None
returns-in-None c = λ t. from_all t ∙ ap (λ (a : Option Part). is_after a t) (sym c.in-None.is)

pub returns-in-Some : goal.returns-in-Some
returns-in-Some c = λ t. from_next c.in-Some.last t ∙ ap (λ (a : Option Part). is_after a t) (sym c.in-Some.is)
