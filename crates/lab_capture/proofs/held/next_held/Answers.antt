use Rattle.std.proofs.Common.{◌∙◌, Bool, ap}
use Rattle.std.specs.List.{filter}
use Rattle.repo_plan.specs.declared.part.Part.{Part}
use Rattle.repo_plan.specs.Plan.{first}
use Rattle.lab_capture.proofs.HeldLists.{first_held}
use Rattle.lab_capture.proofs.held.next_held.Goals as goal

pub returns : goal.returns
returns g c =
    first_held (g.H.HasParts.has c.args.holder.now) g.held c.requires.1.0 c.following.result c.least_from.result
    c.least_from.ensures
    ∙ ap (λ (test : Part → Bool). first (filter test g.held)) (λ i t. c.following.ensures t i)
