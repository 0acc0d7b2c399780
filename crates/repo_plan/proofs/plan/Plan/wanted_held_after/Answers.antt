use Rattle.std.proofs.Common.{◌<◌, ◌-◌, ◌++◌, List, Some, length, take, arith, ◌∙◌, sym, ap}
use Rattle.repo_plan.specs.declared.part.Part.{Part}
use Rattle.repo_plan.specs.Leaps.{some_holds}
use Rattle.repo_plan.proofs.Scans.{take_one}
use Rattle.repo_plan.proofs.Leaping.{sought, sought_next}
use Rattle.repo_plan.proofs.plan.Plan.wanted_held_after.Goals as goal

pub loop-last-preserved : goal.loop-last-preserved
loop-last-preserved g c =
    let now = c.args.self.now in
    let test = some_holds g.H.HasParts.has c.args.others.now in
    let rest = sought now test (Some c.in-Some.part) in
    let room : length c.loop-last.parts.items < c.args.most = omega arith in
    let more = sought_next now test c.loop-last.last c.in-Some.part c.in-Some.ensures in
    ap (λ (parts : List Part). parts ++ take (c.args.most - length parts) rest) c.in_ok-push.ensures.items
    ∙ sym (take_one c.args.most c.in-Some.part c.loop-last.parts.items rest
    (sought now test c.loop-last.last) room more)
    ∙ c.loop-last.invariant
