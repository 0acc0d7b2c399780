use Rattle.std.proofs.Common.{◌∙◌, List, None, ap, length, map, sym, take}
use Rattle.std.specs.List.{filter}
use Rattle.std.proofs.lemmas.Result.{IfOk-weaker}
use Rattle.repo_plan.specs.Plan.{is_after, unclaimed}
use Rattle.repo_member.specs.Groups.{GroupKeys}
use Rattle.repo_member.specs.MemberState.{MemberState, member_plan}
use Rattle.repo_member.specs.Outcomes.{job_for}
use Rattle.lab_capture.specs.Capturings.{asked_by}
use Rattle.lab_capture.specs.Frames.{Asked}
use Rattle.lab_capture.proofs.Worlds.{is_of_group, jobs_ask}
use Rattle.lab_capture.proofs.known.planned.Goals as goal

pub plan-requires : goal.plan-requires
plan-requires c =
    ap (λ (g : GroupKeys). length g.members.names) c.group.ensures
    ∙ is_of_group c.args.world.now c.cite_soundness.ensures.consistent c.args.m c.requires
    ∙ sym (ap (λ (a : MemberState). length a.known) c.member.ensures.same)

pub returns : goal.returns
returns c =
    let asked : GroupKeys → MemberState → List Asked = λ g a.
    map asked_by (map (job_for g a) (take 4096 (filter (is_after None) (unclaimed (member_plan a))))) in
    IfOk-weaker c.plan.result _ _ (λ jobs are.
    ap (map asked_by) are ∙ ap (λ (g : GroupKeys). asked g c.member.result.now) c.group.ensures
    ∙ ap (asked c.args.world.now.keys) c.member.ensures.same
    ∙ jobs_ask c.args.world.now c.cite_soundness.ensures.consistent c.args.m c.requires)
    c.plan.ensures
