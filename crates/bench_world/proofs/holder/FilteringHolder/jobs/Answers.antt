use Rattle.std.proofs.Common.{length, ap, ◌∙◌}
use Rattle.std.proofs.lemmas.Result.{IfOk-weaker}
use Rattle.repo_mirror.specs.MirrorOutcomes.{planned_jobs}
use Rattle.repo_mirror.proofs.PublicLaws.{mirrors_plan_jobs, length-asked}
use Rattle.bench_world.proofs.holder.FilteringHolder.jobs.Goals as goal

pub plan-requires-clause-width : goal.plan-requires-clause-width
plan-requires-clause-width g c =
    let m = c.args.self.now.mirror in
    ap length c.roster.ensures.names ∙ c.requires ∙ length-asked m.pattern.publisher 0 m.known

pub returns : goal.returns
returns g c =
    IfOk-weaker c.plan.result _ _ (λ jobs planned.
    planned
    ∙ (λ i. planned_jobs (c.roster.ensures.names i) (c.name.ensures i) c.args.self.now.mirror c.args.after c.args.most)
    ∙ mirrors_plan_jobs c.args.g.now c.args.self.now.mirror c.args.after c.args.most) c.plan.ensures
