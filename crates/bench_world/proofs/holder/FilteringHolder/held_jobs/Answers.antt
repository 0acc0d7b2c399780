use Rattle.std.proofs.Common.{length, ap, ◌∙◌}
use Rattle.std.proofs.lemmas.Result.{IfOk-weaker}
use Rattle.repo_plan.specs.Leaps.{some_holds}
use Rattle.repo_mirror.specs.MirrorOutcomes.{planned_jobs_that}
use Rattle.repo_mirror.proofs.PublicLaws.{mirrors_plan_jobs_that, length-asked}
use Rattle.bench_world.specs.Touching.{lend_touched}
use Rattle.bench_world.proofs.holder.FilteringHolder.held_jobs.Goals as goal

pub plan_held-requires-clause-width : goal.plan_held-requires-clause-width
plan_held-requires-clause-width g c =
    let m = c.args.self.now.mirror in
    ap length c.roster.ensures.names ∙ c.requires ∙ length-asked m.pattern.publisher 0 m.known

pub returns : goal.returns
returns g c =
    let m = c.args.self.now.mirror in
    let held = some_holds (λ l. lend_touched l.members.now l.touched.now) c.args.lenders.now in
    IfOk-weaker c.plan_held.result _ _ (λ jobs planned.
    planned
    ∙ (λ i. planned_jobs_that held (c.roster.ensures.names i) (c.name.ensures i) m c.args.after c.args.most)
    ∙ mirrors_plan_jobs_that held c.args.g.now m c.args.after c.args.most) c.plan_held.ensures
