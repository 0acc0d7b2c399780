use Rattle.std.proofs.Common.{◌≡◌, ◌<◌, [], ◌∷◌, None, List, sym, ap, subst, ◌∙◌, slice_get, arith}
use Rattle.std.specs.Prelude.{IfOk}
use Rattle.std.specs.List.{filter}
use Rattle.repo_plan.specs.Plan.{wanted, is_after}
use Rattle.repo_object.specs.declared.job.Job.{Job}
use Rattle.repo_holdings.specs.Wanting.{job_at}
use Rattle.repo_mirror.specs.MirrorState.{mirror_holdings, fetch_plan}
use Rattle.repo_mirror.specs.MirrorOutcomes.{planned_jobs, WereTriedFor}
use Rattle.repo_mirror.proofs.PublicLaws.{planned_jobs_are_outcomes}
use Rattle.repo_tests.proofs.OneJob.{first_same, one_job}
use Rattle.repo_tests.proofs.mirror.fetch_next.Goals as goal

pub take_first-requires : goal.take_first-requires
take_first-requires g c = record {
  outcome = λ job part first its.
      let names = c.roster.result.now in
      let group = c.name.result.now in
      let m = c.args.mirror.now in
      let planned : c.deref-2.result.now ≡ planned_jobs names group m None 1 =
      c.deref-2.ensures.value
      ∙ subst (λ r. IfOk r (λ jobs. jobs.items ≡ planned_jobs names group m None 1)) c.expect-jobs.ensures
      c.plan.ensures in
      let one : c.deref-2.result.now ≡ job ∷ [] =
      one_job (job_at names group (mirror_holdings m)) (filter (is_after None) (wanted (fetch_plan m)))
      c.deref-2.result.now job planned first in
      let same : c.in_ok-job.job.now ≡ job =
      first_same c.in_ok-job.job.now job
      (c.in_ok-job.ensures.value
      ∙ ap (λ (js : List Job). slice_get js 0) (c.deref.ensures.value ∙ sym c.deref-2.ensures.value)
      ∙ first) in
      let few : job.base < 1000 = subst (λ (j : Job). j.base < 1000) same c.few_tries.ensures in
      planned_jobs_are_outcomes names group m None 1 c.deref-2.result.now (part ∷ []) (3 ∷ []) planned
      (subst (λ (js : List Job). WereTriedFor js (part ∷ []) (3 ∷ [])) (sym one) (its, omega (arith, few), tt));
}
