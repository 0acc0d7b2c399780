use Rattle.std.proofs.Common.{List, map, take, ap, ◌∙◌}
use Rattle.std.proofs.lemmas.Result.{IfOk-weaker}
use Rattle.repo_plan.specs.declared.part.Part.{Part}
use Rattle.repo_holdings.specs.Wanting.{job_at}
use Rattle.bench_world.proofs.LentParts.{all_alike}
use Rattle.bench_world.proofs.fetch_all.jobs_of_touched.Goals as goal

pub returns : goal.returns
returns g c =
    let words = g.H.Holder.words in
    let s = c.args.holder.now in
    IfOk-weaker c.held_jobs.result _ _ (λ jobs planned.
    planned
    ∙ ap (λ (ts : List Part).
    map (job_at c.args.g.now.members.names c.args.g.now.name (words.holdings s)) (take 4096 ts))
    (all_alike words g.met.H.Holder.are_holders c.args.touched.now c.args.others.now s c.requires.lacks c.args.after))
    c.held_jobs.ensures
