use Rattle.std.proofs.Common.{sym, ◌∙◌, take}
use Rattle.std.specs.List.{filter}
use Rattle.repo_plan.specs.Plan.{is_after}
use Rattle.repo_mirror.proofs.MirrorLemmas.{wide_as_vector, jobs_are}
use Rattle.repo_mirror.proofs.mirror.Mirror.plan.Goals as goal

pub jobs-requires-clause-width : goal.jobs-requires-clause-width
jobs-requires-clause-width c =
    c.requires.width ∙ sym (wide_as_vector c.self.inside c.args.self.now c.self.invariant c.self.view_is)

pub returns : goal.returns
returns c =
    rw (← jobs_are c.args.publishers.now c.args.group.now
    (λ ts. take c.args.most (filter (is_after c.args.after) ts))
    c.self.inside c.args.self.now c.self.invariant c.self.view_is) c.jobs.ensures
