use Rattle.std.proofs.Common.{length}
use Rattle.std.specs.Prelude.{filter}
use Rattle.repo_plan.specs.Plan.{is_after}
use Rattle.group_model.specs.Publications.{all_parts}
use Rattle.bench_world.specs.Gathering.{Counts, RoundSoFar}
use Rattle.bench_world.specs.Sizes.{size_of}
use Rattle.bench_world.proofs.fetch_all.fetch_round.Given as goal

abbrev pub ghost-fetch_phase : goal.ghost-fetch_phase
ghost-fetch_phase g a = g.logs

abbrev pub invariant-phases : goal.invariant-phases
invariant-phases g l = record {
  so_far : RoundSoFar g.H.Holder.words l.g g.logs l.link.others.now l.after l.kept.parts l.fn.holder l.holder;
  octets : Counts g.H.Holder.words (size_of l.g g.logs) l.kept.octets l.fn.holder l.holder;
}

abbrev pub decreases-phases : goal.decreases-phases
decreases-phases g l = length (filter (is_after l.after) (all_parts g.logs))
