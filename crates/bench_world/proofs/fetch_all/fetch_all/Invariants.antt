use Rattle.std.proofs.Common.{◌-◌, length}
use Rattle.group_model.specs.Publications.{all_parts}
use Rattle.bench_world.specs.Gathering.{one_each, held_sum, Counts, GainsParts}
use Rattle.bench_world.specs.Sizes.{size_of}
use Rattle.bench_world.proofs.fetch_all.fetch_all.Given as goal

abbrev pub ghost-fetch_round : goal.ghost-fetch_round
ghost-fetch_round g a = g.logs

abbrev pub invariant-rounds : goal.invariant-rounds
invariant-rounds g l = record {
  gains : GainsParts g.H.Holder.words l.g g.logs l.link.others.now l.fn.holder l.holder;
  parts : Counts g.H.Holder.words one_each l.kept.parts l.fn.holder l.holder;
  octets : Counts g.H.Holder.words (size_of l.g g.logs) l.kept.octets l.fn.holder l.holder;
}

abbrev pub decreases-rounds : goal.decreases-rounds
decreases-rounds g l = length (all_parts g.logs) - held_sum g.H.Holder.words one_each l.holder
