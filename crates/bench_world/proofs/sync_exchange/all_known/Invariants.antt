use Rattle.std.proofs.Common.{◌≡◌, drop, length}
use Rattle.svs_vector.specs.Vectors.{join, join_all}
use Rattle.bench_world.proofs.KnownByAll.{knowns}
use Rattle.bench_world.proofs.sync_exchange.all_known.Given as goal

abbrev pub invariant-loop-member : goal.invariant-loop-member
invariant-loop-member l = record {
  width : length l.all ≡ length l.members;
  joined : join l.all (join_all (knowns (drop l.member-index l.members))) ≡ join_all (knowns l.members);
}
