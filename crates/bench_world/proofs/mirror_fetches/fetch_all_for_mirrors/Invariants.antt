use Rattle.std.proofs.Common.{◌≡◌, ◌+◌, ◌≤◌, ◌*◌}
use Rattle.bench_world.specs.MirrorSettles.{SettledSoFar, held_by_all}
use Rattle.bench_world.specs.Worlds.{only_members}
use Rattle.bench_world.proofs.mirror_fetches.fetch_all_for_mirrors.Given as goal

abbrev pub invariant-loop-i : goal.invariant-loop-i
invariant-loop-i g l = record {
  so_far : SettledSoFar l.g (only_members l.members) l.fn.mirrors.items l.i l.mirrors.items;
  parts : l.parts + held_by_all l.fn.mirrors.items ≡ held_by_all l.mirrors.items;
  few : l.parts ≤ l.i * 4294967296;
}
