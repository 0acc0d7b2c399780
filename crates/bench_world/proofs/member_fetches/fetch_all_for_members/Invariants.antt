use Rattle.std.proofs.Common.{◌≡◌, ◌≤◌, ◌*◌, take}
use Rattle.group_model.specs.World.{logs}
use Rattle.bench_world.specs.Gathering.{one_each}
use Rattle.bench_world.specs.Settling.{new_parts_sum, FetchedSoFar}
use Rattle.bench_world.specs.Sizes.{size_of}
use Rattle.bench_world.proofs.member_fetches.fetch_all_for_members.Given as goal

abbrev pub ghost-fetch_all_at : goal.ghost-fetch_all_at
ghost-fetch_all_at g a = logs g.begun

abbrev pub invariant-loop-j : goal.invariant-loop-j
invariant-loop-j g l = record {
  so_far : FetchedSoFar l.g g.begun l.fn.members.items l.j l.members.items;
  parts : l.parts ≡ new_parts_sum one_each g.begun (take l.j g.begun.members);
  octets : l.octets ≡ new_parts_sum (size_of l.g (logs g.begun)) g.begun (take l.j g.begun.members);
  few : l.parts ≤ l.j * 4294967296;
  few_octets : l.octets ≤ l.j * 37795712614400;
}
