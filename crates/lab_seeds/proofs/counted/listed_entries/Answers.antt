use Rattle.std.proofs.Common.{ℕ, length, arith}
use Rattle.group_model.specs.World.{catalogue_at}
use Rattle.bench_world.specs.Worlds.{world_of}
use Rattle.lab_seeds.proofs.Listings.{next_sum}
use Rattle.lab_seeds.proofs.counted.listed_entries.Goals as goal

pub loop-member-preserved : goal.loop-member-preserved
loop-member-preserved c =
    let f = λ (j : ℕ). length (catalogue_at (world_of c.args.world.now) j) in
    let next = next_sum f c.loop-member.member c.len-count.result (omega arith) in
    let so_far = c.loop-member.invariant.so_far in
    let few = c.loop-member.invariant.few in
    let is = c.entries_of-listed.ensures.count in
    let short = c.entries_of-listed.ensures.few in
    record { so_far = omega arith; few = omega arith }
