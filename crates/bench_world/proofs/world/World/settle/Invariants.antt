use Rattle.bench_world.specs.Worlds.{only_members}
use Rattle.bench_world.proofs.world.World.settle.Given as goal

abbrev pub ghost-settle_members : goal.ghost-settle_members
ghost-settle_members g a = only_members a.members.now.items
