use Rattle.bench_world.specs.Worlds.{only_members}
use Rattle.bench_world.proofs.world.World.fetch.Given as goal

abbrev pub ghost-fetch_at : goal.ghost-fetch_at
ghost-fetch_at g a = only_members a.members.now.items
