use Rattle.bench_world.specs.Worlds.{logs_around}
use Rattle.bench_world.proofs.world.World.feed.Given as goal

abbrev pub ghost-feed : goal.ghost-feed
ghost-feed a = logs_around a.members.now.items
