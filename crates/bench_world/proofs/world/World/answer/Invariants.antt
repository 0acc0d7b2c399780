use Rattle.bench_world.specs.Worlds.{logs_around}
use Rattle.bench_world.proofs.world.World.answer.Given as goal

abbrev pub ghost-answer : goal.ghost-answer
ghost-answer a = logs_around a.members.now.items
