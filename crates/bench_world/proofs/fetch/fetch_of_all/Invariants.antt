use Rattle.bench_world.specs.Worlds.{logs_around}
use Rattle.bench_world.proofs.fetch.fetch_of_all.Given as goal

abbrev pub ghost-fetch : goal.ghost-fetch
ghost-fetch g a = logs_around a.link.now.others.now
