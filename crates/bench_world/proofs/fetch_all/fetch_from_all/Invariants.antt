use Rattle.bench_world.specs.Worlds.{logs_around}
use Rattle.bench_world.proofs.fetch_all.fetch_from_all.Given as goal

abbrev pub ghost-fetch_all : goal.ghost-fetch_all
ghost-fetch_all g a = logs_around a.link.now.others.now
