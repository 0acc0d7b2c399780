use Rattle.group_model.specs.World.{logs}
use Rattle.bench_world.proofs.member_fetching.fetch_at.Given as goal

abbrev pub ghost-fetch : goal.ghost-fetch
ghost-fetch g a = logs g.begun
