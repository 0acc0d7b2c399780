use Rattle.group_model.specs.World.{logs}
use Rattle.bench_world.proofs.settling.settle_members.Given as goal

abbrev pub ghost-tell_all : goal.ghost-tell_all
ghost-tell_all g a = logs g.begun

abbrev pub ghost-fetch_all_for_members : goal.ghost-fetch_all_for_members
ghost-fetch_all_for_members g a = g.begun
