use Rattle.bench_world.proofs.answering.accept_served.Given as goal

abbrev pub ghost-accept : goal.ghost-accept
ghost-accept g a = g.logs
