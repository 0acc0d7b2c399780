use Rattle.bench_world.proofs.answering.feed.Given as goal

abbrev pub ghost-want_for : goal.ghost-want_for
ghost-want_for g a = g.logs

abbrev pub ghost-accept : goal.ghost-accept
ghost-accept g a = g.logs
