use Rattle.bench_world.proofs.answering.answer_from.Given as goal

abbrev pub ghost-accept_served : goal.ghost-accept_served
ghost-accept_served g a = g.logs
