use Rattle.bench_world.proofs.answering.answer.Given as goal

abbrev pub ghost-want_for : goal.ghost-want_for
ghost-want_for g a = g.logs

abbrev pub ghost-answer_from : goal.ghost-answer_from
ghost-answer_from g a = g.logs
