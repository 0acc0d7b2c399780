use Rattle.bench_world.proofs.answering.accept.Given as goal

abbrev pub ghost-is_its_packet : goal.ghost-is_its_packet
ghost-is_its_packet g a = g.logs
