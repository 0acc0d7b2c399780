use Rattle.bench_world.proofs.member_fetches.fetch_all_at.Given as goal

abbrev pub ghost-fetch_all : goal.ghost-fetch_all
ghost-fetch_all g a = g.logs
