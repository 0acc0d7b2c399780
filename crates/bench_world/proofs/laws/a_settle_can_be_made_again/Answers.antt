use Rattle.bench_world.proofs.SettledAgain.{gathers_again, settles_again}
use Rattle.bench_world.proofs.laws.a_settle_can_be_made_again.Goals as goal

pub returns-clause-settle : goal.returns-clause-settle
returns-clause-settle c = gathers_again

pub returns-clause-step : goal.returns-clause-step
returns-clause-step c = settles_again
