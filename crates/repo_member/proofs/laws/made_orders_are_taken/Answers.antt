use Rattle.repo_member.proofs.OrderLemmas.{made_orders_are_taken, orders_beyond}
use Rattle.repo_member.proofs.laws.made_orders_are_taken.Goals as goal

pub returns-clause-taken : goal.returns-clause-taken
returns-clause-taken c = made_orders_are_taken

pub returns-clause-beyond : goal.returns-clause-beyond
returns-clause-beyond c = orders_beyond
