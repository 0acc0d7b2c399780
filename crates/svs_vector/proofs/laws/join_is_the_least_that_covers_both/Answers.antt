use Rattle.svs_vector.proofs.JoinLemmas.{covers_first, join_again, covers_least}
use Rattle.svs_vector.proofs.laws.join_is_the_least_that_covers_both.Goals as goal

pub returns-clause-first : goal.returns-clause-first
returns-clause-first c = covers_first

pub returns-clause-second : goal.returns-clause-second
returns-clause-second c = join_again

pub returns-clause-least : goal.returns-clause-least
returns-clause-least c = covers_least
