use Rattle.svs_vector.proofs.JoinLemmas.{fold_is_join_all}
use Rattle.svs_vector.proofs.laws.joins_are_the_join_of_all.Goals as goal

pub returns : goal.returns
returns c = fold_is_join_all
