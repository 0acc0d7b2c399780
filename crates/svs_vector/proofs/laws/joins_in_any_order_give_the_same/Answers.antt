use Rattle.svs_vector.proofs.JoinLemmas.{fold_join_same}
use Rattle.svs_vector.proofs.laws.joins_in_any_order_give_the_same.Goals as goal

pub returns : goal.returns
returns c = fold_join_same
