use Rattle.svs_vector.proofs.JoinLemmas.{covers_Covers, Covers_covers}
use Rattle.svs_vector.proofs.laws.covers_is_nothing_gained.Goals as goal

pub returns : goal.returns
returns c = λ v w. (covers_Covers v w, Covers_covers v w)
