use Rattle.svs_sync.proofs.KeptLemmas.{after_all_same, fires_same, modes_same}
use Rattle.svs_sync.proofs.laws.what_is_kept_is_the_join.Goals as goal

pub returns-clause-after : goal.returns-clause-after
returns-clause-after c = after_all_same

pub returns-clause-fires : goal.returns-clause-fires
returns-clause-fires c = fires_same

pub returns-clause-mode : goal.returns-clause-mode
returns-clause-mode c = modes_same
