use Rattle.svs_sync.proofs.NameLemmas.{name_is_tested}
use Rattle.svs_sync.proofs.laws.sync_interests_are_tested.Goals as goal

pub returns : goal.returns
returns c = name_is_tested
