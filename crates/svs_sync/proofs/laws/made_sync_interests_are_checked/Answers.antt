use Rattle.svs_vector.proofs.ReadBackLemmas.{read_back}
use Rattle.svs_sync.proofs.VerdictLemmas.{made_is_checked}
use Rattle.svs_sync.proofs.laws.made_sync_interests_are_checked.Goals as goal

pub returns : goal.returns
returns c group key_name roster vector key ring signer valid_group limits are members long small valid_key named found
    at =
    made_is_checked group roster ring vector key_name key signer found at (read_back roster vector are long small)
    valid_group limits are.few members valid_key named
