use Rattle.svs_sync.proofs.RefusalLemmas.{refused_for_octets}
use Rattle.svs_sync.proofs.laws.sync_refusals_are_of_the_octets.Goals as goal

pub returns : goal.returns
returns c = refused_for_octets
