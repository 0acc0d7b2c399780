use Rattle.svs_sync.proofs.ReceivedWidth.{received_wide}
use Rattle.svs_sync.proofs.laws.received_vectors_have_all_members.Goals as goal

pub returns : goal.returns
returns c = λ group roster ring octets received read. received_wide roster group ring octets received read
