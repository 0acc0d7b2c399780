use Rattle.std.proofs.Common.{subst}
use Rattle.repo_store.specs.Slots.{HeldIsSound}
use Rattle.repo_store.proofs.SlotLemmas.{sound_seen}
use Rattle.repo_store.proofs.packet_table.PacketTable.len.Goals as goal

pub returns-clause-sound : goal.returns-clause-sound
returns-clause-sound c = subst HeldIsSound c.self.view_is (sound_seen c.self.inside c.self.invariant)
