use Rattle.std.proofs.Common.{◌-◌}
use Rattle.repo_store.proofs.FingerprintLemmas.{test, Searched}
use Rattle.repo_store.proofs.packet_table.PacketTable.first_of_fingerprint.Given as goal

abbrev pub invariant-loop-from : goal.invariant-loop-from
invariant-loop-from l = Searched l.self (test l.self l.fingerprint l.sought) l.from l.least

abbrev pub decreases-loop-from : goal.decreases-loop-from
decreases-loop-from l = l.self-inside.packets.capacity - l.from
