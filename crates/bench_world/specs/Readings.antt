-- What octets from outside are for a group: as a sync Interest, as an Interest, and as a packet of a part.
use Rattle.std.specs.Prelude.{ℕ, List, Option, Some, None, Result, Ok, Err}
use Rattle.ndn_name.specs.declared.fault.PacketFault.{PacketFault}
use Rattle.repo_plan.specs.declared.part.Part.{Part}
use Rattle.repo_store.specs.Served.{served_part}
use Rattle.svs_sync.specs.declared.sync_refusal.SyncRefusal.{SyncRefusal}
use Rattle.group_model.specs.Publications.{Logs}
use Rattle.group_model.specs.Events.{SyncInterest, Found}
use Rattle.group_model.specs.Events.Found.{Unread, NoPacket, Packet}
use Rattle.repo_member.specs.Groups.{GroupKeys}
use Rattle.repo_member.specs.ConsistentMembers.{published_packets}

-- The sync Interest that octets are read as, by their verdict.
abbrev pub read_as : Result (ℕ × List ℕ) SyncRefusal → Option SyncInterest
read_as (Ok received) = Some (record { sender = received.0; vector = received.1 })
read_as (Err refusal) = None

-- What was found for an Interest: the packet of a part, no packet, or that the octets are no Interest.
abbrev pub found_as : Result (Option Part) PacketFault → Found
found_as (Err fault) = Unread
found_as (Ok None) = NoPacket
found_as (Ok (Some t)) = Packet t

-- What octets find as an Interest among the packets of held parts.
abbrev pub finds : GroupKeys → List ℕ → Logs → List Part → Found
finds g interest logs held = found_as (served_part interest (published_packets g logs held))
