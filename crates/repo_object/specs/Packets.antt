-- Data packets as octets.
use Rattle.std.specs.Prelude.{◌≡◌, ℕ, List, [], Result, Ok, Err}
use Rattle.ndn_name.specs.declared.fault.PacketFault.{PacketFault}
use Rattle.ndn_name.specs.Names.{IsName, encoding}
use Rattle.ndn_data.specs.Data.{Data, data_of}

-- The octets read as a Data packet, which has a name.
pub record IsPacket (octets : List ℕ) : Type 0 where
  pub packet : Data
  pub read : data_of octets ≡ Ok packet
  pub name : IsName packet.name

-- The value of the name of a Data packet that was read. It is empty for a fault.
abbrev pub name_octets : Result Data PacketFault → List ℕ
name_octets (Ok d) = encoding d.name
name_octets (Err fault) = []

-- The value of the name of the Data packet `octets`. It is empty if they are no Data packet.
unfoldable pub packet_name : List ℕ → List ℕ
packet_name octets = name_octets (data_of octets)

-- The content of a Data packet that was read. It is empty for a fault.
abbrev pub content_octets : Result Data PacketFault → List ℕ
content_octets (Ok d) = d.content
content_octets (Err fault) = []

-- The content of the Data packet `octets`. It is empty if they are no Data packet.
unfoldable pub packet_content : List ℕ → List ℕ
packet_content octets = content_octets (data_of octets)
