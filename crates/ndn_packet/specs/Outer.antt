-- The element that octets are as a packet, or the first fault (NDN Packet Format 0.3, "Packet
-- Types", with this project's limit on the size of packets).
use Rattle.std.specs.Prelude.{ℕ, List, Result, Ok, Err, length, nat_lt, ◌==◌, if◌then◌else◌}
use Rattle.ndn_tlv.specs.declared.tlv_fault.TlvFault.TheVariants.{Truncated}
use Rattle.ndn_tlv.specs.Listing.{◌>>=◌}
use Rattle.ndn_tlv.specs.Elements.{Item}
use Rattle.ndn_name.specs.declared.fault.PacketFault.{PacketFault}
use Rattle.ndn_name.specs.declared.fault.PacketFault.TheVariants.{Tlv, PacketTooLong, WrongType, TrailingOctets}
use Rattle.ndn_packet.specs.Contents.{first_of}

-- How many octets a packet may have.
abbrev pub packet_limit : ℕ
packet_limit = 8800

-- An element must be of the wanted type, and be all of the `len` octets.
abbrev pub only_of : ℕ → ℕ → Item → Result Item PacketFault
only_of typ len e =
    if e.typ == typ then (if nat_lt e.end len then Err (TrailingOctets e.end) else Ok e)
    else Err (WrongType e.typ)

-- The element of this type that the octets are. No octets are an element that is cut off.
abbrev pub outer_of : ℕ → List ℕ → Result Item PacketFault
outer_of typ octets =
    if nat_lt packet_limit (length octets) then Err PacketTooLong
    else first_of (Tlv (Truncated 0)) 0 octets >>= only_of typ (length octets)
