-- Where the fields of a packet stand in its octets, and the invariant of a shared packet.
use Rattle.std.specs.Prelude.{◌≡◌, ℕ, ◌≤◌, ◌==◌, List, [], Option, Some, None, Result, Ok, Err, length, slice_range}
use Rattle.std.specs.List.{find}
use Rattle.sha2.specs.Sha256.{sha256}
use Rattle.ndn_tlv.specs.Types as types
use Rattle.ndn_tlv.specs.Elements.{Item, elements}
use Rattle.ndn_name.specs.declared.fault.PacketFault.{PacketFault}
use Rattle.ndn_packet.specs.Outer.{outer_of}
use Rattle.repo_object.specs.Packets.{packet_name, packet_content}
use Rattle.repo_object.specs.declared.body.Place.{Place}
use Rattle.repo_object.specs.declared.body.Body.TheInside.{Inside}

-- The first element of type `typ` among `items`, or None.
abbrev pub first_of_type : ℕ → List Item → Option Item
first_of_type typ items = find (λ e. e.typ == typ) items

-- The value of an element, and the empty list for None.
abbrev pub value_of : Option Item → List ℕ
value_of None = []
value_of (Some e) = e.value

-- The value of the first element of type `typ` inside a packet's outer element. It is empty if there is none, or no
-- outer element was read.
abbrev pub value_in : ℕ → Result Item PacketFault → List ℕ
value_in typ (Ok e) = value_of (first_of_type typ (elements e.value_start e.value).items)
value_in typ (Err fault) = []

-- The value of the first element of type `typ` in the Data packet `octets`. It is empty if there is none, or if
-- `octets` have no outer Data element.
unfoldable pub first_value : ℕ → List ℕ → List ℕ
first_value typ octets = value_in typ (outer_of types.Data octets)

-- The two offsets of `place` are in order and within `octets`, and the octets between them are `value`.
pub record LiesAt (octets : List ℕ) (place : Place) (value : List ℕ) : Type 0 where
  pub ordered : place.start ≤ place.end
  pub within : place.end ≤ length octets
  pub there : slice_range octets place.start place.end ≡ value

-- The stored digest is SHA-256 of the octets, and the stored places are those of the packet's name and its content.
pub record IsBody (b : Inside) : Type 0 where
  pub digest : b.digest ≡ sha256 b.octets.items
  pub name : LiesAt b.octets.items b.name (packet_name b.octets.items)
  pub content : LiesAt b.octets.items b.content (packet_content b.octets.items)
