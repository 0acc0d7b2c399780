-- Whether octets pass for a wanted part, and else the first reason why not.
use Rattle.std.specs.Prelude.{◌≡◌, ℕ, ◌&&◌, ◌||◌, not, Bool, true, false, IsTrue, IsSome, IfSome, List, [], ◌++◌}
use Rattle.std.specs.Prelude.{Option, Some, None, is_some, nat_lt, unwrap_or, slice_get, Result, Ok, Err, IsOk, ◌==◌}
use Rattle.std.specs.Prelude.{if◌then◌else◌}
use Rattle.std.specs.Option.{option_and_then}
use Rattle.std.specs.Str.{bytes_eq}
use Rattle.sha2.specs.Sha256.{sha256}
use Rattle.ndn_tlv.specs.Types as types
use Rattle.ndn_tlv.specs.Spelling.{element}
use Rattle.ndn_tlv.specs.Listing.{◌>>=◌}
use Rattle.ndn_name.specs.declared.fault.PacketFault.{PacketFault}
use Rattle.ndn_name.specs.Names.{Component, encoding}
use Rattle.ndn_sign.specs.Hmac.{hmac}
use Rattle.ndn_sign.specs.Ring.{NamedKey, pair}
use Rattle.ndn_packet.specs.SignatureInfo.{SignatureHmacWithSha256}
use Rattle.ndn_data.specs.Data.{Data, data_of, IsAllSigned}
use Rattle.repo_object.specs.declared.part_refusal.PartRefusal.{PartRefusal}
use Rattle.repo_object.specs.declared.part_refusal.PartRefusal.TheVariants.{Packet, UnsignedOctets, OtherName}
use Rattle.repo_object.specs.declared.part_refusal.PartRefusal.TheVariants.{OtherDigest, UnknownKey, BadSignature}
use Rattle.repo_object.specs.declared.part_refusal.PartRefusal.TheVariants.{BadRecord}
use Rattle.repo_object.specs.Publication.{RecordSays}
use Rattle.repo_object.specs.Publication.RecordSays.{Lists, WithdrawsNumber}
use Rattle.repo_object.specs.Records.{record_of, index_of}
use Rattle.repo_object.specs.Wants.{WantedPart}

-- Whether the packet has no octets but those that are signed, and the signature after them.
abbrev pub is_all_signed : Data → Bool
is_all_signed d = bytes_eq d.value (d.signed ++ element types.SignatureValue d.signature)

-- Whether the packet has the name `name`. Names are the same exactly if their octets are.
abbrev pub data_has_name : List Component → Data → Bool
data_has_name name d = bytes_eq (encoding d.name) (encoding name)

-- Whether the octets have the digest. They pass if none is known.
abbrev pub has_digest : Option (List ℕ) → List ℕ → Bool
has_digest None octets = true
has_digest (Some digest) octets = bytes_eq (sha256 octets) digest

-- Whether the key locator is a name whose octets are `key_name`.
abbrev pub locates : List ℕ → Option (List Component) → Bool
locates key_name None = false
locates key_name (Some name) = bytes_eq (encoding name) key_name

-- Whether the packet says that it is signed by HMAC with SHA-256 under the key whose name has the octets `key_name`.
abbrev pub names_key : List ℕ → Data → Bool
names_key key_name d =
    d.signature_type == SignatureHmacWithSha256 && locates key_name d.locator

-- Whether the signature is the mac of the signed portion under `key`.
abbrev pub is_signed_by : List ℕ → Data → Bool
is_signed_by key d = bytes_eq (hmac key d.signed) d.signature

-- Whether the record of the publication of number `seq` may say this. A withdrawal must be of an earlier number.
abbrev pub may_say : ℕ → Option RecordSays → Bool
may_say seq None = false
may_say seq (Some (Lists l)) = true
may_say seq (Some (WithdrawsNumber withdrawn)) = nat_lt withdrawn seq

-- Whether `content` is that of an index packet with `count` digests. Every content passes for None.
abbrev pub lists_as_many : Option ℕ → List ℕ → Bool
lists_as_many None content = true
lists_as_many (Some count) content = is_some (index_of content count)

-- Whether the content is what the want asks for: of part 0, a record that the publication may have, and of an index
-- packet, the number of digests that the want says.
abbrev pub is_well_stated : WantedPart → Data → Bool
is_well_stated want d =
    (not (want.part.part == 0) || may_say want.part.seq (record_of d.content)) && lists_as_many want.lists d.content

-- The packet `d` if it passes for the want under the publisher's key `key` of name `key_name`, or the first reason why
-- not.
abbrev pub packet_verdict : WantedPart → List ℕ → List ℕ → List ℕ → Data → Result Data PartRefusal
packet_verdict want key_name key octets d =
    if not (is_all_signed d) then Err UnsignedOctets
    else if not (data_has_name want.name d) then Err OtherName
    else if not (has_digest want.digest octets) then Err OtherDigest
    else if not (names_key key_name d) then Err UnknownKey
    else if not (is_signed_by key d) then Err BadSignature
    else if not (is_well_stated want d) then Err BadRecord
    else Ok d

-- A packet that was read, or the refusal of octets that are no Data packet.
abbrev pub read_packet : Result Data PacketFault → Result Data PartRefusal
read_packet (Ok d) = Ok d
read_packet (Err fault) = Err (Packet fault)

-- The packet that `octets` are if it passes for the want under the key `key` of name `key_name`, or the first reason
-- why not.
abbrev pub part_verdict : WantedPart → List ℕ → List ℕ → List ℕ → Result Data PartRefusal
part_verdict want key_name key octets =
    read_packet (data_of octets) >>= packet_verdict want key_name key octets

-- What it means that `octets` pass for `want` as the packet `d`.
pub record Passes (want : WantedPart) (key_name key octets : List ℕ) (d : Data) : Type 0 where
  pub read : data_of octets ≡ Ok d
  pub all_signed : IsAllSigned d
  pub name : encoding d.name ≡ encoding want.name
  pub digest : IfSome want.digest (λ digest. sha256 octets ≡ digest)
  pub signature_type : d.signature_type ≡ SignatureHmacWithSha256
  pub locator : List Component
  pub located : d.locator ≡ Some locator
  pub key_named : encoding locator ≡ key_name
  pub signature : d.signature ≡ hmac key d.signed
  pub stated : want.part.part ≡ 0 → IsTrue (may_say want.part.seq (record_of d.content))
  pub listing : IfSome want.lists (λ count. IsSome (index_of d.content count))

-- ---- what a check gives

-- A part that passed a check: its want, its packet's octets, and the name and key of its publisher.
pub record CheckedPart : Type 0 where
  pub want : WantedPart
  pub octets : List ℕ
  pub key_name : List ℕ
  pub key : List ℕ

-- The part `c` passes for its want under its publisher's key.
abbrev pub IsChecked : CheckedPart → Type 0
IsChecked c = IsOk (part_verdict c.want c.key_name c.key c.octets)

-- The key at place `number` in the ring, with its name. Both are empty if there is none.
abbrev pub key_at : List NamedKey → ℕ → NamedKey
key_at ring number = unwrap_or (slice_get ring number) (pair [] [])

-- The key of a want's publisher in the ring, with its name.
abbrev pub publisher_key : List NamedKey → WantedPart → NamedKey
publisher_key ring want = key_at ring want.part.publisher

-- A part that passed for its want, under the key that the ring has at its publisher's number.
abbrev pub checked_part : WantedPart → List NamedKey → List ℕ → CheckedPart
checked_part want ring octets =
    record {
      want = want;
      octets = octets;
      key_name = (publisher_key ring want).name;
      key = (publisher_key ring want).key;
    }

-- The verdict on `octets` for `want` under the key that the ring has at the publisher's number.
abbrev pub ring_verdict : WantedPart → List NamedKey → List ℕ → Result Data PartRefusal
ring_verdict want ring octets =
    part_verdict want (publisher_key ring want).name (publisher_key ring want).key octets

-- The content of a packet that was read, or None for a fault.
abbrev pub content_within : Result Data PacketFault → Option (List ℕ)
content_within (Ok d) = Some d.content
content_within (Err fault) = None

-- The content of the Data packet `octets`, or None if they are no Data packet.
abbrev pub content_in : List ℕ → Option (List ℕ)
content_in octets = content_within (data_of octets)

-- What the Data packet `octets` says as a record, or None if it is no record.
abbrev pub stated_in : List ℕ → Option RecordSays
stated_in octets = option_and_then record_of (content_in octets)

-- The digests that the Data packet `octets` lists as an index packet, or None if it isn't one with `count` digests.
abbrev pub index_in : List ℕ → ℕ → Option (List (List ℕ))
index_in octets count = option_and_then (λ content. index_of content count) (content_in octets)
