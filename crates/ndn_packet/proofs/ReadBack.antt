-- What was written is read back: the element of a packet, a name, a signature info.
use Rattle.std.proofs.Common.{◌≡◌, ℕ, ◌+◌, ◌-◌, ◌^◌, ◌<◌, ◌≤◌, false, ltb, List, [], ◌∷◌, ◌++◌, length, length-append}
use Rattle.std.proofs.Common.{take, drop, take_at, drop_at, slice_range, Option, Some, None, Result, Ok, refl, sym, ap}
use Rattle.std.proofs.Common.{◌∙◌, arith}
use Rattle.std.proofs.lemmas.List.{append-nil}
use Rattle.std.proofs.lemmas.Bool.{le-ltb, eq-eqb}
use Rattle.ndn_tlv.specs.declared.tlv_fault.TlvFault.{TlvFault}
use Rattle.ndn_tlv.specs.declared.tlv_fault.TlvFault.TheVariants.{Truncated}
use Rattle.ndn_tlv.specs.Spelling.{element}
use Rattle.ndn_tlv.specs.Listing.{Listing, nothing, ◌then◌, gather, gathered, ◌>>=◌}
use Rattle.ndn_tlv.specs.Elements.{Item, placed, elements}
use Rattle.ndn_tlv.specs.OrderTable.{place_of, fields_among, fields}
use Rattle.ndn_tlv.proofs.Listings.{elements-element, elements-nil}
use Rattle.ndn_name.specs.declared.fault.PacketFault.{PacketFault}
use Rattle.ndn_name.specs.declared.fault.PacketFault.TheVariants.{Tlv, BadField}
use Rattle.ndn_name.specs.declared.fault.Field.TheVariants as field
use Rattle.ndn_name.specs.Names.{Component, IsName, encoding}
use Rattle.ndn_name.specs.Faults.{packet_fault}
use Rattle.ndn_name.proofs.Encodings.{name_of-encoding}
use Rattle.ndn_packet.specs.Contents.{first_among, first_of, name_or, name_in}
use Rattle.ndn_packet.specs.Outer.{outer_of}
use Rattle.ndn_packet.specs.SignatureInfo.{signature_info_table, InfoSoFar, locator_from, locator_in, with_info_field}
use Rattle.ndn_packet.specs.SignatureInfo.{info_fields, info_from, info_in}
use Rattle.ndn_packet.specs.Written.{written_info}
use Rattle.ndn_packet.specs.declared.signature_info.InfoField.TheVariants.{SignatureType, KeyLocator}
use Rattle.ndn_packet.proofs.Lengths.{length-element}

-- an element that nothing follows
pub alone : (o typ : ℕ) (value : List ℕ) → 0 < typ → typ < 2 ^ 32 → length value < 2 ^ 64
    → elements o (element typ value) ≡ (placed o typ value then nothing)
alone o typ value above below fits =
    ap (elements o) (sym (append-nil (element typ value)))
    ∙ elements-element o typ value [] above below fits
    ∙ ap (λ (l : Listing Item TlvFault). placed o typ value then l)
    (elements-nil (o + length (element typ value)) [] refl)

-- an element, and what follows it
pub followed : (o typ : ℕ) (value rest : List ℕ) (read : Listing Item TlvFault) → 0 < typ → typ < 2 ^ 32
    → length value < 2 ^ 64
    → elements (o + length (element typ value)) rest ≡ read
    → elements o (element typ value ++ rest) ≡ (placed o typ value then read)
followed o typ value rest read above below fits h =
    elements-element o typ value rest above below fits ∙ ap (λ (l : Listing Item TlvFault). placed o typ value then l) h

-- octets between others
pub portion_is : (prefix portion tail : List ℕ) (from to : ℕ) → from ≡ length prefix → to ≡ from + length portion
    → slice_range (prefix ++ (portion ++ tail)) from to ≡ portion
portion_is prefix portion tail from to f t =
    let long : to - from ≡ length portion = omega arith in
    ap (λ (n : ℕ). take n (drop from (prefix ++ (portion ++ tail)))) long
    ∙ ap (λ (l : List ℕ). take (length portion) l) (drop_at prefix (portion ++ tail) from (sym f))
    ∙ take_at portion tail (length portion) refl

-- the packet's element
pub outer_again : (typ : ℕ) (value : List ℕ) → 0 < typ → typ < 2 ^ 32 → length (element typ value) ≤ 8800
    → outer_of typ (element typ value) ≡ Ok (placed 0 typ value)
outer_again typ value above below short =
    let octets = element typ value in
    let e = placed 0 typ value in
    let one = alone 0 typ value above below (omega (arith, length-element typ value)) in
    let first : first_of (Tlv (Truncated 0)) 0 octets ≡ Ok e =
    ap (λ (l : Listing Item TlvFault). first_among (Tlv (Truncated 0)) l.items l.fault) one in
    let small : ltb 8800 (length octets) ≡ false = le-ltb 8800 (length octets) short in
    let ends : ltb (0 + length octets) (length octets) ≡ false =
    le-ltb (0 + length octets) (length octets) (omega arith) in
    rw (small, first, eq-eqb typ typ refl, ends) refl

pub name_again : (bad : PacketFault) (o typ : ℕ) (name : List Component) → IsName name
    → name_in bad (placed o typ (encoding name)) ≡ Ok name
name_again bad o typ name h = ap (name_or bad) (name_of-encoding _ name h)

-- a step of a gathering that does not fail
pub gathers : {S A F E : Type 0} (take : S → A → Result S E) (named : F → E) (s t : S) (x : A) (rest : Listing A F)
    → take s x ≡ Ok t → gathered take named s (x then rest) ≡ gathered take named t rest
unfolding gather
gathers take named s t x rest h = ap (λ (r : Result _ _). r >>= λ u. gathered take named u rest) h

pub gathered-nothing : {S A F E : Type 0} (take : S → A → Result S E) (named : F → E) (s : S)
    → gathered take named s nothing ≡ Ok s
unfolding gather
gathered-nothing take named s = refl

-- ---- a signature info

info_table : (a b : Item) → a.typ ≡ 0x1b → b.typ ≡ 0x1c
    → fields signature_info_table (a then (b then nothing)) ≡ ((SignatureType, a) then ((KeyLocator, b) then nothing))
unfolding fields_among place_of
info_table a b h k = rw (h, k) refl

locator_again : (e : Item) (key_name : List Component) → e.value ≡ element 0x07 (encoding key_name) → IsName key_name
    → length (encoding key_name) < 2 ^ 64
    → locator_in e ≡ Ok (Some key_name)
locator_again e key_name is valid fits =
    let bad = BadField field.KeyLocator e.start in
    let name = placed e.value_start 0x07 (encoding key_name) in
    let read =
    ap (elements e.value_start) is ∙ alone e.value_start 0x07 (encoding key_name) (omega arith) (omega arith) fits in
    let first : first_of bad e.value_start e.value ≡ Ok name =
    ap (λ (l : Listing Item TlvFault). first_among bad l.items l.fault) read in
    ap (λ (r : Result Item PacketFault). r >>= locator_from bad) first
    ∙ ap (λ (r : Result (List Component) PacketFault). r >>= λ n. Ok (Some n))
    (name_again bad e.value_start 0x07 key_name valid)

pub info_again : (o typ : ℕ) (key_name : List Component) → IsName key_name → length (written_info key_name) < 2 ^ 64
    → info_in (placed o typ (written_info key_name)) ≡ Ok (record { signature_type = 4; locator = Some key_name })
info_again o typ key_name valid fits =
    let v = (placed o typ (written_info key_name)).value_start in
    let locator = element 0x07 (encoding key_name) in
    let next = v + length (element 0x1b (4 ∷ [])) in
    let a = placed v 0x1b (4 ∷ []) in
    let b = placed next 0x1c locator in
    let long = length-append (element 0x1b (4 ∷ [])) (element 0x1c locator) in
    let longer = length-element 0x1c locator in
    let longest = length-element 0x07 (encoding key_name) in
    let read =
    followed v 0x1b (4 ∷ []) (element 0x1c locator) (b then nothing) (omega arith) (omega arith) (omega arith)
    (alone next 0x1c locator (omega arith) (omega arith) (omega arith)) in
    let s : InfoSoFar = record { signature_type = None; locator = None } in
    let t : InfoSoFar = record { signature_type = Some 4; locator = None } in
    let u : InfoSoFar = record { signature_type = Some 4; locator = Some key_name } in
    let first : with_info_field s (SignatureType, a) ≡ Ok t = refl in
    let second : with_info_field t (KeyLocator, b) ≡ Ok u =
    ap (λ (r : Result (Option (List Component)) PacketFault). r >>= λ l. Ok (record t { locator = l }))
    (locator_again b key_name refl valid (omega arith)) in
    let all : info_fields (placed o typ (written_info key_name)) ≡ Ok u =
    ap (λ (l : Listing Item TlvFault). gathered with_info_field packet_fault s (fields signature_info_table l)) read
    ∙ ap (gathered with_info_field packet_fault s) (info_table a b refl refl)
    ∙ gathers with_info_field packet_fault s t (SignatureType, a) ((KeyLocator, b) then nothing) first
    ∙ gathers with_info_field packet_fault t u (KeyLocator, b) nothing second
    ∙ gathered-nothing with_info_field packet_fault u in
    ap (λ (r : Result InfoSoFar PacketFault). r >>= info_from) all
