-- How many octets a sync Interest has: fewer than a packet may have.
use Rattle.std.proofs.Common.{ℕ, ◌+◌, ◌≤◌, List, [], ◌∷◌, length, length-append, ap, arith}
use Rattle.std.specs.List.{All, flat_map}
use Rattle.std.proofs.lemmas.List.Elements.{All-weaker}
use Rattle.ndn_tlv.specs.Spelling.{element}
use Rattle.ndn_name.specs.Names.{Component, encoding}
use Rattle.ndn_name.proofs.Encodings.{encoding-push}
use Rattle.ndn_packet.specs.Written.{written_info}
use Rattle.ndn_interest.specs.WrittenInterest.{written_digested, written_interest}
use Rattle.ndn_interest.proofs.WriteLemmas.{name_octets, length-digested, length-with_digest}
use Rattle.svs_vector.specs.WrittenVector.{in_canonical_order, known_entries, written_entry, written_vector}
use Rattle.svs_vector.proofs.LengthLemmas.{head_short, element_short, body_short, IsWithin}
use Rattle.svs_sync.specs.SyncInterest.{sync_name, sync_interest, IsNodeName, IsKeyName, key_component}

-- ---- the vector

vector_short : (names : List (List Component)) (vector : List ℕ) → length names ≤ 16 → All (IsWithin 200) names
    → length (written_vector names vector) ≤ 4210
vector_short names vector few short =
    omega (
      arith,
      element_short 201 (flat_map written_entry (in_canonical_order (known_entries names vector))),
      body_short 200 names vector few short,
    )

-- ---- names

pub sync_name_short : (group : List Component) → IsNodeName group → length (encoding (sync_name group)) ≤ 221
sync_name_short group h =
    omega (
      arith,
      ap length (encoding-push group (0x36, 2 ∷ [])),
      length-append (encoding group) (element 0x36 (2 ∷ [])),
      element_short 0x36 (2 ∷ []),
      h.1,
    )

key_name_short : (name : List Component) → IsKeyName name → length (encoding name) ≤ 221
key_name_short name h =
    omega (
      arith,
      ap (λ (n : List Component). length (encoding n)) h.parts,
      ap length (encoding-push h.node key_component),
      length-append (encoding h.node) (element 8 (75 ∷ 69 ∷ 89 ∷ [])),
      element_short 8 (75 ∷ 69 ∷ 89 ∷ []),
      h.limits.1,
    )

-- ---- the packet

info_short : (name : List Component) → length (encoding name) ≤ 221 → length (written_info name) ≤ 276
info_short name h =
    omega (
      arith,
      h,
      length-append (element 0x1b (4 ∷ [])) (element 0x1c (element 7 (encoding name))),
      element_short 0x1b (4 ∷ []),
      element_short 0x1c (element 7 (encoding name)),
      element_short 7 (encoding name),
    )

interest_short : (name key_name : List Component) (parameters key : List ℕ)
    → length (encoding name) ≤ 221 → length (encoding key_name) ≤ 221 → length parameters ≤ 4210
    → length (written_interest name parameters key_name key) ≤ 8800
interest_short name key_name parameters key n k p =
    let digested = written_digested name parameters key_name key in
    let info = element 0x2c (written_info key_name) in
    omega (
      arith,
      n,
      k,
      p,
      length-with_digest name digested,
      length-digested name key_name parameters key,
      length-append (element 0x24 parameters) info,
      element_short 0x24 parameters,
      element_short 0x2c (written_info key_name),
      info_short key_name k,
      head_short 7 (length (encoding name) + 34),
      head_short 5 (name_octets name + length digested),
    )

-- a sync Interest within the limits is a packet
pub sync_interest_short : (group : List Component) (vector : List ℕ) (names : List (List Component))
    (key_name : List Component) (key : List ℕ)
    → IsNodeName group → length names ≤ 16 → All IsNodeName names → IsKeyName key_name
    → length (sync_interest group vector names key_name key) ≤ 8800
sync_interest_short group vector names key_name key g few members k =
    interest_short (sync_name group) key_name (written_vector names vector) key (sync_name_short group g)
    (key_name_short key_name k)
    (vector_short names vector few (All-weaker IsNodeName (IsWithin 200) (λ name h. h.1) names members))
