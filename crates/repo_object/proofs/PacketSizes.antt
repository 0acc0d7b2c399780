-- No packet of a publication is too long.
use Rattle.std.proofs.Common.{◌≡◌, ℕ, ◌+◌, ◌*◌, ◌^◌, ◌<◌, ◌≤◌, List, [], ◌∷◌, ◌++◌, length, length-append, Option, Some}
use Rattle.std.proofs.Common.{None, Bool, true, false, cond, refl, arith}
use Rattle.std.specs.List.{All, flat_map}
use Rattle.std.proofs.lemmas.List.Elements.{All-head, All-tail}
use Rattle.ndn_tlv.specs.Spelling.{element}
use Rattle.ndn_tlv.specs.NumberField.{number_field}
use Rattle.ndn_name.specs.Names.{Component, encoding}
use Rattle.ndn_sign.specs.Hmac.{hmac}
use Rattle.ndn_packet.specs.Written.{written_info}
use Rattle.ndn_packet.proofs.Lengths.{length-digest_element}
use Rattle.ndn_data.specs.WrittenData.{final_block, written_meta, written_signed, written_data}
use Rattle.ndn_data.proofs.WriteLemmas.{length-mac_element}
use Rattle.repo_object.specs.Objects.{key_name, record_name, segment_name}
use Rattle.repo_object.specs.Publication.{Listed, is_indexed, count_listed, digest_type, record_content, index_content}
use Rattle.repo_object.specs.Publication.{segment_packet}
use Rattle.repo_object.specs.Publication.RecordSays.{Lists, WithdrawsNumber}
use Rattle.repo_object.specs.Formats.{IsDigest}
use Rattle.repo_object.proofs.Sizes.{element-at_most, element-narrow, number_field-two, pushed-size}
use Rattle.repo_object.proofs.Sizes.{appended-size}
use Rattle.repo_object.proofs.IndexLemmas.{listed_few}

pub info-size : (key_name : List Component) → length (encoding key_name) ≤ 205 → length (written_info key_name) ≤ 216
info-size key_name short =
    let inner = element-at_most 0x07 (encoding key_name) (omega arith) (omega arith) in
    omega (
      arith,
      length-append (element 0x1b (4 ∷ [])) (element 0x1c (element 0x07 (encoding key_name))),
      element-narrow 0x1b (4 ∷ []) (omega arith) (omega arith),
      inner,
      element-at_most 0x1c (element 0x07 (encoding key_name)) (omega arith) (omega (arith, inner)),
    )

meta-size : (last : ℕ) → last < 2 ^ 16 → length (written_meta (Some last)) ≤ 8
meta-size last low =
    let field = number_field-two last low in
    let a = element-narrow 0x32 (number_field last) (omega arith) (omega (arith, field)) in
    let b = element-narrow 0x1a (element 0x32 (number_field last)) (omega arith) (omega (arith, a, field)) in
    omega (arith, a, b, field, element-narrow 0x14 (final_block last) (omega arith) (omega (arith, a, b, field)))

-- a packet is short where its meta info, its name and its content are
packet-size : (name : List Component) (last : Option ℕ) (content : List ℕ) (key_name : List Component) (key : List ℕ)
    → length (encoding key_name) ≤ 205 → length (encoding name) ≤ 408 → length (written_meta last) ≤ 8
    → length content ≤ 8000
    → length (written_data name last content key_name key) ≤ 8800
packet-size name last content key_name key short_key short_name short_meta short =
    let first = element 0x07 (encoding name) in
    let meta = written_meta last in
    let second = element 0x15 content in
    let third = element 0x16 (written_info key_name) in
    let portion = written_signed name last content key_name in
    let mac = element 0x17 (hmac key portion) in
    let info = info-size key_name short_key in
    let a = element-at_most 0x07 (encoding name) (omega arith) (omega arith) in
    let b = element-at_most 0x15 content (omega arith) (omega arith) in
    let d = element-at_most 0x16 (written_info key_name) (omega arith) (omega (arith, info)) in
    let long : length portion ≤ 8660 =
    omega (
      arith,
      info,
      a,
      b,
      d,
      length-append ((first ++ meta) ++ second) third,
      length-append (first ++ meta) second,
      length-append first meta,
    ) in
    let body = length-append portion mac in
    let mac_size : length mac ≡ 34 = length-mac_element 0x17 key portion in
    omega (
      arith,
      long,
      body,
      mac_size,
      element-at_most 0x06 (portion ++ mac) (omega arith) (omega (arith, long, body, mac_size)),
    )

pub key_name-size : (node : List Component) → length (encoding node) ≤ 200 → length (encoding (key_name node)) ≤ 205
key_name-size node short = omega (arith, pushed-size node 8 (75 ∷ 69 ∷ 89 ∷ []) (omega arith) (omega arith))

pub segment_name-size : (name : List Component) (i : ℕ) → i < 2 ^ 16
    → length (encoding (segment_name name i)) ≤ length (encoding name) + 4
segment_name-size name i low =
    let two = number_field-two i low in
    omega (arith, two, pushed-size name 0x32 (number_field i) (omega arith) (omega (arith, two)))

pub record_name-size : (node group : List Component) (seq : ℕ) → length (encoding node) ≤ 200
    → length (encoding group) ≤ 200 → seq < 2 ^ 16
    → length (encoding (record_name node group seq)) ≤ 404
record_name-size node group seq short_node short_group low =
    let two = number_field-two seq low in
    omega (
      arith,
      two,
      appended-size node group,
      pushed-size (node ++ group) 0x3a (number_field seq) (omega arith) (omega arith),
    )

-- packets that are numbered under a name
pub segment-size : (key_name : List Component) (key : List ℕ) (name : List Component) (last i : ℕ) (content : List ℕ)
    → length (encoding key_name) ≤ 205 → length (encoding name) ≤ 404 → last < 2 ^ 16 → i < 2 ^ 16
    → length content ≤ 8000
    → length (segment_packet key_name key name last i content) ≤ 8800
segment-size key_name key name last i content short_key short low_last low short_content =
    packet-size (segment_name name i) (Some last) content key_name key short_key
    (omega (arith, segment_name-size name i low)) (omega (arith, meta-size last low_last)) short_content

-- digests take 34 octets each
pub digests-size : (typ : ℕ) (ds : List (List ℕ)) → typ < 253 → All IsDigest ds
    → length (flat_map (element typ) ds) ≡ 34 * length ds
digests-size typ [] low long = refl
digests-size typ (d ∷ ds) low long =
    omega (
      arith,
      digests-size typ ds low (All-tail IsDigest d ds long),
      length-append (element typ d) (flat_map (element typ) ds),
      length-digest_element typ d low (All-head IsDigest d ds long),
    )

digest_type-low : (segments : ℕ) → digest_type segments < 253
digest_type-low segments = by_kind (is_indexed segments) where
  by_kind : (b : Bool) → cond b 135 131 < 253
  by_kind true = omega arith
  by_kind false = omega arith

listing-size : (l : Listed) → length (encoding l.name) ≤ 400 → l.segments ≤ 20000
    → length l.digests ≡ count_listed l.segments → All IsDigest l.digests
    → length (record_content (Lists l)) ≤ 8000
listing-size l short few many long =
    let typ = digest_type l.segments in
    let first = element 0x07 (encoding l.name) in
    let second = element 0x81 (number_field l.segments) in
    let others = flat_map (element typ) l.digests in
    let two = number_field-two l.segments (omega (arith, few)) in
    omega (
      arith,
      two,
      digests-size typ l.digests (digest_type-low l.segments) long,
      listed_few l.segments few,
      many,
      element-at_most 0x07 (encoding l.name) (omega arith) (omega (arith, short)),
      element-narrow 0x81 (number_field l.segments) (omega arith) (omega (arith, two)),
      length-append (first ++ second) others,
      length-append first second,
    )

pub listing_packet-size : (name : List Component) (l : Listed) (key_name : List Component) (key : List ℕ)
    → length (encoding name) ≤ 404 → length (encoding key_name) ≤ 205 → length (encoding l.name) ≤ 400
    → l.segments ≤ 20000 → length l.digests ≡ count_listed l.segments → All IsDigest l.digests
    → length (written_data name None (record_content (Lists l)) key_name key) ≤ 8800
listing_packet-size name l key_name key short_name short_key short few many long =
    packet-size name None (record_content (Lists l)) key_name key short_key (omega (arith, short_name)) (omega arith)
    (listing-size l short few many long)

pub withdrawal_packet-size : (name : List Component) (seq : ℕ) (key_name : List Component) (key : List ℕ)
    → length (encoding name) ≤ 404 → length (encoding key_name) ≤ 205 → seq < 2 ^ 16
    → length (written_data name None (record_content (WithdrawsNumber seq)) key_name key) ≤ 8800
withdrawal_packet-size name seq key_name key short_name short_key low =
    let two = number_field-two seq low in
    packet-size name None (record_content (WithdrawsNumber seq)) key_name key short_key (omega (arith, short_name))
    (omega arith)
    (omega (arith, two, element-narrow 0x85 (number_field seq) (omega arith) (omega (arith, two))))

pub index-size : (digests : List (List ℕ)) → All IsDigest digests → length digests ≤ 200
    → length (index_content digests) ≤ 8000
index-size digests long few = omega (arith, few, digests-size 0x83 digests (omega arith) long)
