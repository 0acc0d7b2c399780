-- The octets of an Interest that is written, and how many they are.
use Rattle.std.proofs.Common.{◌≡◌, ℕ, ◌+◌, ◌-◌, ◌^◌, min, List, [], ◌∷◌, ◌++◌, length, length-append, sym, ap, ◌∙◌}
use Rattle.std.proofs.Common.{append_assoc, arith}
use Rattle.sha2.specs.Sha256.{sha256}
use Rattle.sha2.proofs.Facts256.{length-sha256}
use Rattle.ndn_tlv.specs.Spelling.{head, element}
use Rattle.ndn_name.specs.Names.{Component, encoding}
use Rattle.ndn_name.proofs.Encodings.{encoding-push}
use Rattle.ndn_sign.specs.Hmac.{hmac}
use Rattle.ndn_packet.proofs.Lengths.{length-element, length-digest_element, packet_len}
use Rattle.ndn_interest.specs.WrittenInterest.{written_signed_parameters, written_digested, with_digest_of, with_digest}
use Rattle.ndn_interest.specs.WrittenInterest.{written_interest}

-- how many octets the name with its digest has
abbrev pub name_octets : List Component → ℕ
name_octets name = length (head 0x07 (length (encoding name) + 34)) + (length (encoding name) + 34)

pub length-digested : (name key_name : List Component) (parameters key : List ℕ)
    → length (written_digested name parameters key_name key)
    ≡ length (written_signed_parameters parameters key_name) + 34
length-digested name key_name parameters key =
    let portion = written_signed_parameters parameters key_name in
    let mac = hmac key (encoding name ++ portion) in
    omega
    (arith, length-append portion (element 0x2e mac), length-digest_element 0x2e mac (omega arith) (length-sha256 _))

pub length-named : (name : List Component) (digest : List ℕ) → length digest ≡ 32
    → length (encoding (name ++ (2, digest) ∷ [])) ≡ length (encoding name) + 34
length-named name digest long =
    omega (
      arith,
      ap length (encoding-push name (2, digest)),
      length-append (encoding name) (element 2 digest),
      length-digest_element 2 digest (omega arith) long,
    )

pub length-with_digest : (name : List Component) (digested : List ℕ)
    → length (with_digest name digested)
    ≡ length (head 0x05 (name_octets name + length digested)) + (name_octets name + length digested)
length-with_digest name digested =
    let value = encoding (name ++ (2, sha256 digested) ∷ []) in
    let named =
    length-element 0x07 value
    ∙ ap (λ (n : ℕ). length (head 0x07 n) + n) (length-named name (sha256 digested) (length-sha256 digested)) in
    let body : length (element 0x07 value ++ digested) ≡ name_octets name + length digested =
    omega (arith, length-append (element 0x07 value) digested, named) in
    length-element 0x05 (element 0x07 value ++ digested) ∙ ap (λ (n : ℕ). length (head 0x05 n) + n) body

-- the number of octets that was counted is that of the packet
pub total : (name key_name : List Component) (parameters key : List ℕ) (digested body heads octets : ℕ)
    → digested ≡ min (length (written_signed_parameters parameters key_name) + 34) (2 ^ 64 - 1)
    → body ≡ min (digested + name_octets name) (2 ^ 64 - 1) → heads ≡ length (head 0x05 body)
    → octets ≡ min (body + heads) (2 ^ 64 - 1)
    → octets ≡ min (length (written_interest name parameters key_name key)) (2 ^ 64 - 1)
total name key_name parameters key digested body heads octets d b h o =
    let all = written_digested name parameters key_name key in
    let size = length-digested name key_name parameters key in
    packet_len 0x05 body octets (name_octets name + length all) (omega arith)
    (o ∙ ap (λ (n : ℕ). min (body + n) (2 ^ 64 - 1)) h)
    ∙ ap (λ (n : ℕ). min n (2 ^ 64 - 1)) (sym (length-with_digest name all))

-- ---- an Interest that is written in its parts

regroup : (a b c d e : List ℕ) → (((a ++ b) ++ c) ++ d) ++ e ≡ a ++ ((b ++ (c ++ d)) ++ e)
regroup a b c d e = simp append_assoc

pub writes : (name : List Component) (digested digest begun named joined filled whole : List ℕ) (len body : ℕ)
    → len ≡ length (encoding name) + 34 → body ≡ length (head 0x07 len) + len + length digested
    → digest ≡ sha256 digested
    → begun ≡ head 0x05 body → named ≡ begun ++ head 0x07 len → joined ≡ named ++ encoding name
    → filled ≡ joined ++ element 2 digest → whole ≡ filled ++ digested → whole ≡ with_digest name digested
writes name digested digest begun named joined filled whole len body is_len is_body is_digest h1 h2 h3 h4 h5 =
    let value = encoding (with_digest_of digested name) in
    let spelled : encoding name ++ element 2 digest ≡ value =
    ap (λ (d : List ℕ). encoding name ++ element 2 d) is_digest ∙ sym (encoding-push name (2, sha256 digested)) in
    let size : len ≡ length value = is_len ∙ sym (length-named name (sha256 digested) (length-sha256 digested)) in
    let bodies : body ≡ length (element 0x07 value ++ digested) =
    omega (
      arith,
      is_body,
      length-append (element 0x07 value) digested,
      length-element 0x07 value,
      size,
      ap (λ (n : ℕ). length (head 0x07 n)) size,
    ) in
    let joins : whole ≡ (((head 0x05 body ++ head 0x07 len) ++ encoding name) ++ element 2 digest) ++ digested =
    h5
    ∙ ap (λ (f : List ℕ). f ++ digested)
    (h4 ∙ ap (λ (j : List ℕ). j ++ element 2 digest)
    (h3 ∙ ap (λ (n : List ℕ). n ++ encoding name) (h2 ∙ ap (λ (b : List ℕ). b ++ head 0x07 len) h1))) in
    joins
    ∙ regroup (head 0x05 body) (head 0x07 len) (encoding name) (element 2 digest) digested
    ∙ ap (λ (v : List ℕ). head 0x05 body ++ ((head 0x07 len ++ v) ++ digested)) spelled
    ∙ ap (λ (n : ℕ). head 0x05 body ++ ((head 0x07 n ++ value) ++ digested)) size
    ∙ ap (λ (n : ℕ). head 0x05 n ++ (element 0x07 value ++ digested)) bodies
