-- How long elements are.
use Rattle.std.proofs.Common.{◌≡◌, ℕ, ◌+◌, ◌-◌, ◌^◌, ◌<◌, min, List, [], ◌∷◌, length, length-append, refl, ap, inl, inr}
use Rattle.std.proofs.Common.{arith}
use Rattle.std.proofs.lemmas.Bool.{cases_lt, lt-ltb}
use Rattle.ndn_tlv.specs.Spelling.{number, head, element}
use Rattle.ndn_name.specs.Names.{Component, encoding}
use Rattle.ndn_packet.specs.Written.{written_info}

pub length-element : (typ : ℕ) (value : List ℕ)
    → length (element typ value) ≡ length (head typ (length value)) + length value
length-element typ value = length-append (head typ (length value)) value

-- the signature type that is written
length-hmac_type : length (element 0x1b (4 ∷ [])) ≡ 3
unfolding number
length-hmac_type = refl

pub length-written_info : (key_name : List Component) (name locator : ℕ)
    → name ≡ length (head 0x07 (length (encoding key_name))) + length (encoding key_name)
    → locator ≡ length (head 0x1c name) + name
    → 3 + locator ≡ length (written_info key_name)
length-written_info key_name name locator e f =
    let inner : length (element 0x07 (encoding key_name)) ≡ name =
    omega (arith, length-element 0x07 (encoding key_name)) in
    let heads = ap (λ (n : ℕ). length (head 0x1c n)) inner in
    omega (
      arith,
      length-append (element 0x1b (4 ∷ [])) (element 0x1c (element 0x07 (encoding key_name))),
      length-hmac_type,
      length-element 0x1c (element 0x07 (encoding key_name)),
      heads,
    )

short_head : (typ : ℕ) → typ < 253 → length (head typ 32) ≡ 2
unfolding number
short_head typ low = rw (lt-ltb typ 253 low) refl

-- the element of a digest or a mac
pub length-digest_element : (typ : ℕ) (digest : List ℕ) → typ < 253 → length digest ≡ 32
    → length (element typ digest) ≡ 34
length-digest_element typ digest low h =
    let heads : length (head typ (length digest)) ≡ length (head typ 32) = ap (λ (n : ℕ). length (head typ n)) h in
    omega (arith, length-element typ digest, heads, short_head typ low)

-- how many octets a packet has, up to the greatest number
pub packet_len : (typ body octets len : ℕ) → body ≡ min len (2 ^ 64 - 1)
    → octets ≡ min (body + length (head typ body)) (2 ^ 64 - 1)
    → octets ≡ min (length (head typ len) + len) (2 ^ 64 - 1)
packet_len typ body octets len is all =
    elim (cases_lt len (2 ^ 64)) [
      | inl a ↦ let same : body ≡ len = omega arith in omega (arith, ap (λ (n : ℕ). length (head typ n)) same)
      | inr a ↦ omega arith
    ]
