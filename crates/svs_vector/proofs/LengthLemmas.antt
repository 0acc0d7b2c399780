-- How many octets elements, numbers and entries have at most.
use Rattle.std.proofs.Common.{ℕ, ◌+◌, ◌*◌, ◌^◌, ◌≤◌, List, [], ◌∷◌, length, length-append, inl, inr, arith}
use Rattle.std.proofs.Math.Nat.{mul-suc, mul-le-mul_left}
use Rattle.std.specs.List.{All, flat_map}
use Rattle.std.specs.Map.{keys_of}
use Rattle.std.proofs.lemmas.Bool.{cases_lt}
use Rattle.std.proofs.lemmas.List.Elements.{All-head, All-tail}
use Rattle.ndn_tlv.specs.Spelling.{number, head, element}
use Rattle.ndn_tlv.specs.NumberField.{number_field}
use Rattle.ndn_tlv.proofs.Numbers.{number-narrow, number-16, number-32, number-64}
use Rattle.ndn_name.specs.Names.{Component, encoding}
use Rattle.ndn_name.proofs.SizeLemmas.{width}
use Rattle.ndn_packet.proofs.Lengths.{length-element}
use Rattle.svs_vector.specs.StateVector.{Entry}
use Rattle.svs_vector.specs.WrittenVector.{entry_value, in_canonical_order, known_entries, written_entry}
use Rattle.svs_vector.proofs.OrderLemmas.{names_in_order, names_known, length-in_order, length-known}

pub number_short : (n : ℕ) → length (number n) ≤ 9
number_short n = elim (cases_lt n 253) [
  | inl a ↦ rw (number-narrow n a) (omega arith)
  | inr a ↦ elim (cases_lt n (2 ^ 16)) [
    | inl b ↦ rw (number-16 n a b) (omega arith)
    | inr b ↦ elim (cases_lt n (2 ^ 32)) [
      | inl d ↦ rw (number-32 n b d) (omega arith)
      | inr d ↦ rw (number-64 n d) (omega arith)
    ]
  ]
]

-- a head has 18 octets at most
pub head_short : (typ len : ℕ) → length (head typ len) ≤ 18
head_short typ len = omega (arith, length-append (number typ) (number len), number_short typ, number_short len)

pub element_short : (typ : ℕ) (value : List ℕ) → length (element typ value) ≤ length value + 18
element_short typ value = omega (arith, length-element typ value, head_short typ (length value))

-- ---- entries whose names have at most `most` octets

abbrev pub IsWithin : ℕ → List Component → Type 0
IsWithin most name = length (encoding name) ≤ most

pub value_short : (most : ℕ) (e : Entry) → IsWithin most e.0 → length (entry_value e) ≤ most + 44
value_short most e h =
    let name = element 7 (encoding e.0) in
    let number = element 204 (number_field e.1) in
    omega (
      arith,
      h,
      length-append name number,
      element_short 7 (encoding e.0),
      element_short 204 (number_field e.1),
      width e.1,
    )

pub entries_short : (most : ℕ) (es : List Entry) → All (IsWithin most) (keys_of es)
    → length (flat_map written_entry es) ≤ (most + 62) * length es
entries_short most [] h = omega arith
entries_short most (e ∷ es) h =
    let here = value_short most e (All-head (IsWithin most) e.0 (keys_of es) h) in
    let rest = entries_short most es (All-tail (IsWithin most) e.0 (keys_of es) h) in
    let whole = element_short 202 (entry_value e) in
    omega (
      arith,
      length-append (written_entry e) (flat_map written_entry es),
      here,
      rest,
      whole,
      mul-suc (most + 62) (length es),
    )

-- what is in a written vector
pub body_short : (most : ℕ) (names : List (List Component)) (vector : List ℕ) → length names ≤ 16
    → All (IsWithin most) names
    → length (flat_map written_entry (in_canonical_order (known_entries names vector))) ≤ (most + 62) * 16
body_short most names vector few short =
    let known = known_entries names vector in
    let es = in_canonical_order known in
    let count : length es ≤ 16 = omega (arith, few, length-in_order known, length-known names vector) in
    let all =
    entries_short most es (names_in_order (IsWithin most) known (names_known (IsWithin most) names vector short)) in
    omega (arith, all, mul-le-mul_left (most + 62) count)
