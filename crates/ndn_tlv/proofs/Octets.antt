-- What is made of octets and of numbers is octets.
use Rattle.std.proofs.Common.{ℕ, zero, suc, ◌^◌, ◌<◌, List, [], ◌∷◌, ◌++◌, length, inl, inr, arith}
use Rattle.std.specs.Int.{w8, w16, w32, w64, to_be_bytes}
use Rattle.std.proofs.lemmas.Bool.{cases_lt, lt-ltb, le-ltb}
use Rattle.ndn_tlv.specs.Elements.{IsOctets}
use Rattle.ndn_tlv.specs.NumberField.{number_field}
use Rattle.ndn_tlv.specs.Spelling.{number, head, element}
use Rattle.ndn_tlv.proofs.Numbers.{number-narrow, number-16, number-32, number-64}

pub IsOctets-none : IsOctets []
IsOctets-none i = omega arith

pub IsOctets-cons : (n : ℕ) (octets : List ℕ) → n < 256 → IsOctets octets → IsOctets (n ∷ octets)
IsOctets-cons n octets h rest zero = h
IsOctets-cons n octets h rest (suc i) = rest i

pub IsOctets-append : (a b : List ℕ) → IsOctets a → IsOctets b → IsOctets (a ++ b)
IsOctets-append [] b h k = k
IsOctets-append (n ∷ a) b h k =
    IsOctets-cons n (a ++ b) (h zero) (IsOctets-append a b (λ i. h (suc i)) k)

-- ---- big-endian numbers

IsOctets-8 : (n : ℕ) → IsOctets (to_be_bytes w8 n)
IsOctets-8 n zero = omega arith
IsOctets-8 n (suc i) = omega arith

IsOctets-16 : (n : ℕ) → IsOctets (to_be_bytes w16 n)
IsOctets-16 n zero = omega arith
IsOctets-16 n (suc zero) = omega arith
IsOctets-16 n (suc (suc i)) = omega arith

pub IsOctets-32 : (n : ℕ) → IsOctets (to_be_bytes w32 n)
IsOctets-32 n zero = omega arith
IsOctets-32 n (suc zero) = omega arith
IsOctets-32 n (suc (suc zero)) = omega arith
IsOctets-32 n (suc (suc (suc zero))) = omega arith
IsOctets-32 n (suc (suc (suc (suc i)))) = omega arith

IsOctets-64 : (n : ℕ) → IsOctets (to_be_bytes w64 n)
IsOctets-64 n zero = omega arith
IsOctets-64 n (suc zero) = omega arith
IsOctets-64 n (suc (suc zero)) = omega arith
IsOctets-64 n (suc (suc (suc zero))) = omega arith
IsOctets-64 n (suc (suc (suc (suc zero)))) = omega arith
IsOctets-64 n (suc (suc (suc (suc (suc zero))))) = omega arith
IsOctets-64 n (suc (suc (suc (suc (suc (suc zero)))))) = omega arith
IsOctets-64 n (suc (suc (suc (suc (suc (suc (suc zero))))))) = omega arith
IsOctets-64 n (suc (suc (suc (suc (suc (suc (suc (suc i)))))))) = omega arith

-- ---- numbers and elements as the packet format spells them

pub IsOctets-number : (n : ℕ) → IsOctets (number n)
IsOctets-number n = elim (cases_lt n 253) [
  | inl a ↦ rw (number-narrow n a) (IsOctets-cons n [] (omega arith) IsOctets-none)
  | inr a ↦ elim (cases_lt n (2 ^ 16)) [
    | inl b ↦ rw (number-16 n a b) (IsOctets-cons 253 (to_be_bytes w16 n) (omega arith) (IsOctets-16 n))
    | inr b ↦ elim (cases_lt n (2 ^ 32)) [
      | inl d ↦ rw (number-32 n b d) (IsOctets-cons 254 (to_be_bytes w32 n) (omega arith) (IsOctets-32 n))
      | inr d ↦ rw (number-64 n d) (IsOctets-cons 255 (to_be_bytes w64 n) (omega arith) (IsOctets-64 n))
    ]
  ]
]

pub IsOctets-number_field : (n : ℕ) → IsOctets (number_field n)
IsOctets-number_field n = elim (cases_lt n (2 ^ 8)) [
  | inl a ↦ rw (lt-ltb n (2 ^ 8) a) (IsOctets-8 n)
  | inr a ↦ elim (cases_lt n (2 ^ 16)) [
    | inl b ↦ rw (le-ltb n (2 ^ 8) a, lt-ltb n (2 ^ 16) b) (IsOctets-16 n)
    | inr b ↦ elim (cases_lt n (2 ^ 32)) [
      | inl d ↦ rw (le-ltb n (2 ^ 8) a, le-ltb n (2 ^ 16) b, lt-ltb n (2 ^ 32) d) (IsOctets-32 n)
      | inr d ↦ rw (le-ltb n (2 ^ 8) a, le-ltb n (2 ^ 16) b, le-ltb n (2 ^ 32) d) (IsOctets-64 n)
    ]
  ]
]

pub IsOctets-element : (typ : ℕ) (value : List ℕ) → IsOctets value → IsOctets (element typ value)
IsOctets-element typ value h =
    let prefix = IsOctets-append (number typ) (number (length value)) (IsOctets-number typ)
    (IsOctets-number (length value)) in
    IsOctets-append (head typ (length value)) value prefix h
