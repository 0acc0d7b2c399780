-- Hexadecimal text is decoded just where it is the digits of the octets.
use Rattle.std.proofs.Common.{◌≡◌, ◌<◌, ◌+◌, ◌*◌, ◌%◌, ℕ, eqb, List, [], ◌∷◌, length, Option, Some, None, Result, Ok}
use Rattle.std.proofs.Common.{Err, refl, sym, arith}
use Rattle.std.specs.Char.{digit_value}
use Rattle.std.proofs.lemmas.Bool.Decides.{nat_tests}
use Rattle.hex.specs.Hex.{decode_of, decode_pairs, pair_value, hex_digit_value, ◌>>=◌}
use Rattle.hex.specs.declared.error.FromHexError.{FromHexError}
use Rattle.hex.specs.declared.error.FromHexError.TheVariants.{OddLength}
use Rattle.ndn_name.specs.Uri.{IsDigits}
use Rattle.script_lang.proofs.Conditions.{never, same_ok, chosen}

-- a digit is one for both
digit_is : (c : ℕ) → digit_value c < 16 → hex_digit_value c ≡ Some (digit_value c)
digit_is c h = grind (arith, nat_tests)

is_digit : (c v : ℕ) → hex_digit_value c ≡ Some v → (digit_value c ≡ v) × (v < 16)
is_digit c v h = grind (arith, nat_tests)

-- two digits
by_pair : {P : Type 0} (high low i : ℕ) (rest : Result (List ℕ) FromHexError) (octets : List ℕ)
    → (pair_value high low i >>= λ byte. rest >>= λ bytes. Ok (byte ∷ bytes)) ≡ Ok octets
    → ((h l : ℕ) (bytes : List ℕ) → hex_digit_value high ≡ Some h → hex_digit_value low ≡ Some l →
    rest ≡ Ok bytes → octets ≡ (h * 16 + l) ∷ bytes → P) → P
by_pair {P} high low i rest octets e f = first (hex_digit_value high) refl (hex_digit_value low) refl rest refl e where
  first : (a : Option ℕ) → hex_digit_value high ≡ a → (b : Option ℕ) → hex_digit_value low ≡ b
      → (r : Result (List ℕ) FromHexError) → rest ≡ r
      → (pair_value high low i >>= λ byte. rest >>= λ bytes. Ok (byte ∷ bytes)) ≡ Ok octets → P
  first None p b q r s e = never _ octets (rw p at e)
  first (Some h) p None q r s e = never _ octets (rw (p, q) at e)
  first (Some h) p (Some l) q (Err x) s e = never _ octets (rw (p, q, s) at e)
  first (Some h) p (Some l) q (Ok bytes) s e = f h l bytes p q s (sym (same_ok _ octets (rw (p, q, s) at e)))

are_pairs : (i : ℕ) (text octets : List ℕ) → decode_pairs i text ≡ Ok octets → IsDigits octets text
unfolding decode_pairs
are_pairs i [] octets e = rw (sym (same_ok [] octets e)) refl
are_pairs i (c ∷ []) octets e = never _ octets e
are_pairs i (high ∷ low ∷ rest) octets e = by_pair high low i (decode_pairs (i + 2) rest) octets e
    (λ h l bytes p q r is.
    let a = is_digit high h p in
    let b = is_digit low l q in
    let m : digit_value high < 16 = omega arith in
    let n : digit_value low < 16 = omega arith in
    rw is (high, low, rest, refl, (m, n, rw (a.0, b.0) refl), are_pairs (i + 2) rest bytes r))

pairs_are : (i : ℕ) (text octets : List ℕ) → IsDigits octets text → decode_pairs i text ≡ Ok octets
unfolding decode_pairs
pairs_are i text [] h = rw h refl
pairs_are i text (octet ∷ octets) h = rw (
  h.3,
  digit_is h.0 h.4.0,
  digit_is h.1 h.4.1,
  pairs_are
      (i + 2) h.2 octets h.5,
  h.4.2,
) refl

even : (text octets : List ℕ) → IsDigits octets text → length text % 2 ≡ 0
even text [] h = rw h refl
even text (octet ∷ octets) h = (let e = even h.2 octets h.5 in rw h.3 (omega (arith, e)))

pub digits_decoded : (text octets : List ℕ) → IsDigits octets text → decode_of text ≡ Ok octets
digits_decoded text octets h = rw (even text octets h) (pairs_are 0 text octets h)

pub decoded_digits : (text octets : List ℕ) → decode_of text ≡ Ok octets → IsDigits octets text
decoded_digits text octets e = chosen (eqb (length text % 2) 1) (Err OddLength)
    (decode_pairs 0 text) octets e (λ _ x. never OddLength octets x) (λ _ x. are_pairs 0 text octets x)
