-- How the octets of a name in parts begin.
use Rattle.std.proofs.Common.{◌≡◌, ℕ, ◌<◌, ◌+◌, ◌^◌, Bool, true, false, cond, ◌==◌, List, [], ◌∷◌, ◌++◌, length}
use Rattle.std.proofs.Common.{length-append, append_assoc, append-nil, drop, drop_at, refl, sym, ap, ◌∙◌, arith}
use Rattle.std.proofs.Common.{Option, Some, None, Bor}
use Rattle.std.specs.Prelude.{◌≢◌, nat_lt, MatchOption}
use Rattle.std.specs.Int.{w16, w32, w64, to_be_bytes}
use Rattle.std.specs.Str.{bytes_eq}
use Rattle.std.proofs.lemmas.Bool.{eqb-true, lt-ltb}
use Rattle.std.proofs.lemmas.Slice.Eq.{bytes_eq-Decides}
use Rattle.ndn_tlv.specs.Spelling.{number, element}

-- a type or a length of one octet
one_octet : (n : ℕ) → n < 253 → number n ≡ n ∷ []
unfolding number
one_octet n low =
    ap (λ (b : Bool).
    cond b (n ∷ [])
    (cond (nat_lt n (2 ^ 16)) (253 ∷ to_be_bytes w16 n)
    (cond (nat_lt n (2 ^ 32)) (254 ∷ to_be_bytes w32 n) (255 ∷ to_be_bytes w64 n))))
    (lt-ltb n 253 low)

pub short_element : (typ : ℕ) (value : List ℕ) → typ < 253 → length value < 253
    → element typ value ≡ (typ ∷ length value ∷ []) ++ value
short_element typ value low short =
    ap (λ (octets : List ℕ). (octets ++ number (length value)) ++ value) (one_octet typ low)
    ∙ ap (λ (octets : List ℕ). ((typ ∷ []) ++ octets) ++ value) (one_octet (length value) short)

-- octets begin with two parts, one after the other
pub begins_so : (s p q rest later : List ℕ) → s ≡ p ++ rest → rest ≡ q ++ later → s ≡ (p ++ q) ++ later
begins_so s p q rest later first second =
    first ∙ ap (λ (octets : List ℕ). p ++ octets) second ∙ sym (append_assoc p q later)

-- octets begin with three parts, one after the other
pub begins_with_three : (s p q n rest later last : List ℕ) → s ≡ p ++ rest → rest ≡ q ++ later → later ≡ n ++ last
    → s ≡ ((p ++ q) ++ n) ++ last
begins_with_three s p q n rest later last first second third =
    begins_so s (p ++ q) n later last (begins_so s p q rest later first second) third

pub not_the_first : (s p q : List ℕ) → ((rest : List ℕ) → s ≢ p ++ rest) → (later : List ℕ) → s ≢ (p ++ q) ++ later
not_the_first s p q none later same = none (q ++ later) (same ∙ append_assoc p q later)

pub not_the_second : (s p q rest : List ℕ) → s ≡ p ++ rest → ((later : List ℕ) → rest ≢ q ++ later)
    → (later : List ℕ) → s ≢ (p ++ q) ++ later
not_the_second s p q rest first none later same =
    none later
    (sym (drop_at p rest (length p) refl)
    ∙ ap (drop (length p)) (sym first ∙ same ∙ append_assoc p q later)
    ∙ drop_at p (q ++ later) (length p) refl)

pub after_both : (s p q rest : List ℕ) (r : Option (Bor (List ℕ))) → s ≡ p ++ rest
    → MatchOption r ((later : List ℕ) → rest ≢ q ++ later) (λ x. rest ≡ q ++ x.now)
    → MatchOption r ((later : List ℕ) → s ≢ (p ++ q) ++ later) (λ x. s ≡ (p ++ q) ++ x.now)
after_both s p q rest None first second = not_the_second s p q rest first second
after_both s p q rest (Some x) first second = begins_so s p q rest x.now first second

-- octets that don't begin so aren't these
pub are_others : (s whole more : List ℕ) (prefix : List ℕ) → whole ≡ prefix ++ more
    → ((rest : List ℕ) → s ≢ prefix ++ rest) → false ≡ bytes_eq s whole
are_others s whole more prefix is none = go (bytes_eq s whole) refl where
  go : (b : Bool) → bytes_eq s whole ≡ b → false ≡ b
  go false e = refl
  go true e = absurd (none more ((bytes_eq-Decides s whole).0 e ∙ is))

-- octets that begin so are these where nothing follows
pub are_those : (s whole rest : List ℕ) → s ≡ whole ++ rest → (length rest == 0) ≡ bytes_eq s whole
are_those s whole [] is = sym ((bytes_eq-Decides s whole).1 (is ∙ append-nil whole))
are_those s whole (x ∷ rest) is = go (length (x ∷ rest) == 0) (bytes_eq s whole) refl refl where
  go : (a b : Bool) → (length (x ∷ rest) == 0) ≡ a → bytes_eq s whole ≡ b → a ≡ b
  go true b d e = let none = eqb-true (length (x ∷ rest)) 0 d in absurd (omega (arith, none))
  go false false d e = refl
  go false true d e =
      let same = ap (λ (octets : List ℕ). length octets) (sym ((bytes_eq-Decides s whole).0 e) ∙ is) in
      absurd (omega (arith, same, length-append whole (x ∷ rest)))
