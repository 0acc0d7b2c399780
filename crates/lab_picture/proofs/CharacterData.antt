-- Escaped text has no markup.
use Rattle.std.proofs.Common.{◌≡◌, ℕ, Bool, true, false, ◌==◌, List, [], ◌∷◌, ◌++◌, refl}
use Rattle.std.specs.Prelude.{◌&&◌, codes, nat_le, if◌then◌else◌}
use Rattle.lab_picture.specs.Laws.{is_character_data}
use Rattle.lab_picture.specs.Svg.{escaped, escaped_octet, shown_octet}

other_octet : (octet : ℕ) (others : List ℕ) → (octet == 38) ≡ false → (octet == 60) ≡ false → (octet == 62) ≡ false
    → (octet == 34) ≡ false → is_character_data others ≡ true → is_character_data (octet ∷ others) ≡ true
unfolding is_character_data
other_octet octet others amp lt gt quot h = simp (amp, lt, gt, quot, h)

shown : (p : Bool) (octet : ℕ) (others : List ℕ) → (octet == 38) ≡ false → (octet == 60) ≡ false
    → (octet == 62) ≡ false → (octet == 34) ≡ false → is_character_data others ≡ true
    → is_character_data ((if p then octet else 32) ∷ others) ≡ true
shown true octet others amp lt gt quot h = other_octet octet others amp lt gt quot h
shown false octet others amp lt gt quot h = other_octet 32 others refl refl refl refl h

by_cases : (amp lt gt quot : Bool) (octet : ℕ) (others : List ℕ) → (octet == 38) ≡ amp → (octet == 60) ≡ lt
    → (octet == 62) ≡ gt → (octet == 34) ≡ quot → is_character_data others ≡ true
    → is_character_data ((if amp then codes "&amp;" else if lt then codes "&lt;" else if gt then codes "&gt;"
    else if quot then codes "&quot;" else shown_octet octet ∷ []) ++ others) ≡ true
unfolding is_character_data
by_cases true lt gt quot octet others a l g q h = h
by_cases false true gt quot octet others a l g q h = h
by_cases false false true quot octet others a l g q h = h
by_cases false false false true octet others a l g q h = h
by_cases false false false false octet others a l g q h =
    shown (nat_le 32 octet && nat_le octet 126) octet others a l g q h

one_more : (octet : ℕ) (others : List ℕ) → is_character_data others ≡ true
    → is_character_data (escaped_octet octet ++ others) ≡ true
one_more octet others h =
    by_cases (octet == 38) (octet == 60) (octet == 62) (octet == 34) octet others refl refl refl refl h

pub escaped_is_data : (text : List ℕ) → is_character_data (escaped text) ≡ true
unfolding is_character_data
escaped_is_data [] = refl
escaped_is_data (octet ∷ others) = one_more octet (escaped others) (escaped_is_data others)
