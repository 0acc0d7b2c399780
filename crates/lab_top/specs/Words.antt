-- The numbers among the words of a command line.
use Rattle.std.specs.Prelude.{ℕ, Bool, false, not, ◌&&◌, ◌||◌, ◌==◌, List, [], ◌∷◌, length, Option, Some, None, nat_le}
use Rattle.std.specs.Prelude.{if◌then◌else◌}
use Rattle.std.specs.Char.{is_ascii_digit}
use Rattle.std.specs.List.{list_all}
use Rattle.std.specs.Str.Parse.{digits_value}

-- Decimal digits, without a zero before others.
abbrev pub is_decimal : List ℕ → Bool
is_decimal [] = false
is_decimal (first ∷ others) =
    (not (first == 48) || length others == 0) && list_all is_ascii_digit (first ∷ others)

-- The number that a word is: at most the greatest that 64 bits hold.
abbrev pub number_of : List ℕ → Option ℕ
number_of word =
    if is_decimal word && nat_le (digits_value 10 word) 18446744073709551615
    then Some (digits_value 10 word) else None
