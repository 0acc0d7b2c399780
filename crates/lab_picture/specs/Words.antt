-- The words of a line and of its report.
use Rattle.std.specs.Prelude.{ℕ, zero, suc, ◌+◌, ◌*◌, ◌-◌, ◌==◌, ◌||◌, ◌&&◌, Bool, not, List, [], ◌∷◌}
use Rattle.std.specs.Prelude.{position, take, drop, Option, Some, None, nat_lt, if◌then◌else◌}
use Rattle.std.specs.Char.{is_ascii_digit}

-- Words stand between spaces and the ends of lines.
abbrev pub is_gap : ℕ → Bool
is_gap octet = (octet == 32) || (octet == 10) || (octet == 13)

-- The octets before a place; all where no place is given.
abbrev pub up_to : Option ℕ → List ℕ → List ℕ
up_to (Some place) octets = take place octets
up_to None octets = octets

-- The octets from a place on; none where no place is given.
abbrev pub onward : Option ℕ → List ℕ → List ℕ
onward (Some place) octets = drop place octets
onward None octets = []

-- What stands from the first word on.
abbrev pub from_word : List ℕ → List ℕ
from_word octets = onward (position (λ octet. not (is_gap octet)) octets) octets

-- The first word, and what stands after it.
abbrev pub first_word : List ℕ → List ℕ
first_word octets = up_to (position is_gap (from_word octets)) (from_word octets)

abbrev pub after_word : List ℕ → List ℕ
after_word octets = onward (position is_gap (from_word octets)) (from_word octets)

-- The word with the number `n`, counted from 0; nothing where there are fewer words.
unfoldable pub word_at : ℕ → List ℕ → List ℕ
word_at zero octets = first_word octets
word_at (suc n) octets = word_at n (after_word octets)

-- ---- numbers

-- The number with one digit more, if it is below 2 ^ 32.
abbrev pub next_number : ℕ → ℕ → Option ℕ
next_number n digit =
    if is_ascii_digit digit && nat_lt (n * 10 + (digit - 48)) 4294967296 then Some (n * 10 + (digit - 48)) else None

abbrev pub with_digit : Option ℕ → ℕ → Option ℕ
with_digit None digit = None
with_digit (Some n) digit = next_number n digit

-- The number that is read where these digits follow `n`.
unfoldable pub number_after : Option ℕ → List ℕ → Option ℕ
number_after n [] = n
number_after n (digit ∷ digits) = number_after (with_digit n digit) digits

abbrev pub number_of : List ℕ → Option ℕ
number_of word = number_after (Some 0) word
