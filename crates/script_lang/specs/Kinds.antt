-- The kinds of word of a line, and the value that a word has as one of a kind, or why it has none.
use Rattle.std.specs.Prelude.{ℕ, Bool, false, not, ◌&&◌, ◌||◌, List, [], ◌∷◌, length, Option, Some, None, Result, Ok}
use Rattle.std.specs.Prelude.{Err, nat_le, ◌==◌, codes, if◌then◌else◌, replicate}
use Rattle.std.specs.Char.{is_ascii_digit, is_ascii_lowercase}
use Rattle.std.specs.List.{list_all}
use Rattle.std.specs.Str.{bytes_eq}
use Rattle.std.specs.Str.Parse.{digits_value}
use Rattle.hex.specs.Hex.{decode_of}
use Rattle.hex.specs.declared.error.FromHexError.{FromHexError}
use Rattle.ndn_name.specs.Names.{Component, encoding}
use Rattle.ndn_name.specs.UriText.{after_word, cut_at, plain_name_of_text}
use Rattle.script_lang.specs.declared.line_fault.LineFault.{LineFault}
use Rattle.script_lang.specs.declared.line_fault.LineFault.TheVariants.{Syntax, Limit}

-- The kinds of word, each with its range: a number's least and most, the least and the most octets of a name's value
-- and of a content, the most octets of hexadecimal text. A publisher is a label, or `*` for every one.
pub data Kind : Type 0 where
  LABEL : Kind
  PUBLISHER : Kind
  N : (least most : ℕ) → Kind
  URI : (least most : ℕ) → Kind
  HEX : (most : ℕ) → Kind
  CONTENT : (least most : ℕ) → Kind

-- What a word stands for.
pub data Value : Type 0 where
  Text : List ℕ → Value
  Anyone : Value
  Number : ℕ → Value
  Named : List Component → Value
  Octets : List ℕ → Value

-- An octet that a label may have after its first: a lower-case letter or a digit.
abbrev pub is_label_octet : ℕ → Bool
is_label_octet octet = is_ascii_lowercase octet || is_ascii_digit octet

-- A word is a label: a lower-case letter and up to 15 lower-case letters or digits.
abbrev pub is_label : List ℕ → Bool
is_label [] = false
is_label (first ∷ others) =
    is_ascii_lowercase first && nat_le (length others) 15 && list_all is_label_octet others

-- The label that a word is, or `Syntax` if it is none.
unfoldable pub label_of : List ℕ → Result (List ℕ) LineFault
label_of word = if is_label word then Ok word else Err Syntax

-- A result with `f` applied to its value.
abbrev pub mapped : {A B : Type 0} → (A → B) → Result A LineFault → Result B LineFault
mapped f (Ok x) = Ok (f x)
mapped f (Err fault) = Err fault

-- A publisher is `*` or a label.
unfoldable pub publisher_of : List ℕ → Result Value LineFault
publisher_of word = if bytes_eq word (codes "*") then Ok Anyone else mapped Text (label_of word)

-- A number is at most 18 decimal digits, without a zero in front of others.
abbrev pub is_numeral : List ℕ → Bool
is_numeral [] = false
is_numeral (first ∷ others) =
    nat_le (length others) 17 && (not (first == 48) || length others == 0)
    && list_all is_ascii_digit (first ∷ others)

-- The number that a word is, or `Syntax` if it is none, or `Limit` if it isn't from `least` to `most`.
unfoldable pub numeral_of : ℕ → ℕ → List ℕ → Result ℕ LineFault
numeral_of least most word =
    if is_numeral word
    then if nat_le least (digits_value 10 word) && nat_le (digits_value 10 word) most
    then Ok (digits_value 10 word) else Err Limit else Err Syntax

-- The octets, or `Limit` if there aren't `least` to `most` of them.
abbrev pub octets_within : ℕ → ℕ → List ℕ → Result (List ℕ) LineFault
octets_within least most octets =
    if nat_le least (length octets) && nat_le (length octets) most then Ok octets else Err Limit

-- The octets that hexadecimal text was decoded to, or `Limit` if there aren't `least` to `most` of them.
abbrev pub decoded_within : ℕ → ℕ → Result (List ℕ) FromHexError → Result (List ℕ) LineFault
decoded_within least most (Ok octets) = octets_within least most octets
decoded_within least most (Err _) = Err Syntax

-- Octets in hexadecimal text are pairs of digits, of either case.
unfoldable pub hex_of : ℕ → ℕ → List ℕ → Result (List ℕ) LineFault
hex_of least most word = decoded_within least most (decode_of word)

-- The octets that the two parts of `N:N` stand for: the first is their count, the second the octet that is repeated.
abbrev pub filled : ℕ → ℕ → Option (List ℕ × List ℕ) → Result (List ℕ) LineFault
filled least most None = Err Syntax
filled least most (Some parts) =
    if is_numeral parts.0 && is_numeral parts.1
    then if nat_le least (digits_value 10 parts.0) && nat_le (digits_value 10 parts.0) most
    && nat_le (digits_value 10 parts.1) 255
    then Ok (replicate (digits_value 10 parts.0) (digits_value 10 parts.1)) else Err Limit
    else Err Syntax

-- The octets that `N:N` stands for.
unfoldable pub filled_of : ℕ → ℕ → List ℕ → Result (List ℕ) LineFault
filled_of least most counts = filled least most (cut_at 58 counts)

-- A content is `text:` and octets, or `hex:` and hexadecimal text or nothing, or `fill:N:N`.
abbrev pub content_by : ℕ → ℕ → Option (List ℕ) → Option (List ℕ) → Option (List ℕ)
    → Result (List ℕ) LineFault
content_by least most (Some text) digits counts = octets_within least most text
content_by least most None (Some digits) counts = hex_of least most digits
content_by least most None None (Some counts) = filled_of least most counts
content_by least most None None None = Err Syntax

-- The octets of a content.
unfoldable pub content_of : ℕ → ℕ → List ℕ → Result (List ℕ) LineFault
content_of least most word =
    content_by least most (after_word (codes "text:") word) (after_word (codes "hex:") word)
    (after_word (codes "fill:") word)

-- A URI is the text of a name without components of type 1 or 2 (`plain_name_of_text`), whose value has
-- `least` to `most` octets.
abbrev pub name_within : ℕ → ℕ → Option (List Component) → Result (List Component) LineFault
name_within least most None = Err Syntax
name_within least most (Some name) =
    if nat_le least (length (encoding name)) && nat_le (length (encoding name)) most
    then Ok name else Err Limit

-- The name of a URI.
unfoldable pub uri_of : ℕ → ℕ → List ℕ → Result (List Component) LineFault
uri_of least most word = name_within least most (plain_name_of_text word)

-- ---- a word

-- The value of a word as one of this kind, or why it has none.
abbrev pub word_of : Kind → List ℕ → Result Value LineFault
word_of LABEL word = mapped Text (label_of word)
word_of PUBLISHER word = publisher_of word
word_of (N least most) word = mapped Number (numeral_of least most word)
word_of (URI least most) word = mapped Named (uri_of least most word)
word_of (HEX most) word = mapped Octets (hex_of 1 most word)
word_of (CONTENT least most) word = mapped Octets (content_of least most word)
