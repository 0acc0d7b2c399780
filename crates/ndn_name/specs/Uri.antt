-- The texts of names: which texts a name has, and which of them is printed (the NDN URI scheme of
-- NDN Packet Format 0.3, "Name", with an optional "ndn:", no trailing slash, and no hints).
use Rattle.std.specs.Prelude.{◌≡◌, ℕ, ◌+◌, ◌*◌, ◌/◌, ◌%◌, ◌<◌, ◌≤◌, Bool, true, false, ◌||◌, List, [], ◌∷◌, ◌++◌}
use Rattle.std.specs.Prelude.{length, map, codes, Option, Some, None, ◌==◌, ◌⊎◌, if◌then◌else◌}
use Rattle.std.specs.Char.{digit_value, is_ascii_alphanumeric}
use Rattle.std.specs.Fmt.{decimal, digit_glyph}
use Rattle.std.specs.List.{flat_map, list_all}
use Rattle.ndn_tlv.specs.NumberField.{number_field, number_of}
use Rattle.ndn_tlv.specs.Types as types
use Rattle.ndn_name.specs.Names.{Component, greatest_type}

-- ---- values

-- Letters, digits, "-", ".", "_" and "~" stand for themselves.
abbrev pub is_unreserved : ℕ → Bool
is_unreserved c = is_ascii_alphanumeric c || (c == 45 || c == 46 || c == 95 || c == 126)

-- Two hexadecimal digits, of either case, for an octet.
abbrev pub IsPair : ℕ → ℕ → ℕ → Type 0
IsPair octet high low =
    (digit_value high < 16) × (digit_value low < 16)
    × (octet ≡ digit_value high * 16 + digit_value low)

-- The texts of an octet: itself, or a percent sign and two digits.
pub data IsOctetText (octet : ℕ) (text : List ℕ) : Type 0 where
  plain : is_unreserved octet ≡ true → text ≡ octet ∷ [] → IsOctetText octet text
  escape : (high low : ℕ) → IsPair octet high low → text ≡ 37 ∷ high ∷ low ∷ []
      → IsOctetText octet text

-- The texts of octets, one after another.
abbrev pub IsEscaped : List ℕ → List ℕ → Type 0
IsEscaped [] text = text ≡ []
IsEscaped (octet ∷ octets) text =
    (first : List ℕ) × (rest : List ℕ) × (text ≡ first ++ rest) × IsOctetText octet first
    × IsEscaped octets rest

-- All octets are periods, as of no octets.
abbrev pub are_periods : List ℕ → Bool
are_periods octets = list_all (λ o. o == 46) octets

-- A value that is empty or of periods alone is written with three more periods.
abbrev pub guarded : List ℕ → List ℕ
guarded value = if are_periods value then 46 ∷ 46 ∷ 46 ∷ value else value

-- A text of a value: the octets, escaped where they must be, with three more periods where these are needed.
abbrev pub IsValueText : List ℕ → List ℕ → Type 0
IsValueText value text = IsEscaped (guarded value) text

-- Two digits for each octet.
abbrev pub IsDigits : List ℕ → List ℕ → Type 0
IsDigits [] text = text ≡ []
IsDigits (octet ∷ octets) text =
    (high : ℕ) × (low : ℕ) × (rest : List ℕ) × (text ≡ high ∷ low ∷ rest) × IsPair octet high low
    × IsDigits octets rest

-- A text of a digest: two hexadecimal digits for each of its 32 octets.
abbrev pub IsDigestText : List ℕ → List ℕ → Type 0
IsDigestText value text = (length value ≡ 32) × IsDigits value text

-- A number in decimal, without leading zeros.
abbrev pub IsDecimal : ℕ → ℕ → List ℕ → Type 0
IsDecimal most n text = (n ≤ most) × (text ≡ decimal n)

-- A text of a value that is a number in its shortest width: the number in decimal.
abbrev pub IsNumberText : List ℕ → List ℕ → Type 0
IsNumberText value text = (n : ℕ) × (value ≡ number_field n) × IsDecimal 18446744073709551615 n text

-- ---- components

-- What stands before an equals sign, and what after it.
abbrev pub headed : List ℕ → List ℕ → List ℕ
headed head tail = head ++ 61 ∷ tail

-- The texts of a component.
pub data IsComponentText (c : Component) (text : List ℕ) : Type 0 where
  generic : c.0 ≡ types.GenericNameComponent → IsValueText c.1 text → IsComponentText c text
  typed : (tail : List ℕ) → 0 < c.0 → c.0 ≤ greatest_type → text ≡ headed (decimal c.0) tail
      → IsValueText c.1 tail → IsComponentText c text
  implicit_digest : (tail : List ℕ) → c.0 ≡ types.ImplicitSha256DigestComponent
      → text ≡ headed (codes "sha256digest") tail → IsDigestText c.1 tail → IsComponentText c text
  parameters_digest : (tail : List ℕ) → c.0 ≡ types.ParametersSha256DigestComponent
      → text ≡ headed (codes "params-sha256") tail → IsDigestText c.1 tail → IsComponentText c text
  segment : (tail : List ℕ) → c.0 ≡ types.SegmentNameComponent → text ≡ headed (codes "seg") tail
      → IsNumberText c.1 tail → IsComponentText c text
  version : (tail : List ℕ) → c.0 ≡ types.VersionNameComponent → text ≡ headed (codes "v") tail
      → IsNumberText c.1 tail → IsComponentText c text
  sequence : (tail : List ℕ) → c.0 ≡ types.SequenceNumNameComponent
      → text ≡ headed (codes "seq") tail → IsNumberText c.1 tail → IsComponentText c text

-- ---- names

-- A component, and the place in the text where its own text begins.
abbrev pub Part : Type 0
Part = ℕ × Component

-- A slash and the text of a component, for each part. The text begins at this place.
abbrev pub IsPath : ℕ → List Part → List ℕ → Type 0
IsPath at [] text = text ≡ []
IsPath at (part ∷ parts) text =
    (first : List ℕ) × (rest : List ℕ) × (text ≡ 47 ∷ first ++ rest) × (part.0 ≡ at + 1)
    × IsComponentText part.1 first × IsPath (at + 1 + length first) parts rest

-- The empty name is a slash alone.
abbrev pub IsRooted : ℕ → List Part → List ℕ → Type 0
IsRooted at [] text = text ≡ 47 ∷ []
IsRooted at (part ∷ parts) text = IsPath at (part ∷ parts) text

-- "ndn:" may stand before it.
abbrev pub IsUri : List Part → List ℕ → Type 0
IsUri parts text =
    IsRooted 0 parts text
    ⊎ ((path : List ℕ) × (text ≡ codes "ndn:" ++ path) × IsRooted 4 parts path)

-- The components of the parts, without where these stand in the text.
abbrev pub name_of_parts : List Part → List Component
name_of_parts parts = map (λ part. part.1) parts

-- ---- the text that is printed

-- Two hexadecimal digits, in upper case or in lower.
abbrev pub hex_pair : Bool → ℕ → List ℕ
hex_pair upper octet = digit_glyph upper (octet / 16) ∷ digit_glyph upper (octet % 16) ∷ []

-- The text of an octet: the character itself where it is unreserved, and else a percent sign and two digits.
abbrev pub escape_of : ℕ → List ℕ
escape_of octet = if is_unreserved octet then octet ∷ [] else 37 ∷ hex_pair true octet

-- The text that is printed of a value.
abbrev pub value_text : List ℕ → List ℕ
value_text value = flat_map escape_of (guarded value)

-- The text that is printed of a digest, with digits in lower case.
abbrev pub digest_text : List ℕ → List ℕ
digest_text value = flat_map (λ o. hex_pair false o) value

-- A number in the fewest octets.
abbrev pub in_shortest_width : List ℕ → Option ℕ → Option ℕ
in_shortest_width value None = None
in_shortest_width value (Some n) = if length (number_field n) == length value then Some n else None

-- The text that is printed of a component without a keyword: its type in decimal, unless it is generic.
abbrev pub plain_text : Component → List ℕ
plain_text c =
    if c.0 == types.GenericNameComponent then value_text c.1
    else decimal c.0 ++ 61 ∷ value_text c.1

-- A number, where the value is one in its shortest width.
abbrev pub number_text : List ℕ → Option ℕ → Component → List ℕ
number_text word None c = plain_text c
number_text word (Some n) c = word ++ decimal n

-- The text after the keyword of a number, or the plain one where the value is no number in its shortest width.
abbrev pub shortest_text : List ℕ → Component → List ℕ
shortest_text word c = number_text word (in_shortest_width c.1 (number_of c.1)) c

-- The text that is printed of a component.
abbrev pub component_text : Component → List ℕ
component_text c =
    if c.0 == types.ImplicitSha256DigestComponent then codes "sha256digest=" ++ digest_text c.1
    else if c.0 == types.ParametersSha256DigestComponent
    then codes "params-sha256=" ++ digest_text c.1
    else if c.0 == types.SegmentNameComponent then shortest_text (codes "seg=") c
    else if c.0 == types.VersionNameComponent then shortest_text (codes "v=") c
    else if c.0 == types.SequenceNumNameComponent then shortest_text (codes "seq=") c
    else plain_text c

-- The components of a name, each after a slash.
abbrev pub path_text : List Component → List ℕ
path_text name = flat_map (λ c. 47 ∷ component_text c) name

-- The text that is printed of a name. The name without components is a slash.
abbrev pub uri : List Component → List ℕ
uri [] = 47 ∷ []
uri (c ∷ cs) = path_text (c ∷ cs)
