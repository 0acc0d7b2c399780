-- What a text is as the URI of a name, computed: the grammar of `Uri` as a reading.
use Rattle.std.specs.Prelude.{ℕ, ◌+◌, ◌*◌, Bool, false, not, ◌&&◌, ◌||◌, nat_lt, nat_le, ◌==◌, List, [], ◌∷◌, length}
use Rattle.std.specs.Prelude.{codes, bytes_eq, Option, Some, None, option_and_then, unwrap_or, if◌then◌else◌}
use Rattle.std.specs.Char.{digit_value, is_ascii_digit}
use Rattle.std.specs.List.{list_all, list_any, slice_split}
use Rattle.std.specs.Option.{option_map}
use Rattle.std.specs.Str.Parse.{digits_value}
use Rattle.ndn_tlv.specs.NumberField.{number_field}
use Rattle.ndn_tlv.specs.Types as types
use Rattle.ndn_name.specs.Names.{Component, greatest_type}
use Rattle.ndn_name.specs.Uri.{are_periods, is_unreserved}

-- ---- values

-- An octet before others, where there are such.
abbrev pub onto : ℕ → Option (List ℕ) → Option (List ℕ)
onto octet octets = option_map (λ others. octet ∷ others) octets

-- A percent sign and two hexadecimal digits, of either case.
abbrev pub is_escape : ℕ → ℕ → ℕ → Bool
is_escape c high low = c == 37 && nat_lt (digit_value high) 16 && nat_lt (digit_value low) 16

-- The octets that the text is the escapes of.
unfoldable pub unescaped : List ℕ → Option (List ℕ)
unescaped [] = Some []
unescaped (c ∷ []) = if is_unreserved c then Some (c ∷ []) else None
unescaped (c ∷ d ∷ []) = if is_unreserved c then onto c (unescaped (d ∷ [])) else None
unescaped (c ∷ d ∷ e ∷ text) =
    if is_unreserved c then onto c (unescaped (d ∷ e ∷ text))
    else if is_escape c d e then onto (digit_value d * 16 + digit_value e) (unescaped text)
    else None

-- A value of periods alone is written with three more.
abbrev pub after_three : List ℕ → Option (List ℕ)
after_three (a ∷ b ∷ c ∷ value) = Some value
after_three octets = None

-- The value that these octets stand for: of periods alone, three are taken away.
abbrev pub unguarded : List ℕ → Option (List ℕ)
unguarded octets = if are_periods octets then after_three octets else Some octets

-- The value that the text is of, where it is one of a value.
abbrev pub value_of_text : List ℕ → Option (List ℕ)
value_of_text text = option_and_then unguarded (unescaped text)

-- Two hexadecimal digits for each octet.
unfoldable pub octets_of_digits : List ℕ → Option (List ℕ)
octets_of_digits [] = Some []
octets_of_digits (high ∷ []) = None
octets_of_digits (high ∷ low ∷ text) =
    if nat_lt (digit_value high) 16 && nat_lt (digit_value low) 16
    then onto (digit_value high * 16 + digit_value low) (octets_of_digits text) else None

-- The 32 octets of the digest that the text is of, where it is one of a digest.
abbrev pub digest_of_text : List ℕ → Option (List ℕ)
digest_of_text text =
    option_and_then (λ octets. if length octets == 32 then Some octets else None)
    (octets_of_digits text)

-- Decimal digits, without a zero in front of others.
abbrev pub is_decimal : List ℕ → Bool
is_decimal [] = false
is_decimal (c ∷ cs) = (not (c == 48) || length cs == 0) && list_all is_ascii_digit (c ∷ cs)

-- A number in decimal that is not above `most`.
abbrev pub decimal_of_text : ℕ → List ℕ → Option ℕ
decimal_of_text most text =
    if is_decimal text && nat_le (digits_value 10 text) most then Some (digits_value 10 text)
    else None

-- The value of the number that the text is in decimal, in its shortest width. The number has 64 bits at most.
abbrev pub number_of_text : List ℕ → Option (List ℕ)
number_of_text text = option_map number_field (decimal_of_text 18446744073709551615 text)

-- ---- components

-- A component of this type, where there is a value.
abbrev pub typed : ℕ → Option (List ℕ) → Option Component
typed typ value = option_map (λ octets. (typ, octets)) value

-- The type is written in decimal.
abbrev pub typed_by : Option ℕ → List ℕ → Option Component
typed_by None tail = None
typed_by (Some typ) tail = if nat_lt 0 typ then typed typ (value_of_text tail) else None

-- The component of what stands before an equals sign and after it.
abbrev pub component_of_parts : List ℕ → List ℕ → Option Component
component_of_parts head tail =
    if bytes_eq head (codes "sha256digest")
    then typed types.ImplicitSha256DigestComponent (digest_of_text tail)
    else if bytes_eq head (codes "params-sha256")
    then typed types.ParametersSha256DigestComponent (digest_of_text tail)
    else if bytes_eq head (codes "seg") then typed types.SegmentNameComponent (number_of_text tail)
    else if bytes_eq head (codes "v") then typed types.VersionNameComponent (number_of_text tail)
    else if bytes_eq head (codes "seq")
    then typed types.SequenceNumNameComponent (number_of_text tail)
    else typed_by (decimal_of_text greatest_type head) tail

-- What stands before the first such octet and after it, where there is one.
unfoldable pub cut_at : ℕ → List ℕ → Option (List ℕ × List ℕ)
cut_at octet [] = None
cut_at octet (c ∷ text) =
    if c == octet then Some ([], text)
    else option_map (λ parts. (c ∷ parts.0, parts.1)) (cut_at octet text)

-- The component of a text that was cut at its first equals sign, or that has none.
abbrev pub component_by : List ℕ → Option (List ℕ × List ℕ) → Option Component
component_by text None = typed types.GenericNameComponent (value_of_text text)
component_by text (Some parts) = component_of_parts parts.0 parts.1

-- The component that the text is of, where it is one of a component.
unfoldable pub component_of_text : List ℕ → Option Component
component_of_text text = component_by text (cut_at 61 text)

-- ---- names

-- A component before others, where there are such.
abbrev pub component_before : Component → Option (List Component) → Option (List Component)
component_before c name = option_map (λ others. c ∷ others) name

-- The components that the texts are of, where each is one of a component.
unfoldable pub components_of_texts : List (List ℕ) → Option (List Component)
components_of_texts [] = Some []
components_of_texts (text ∷ texts) =
    option_and_then (λ c. component_before c (components_of_texts texts)) (component_of_text text)

-- What stands after the first slash: nothing, or the texts of components and a slash between any
-- two.
abbrev pub name_of_path : List ℕ → Option (List Component)
name_of_path [] = Some []
name_of_path (c ∷ path) = components_of_texts (slice_split (λ o. o == 47) (c ∷ path))

-- What follows a word at the start of a text, where the word is there.
unfoldable pub after_word : List ℕ → List ℕ → Option (List ℕ)
after_word [] text = Some text
after_word (c ∷ word) [] = None
after_word (c ∷ word) (d ∷ text) = if c == d then after_word word text else None

-- The text after the scheme "ndn:", which may be absent.
abbrev pub without_scheme : List ℕ → List ℕ
without_scheme text = unwrap_or (after_word (codes "ndn:") text) text

-- The name whose URI the text is, where it is one.
unfoldable pub name_of_text : List ℕ → Option (List Component)
name_of_text text = option_and_then name_of_path (after_word (codes "/") (without_scheme text))

-- A digest is a component of type 1 or 2.
abbrev pub is_digest : Component → Bool
is_digest c = nat_le c.0 types.ParametersSha256DigestComponent

-- The component, unless it is a digest.
abbrev pub plain_component : Component → Option Component
plain_component c = if is_digest c then None else Some c

-- A plain name has no digest among its components.
abbrev pub plain_name : List Component → Option (List Component)
plain_name name = if list_any is_digest name then None else Some name

-- The plain name whose URI the text is, where it is one.
abbrev pub plain_name_of_text : List ℕ → Option (List Component)
plain_name_of_text text = option_and_then plain_name (name_of_text text)
