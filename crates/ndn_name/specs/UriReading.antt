-- What the functions that read the text of a name answer.
use Rattle.std.specs.Prelude.{◌≡◌, ◌≢◌, ℕ, ◌+◌, ◌*◌, ◌<◌, ◌≤◌, not, ◌&&◌, nat_lt, nat_le, ◌==◌, List, [], ◌∷◌, ◌++◌}
use Rattle.std.specs.Prelude.{length, take, slice_index, Option, Some, None, Result, Ok, Err, codes, bytes_eq}
use Rattle.std.specs.Prelude.{if◌then◌else◌, ◌⊎◌}
use Rattle.std.specs.Char.{digit_value}
use Rattle.ndn_tlv.specs.Listing.{◌>>=◌}
use Rattle.ndn_tlv.specs.NumberField.{number_field}
use Rattle.ndn_tlv.specs.Types as types
use Rattle.ndn_name.specs.declared.name_fault.NameFault.{NameFault}
use Rattle.ndn_name.specs.declared.name_fault.NameFault.TheVariants.{Tlv, BadComponent, BadDigestLength, NameTooLong}
use Rattle.ndn_name.specs.declared.name_fault.NameFault.TheVariants.{BadUri, NoMemory}
use Rattle.ndn_name.specs.declared.uri_form.Form.{Form}
use Rattle.ndn_name.specs.declared.uri_form.Form.TheVariants.{Digest, Number, Escaped}
use Rattle.ndn_name.specs.declared.uri_form.PartValue.{PartValue}
use Rattle.ndn_name.specs.declared.uri_form.PartValue.TheVariants as value
use Rattle.ndn_name.specs.declared.uri_form.UriPart.{UriPart}
use Rattle.ndn_name.specs.Names.{Component, greatest_type}
use Rattle.ndn_name.specs.Uri.{Part, IsDecimal, IsDigestText, IsNumberText, IsValueText, headed, is_unreserved}
use Rattle.ndn_name.specs.UriText.{digest_of_text, number_of_text, typed, value_of_text}
use Rattle.ndn_name.specs.UriVerdict.{LeavesLanguage}

-- The text that begins at this place leaves the language of all values at the place that is reported.
abbrev pub FailsIn : {V : Type 0} → (V → List ℕ → Type 0) → ℕ → List ℕ → NameFault → Type 0
FailsIn {V} L at text (BadUri place) =
    (k : ℕ) × (place ≡ at + k) × LeavesLanguage (λ t. (v : V) × L v t) text k
FailsIn L at text NoMemory = Unit {0}
FailsIn L at text NameTooLong = ⊥
FailsIn L at text (Tlv f) = ⊥
FailsIn L at text (BadComponent p) = ⊥
FailsIn L at text (BadDigestLength p) = ⊥

-- The text has the value, as it is seen, or it fails.
abbrev pub ReadsText : {X V : Type 0} → (X → V) → (V → List ℕ → Type 0) → ℕ → List ℕ
    → Result X NameFault → Type 0
ReadsText view L at text (Ok x) = L (view x) text
ReadsText view L at text (Err f) = FailsIn L at text f

-- The octet doesn't stand in the text.
abbrev pub LacksOctet : ℕ → List ℕ → Type 0
LacksOctet octet [] = Unit {0}
LacksOctet octet (c ∷ text) = (c ≢ octet) × LacksOctet octet text

-- What stands before the first such octet, and what after it, if there is one.
abbrev pub Splits : ℕ → List ℕ → List ℕ → Option (List ℕ) → Type 0
Splits octet text prefix None = (text ≡ prefix) × LacksOctet octet prefix
Splits octet text prefix (Some rest) = (text ≡ prefix ++ octet ∷ rest) × LacksOctet octet prefix

-- The digit at the start of a text that begins at this place, and what follows it.
unfoldable pub digit_at : ℕ → List ℕ → Result (ℕ × List ℕ) NameFault
digit_at at [] = Err (BadUri at)
digit_at at (c ∷ text) =
    if nat_lt (digit_value c) 16 then Ok (digit_value c, text) else Err (BadUri at)

-- The octet of two digits.
unfoldable pub pair_at : ℕ → List ℕ → Result (ℕ × List ℕ) NameFault
pair_at at text = do
  high ← digit_at at text
  low ← digit_at (at + 1) high.1
  Ok (high.0 * 16 + low.0, low.1)

-- The octet whose text is at the start.
unfoldable pub octet_at : ℕ → List ℕ → Result (ℕ × List ℕ) NameFault
octet_at at [] = Err (BadUri at)
octet_at at (c ∷ text) =
    if c == 37 then pair_at (at + 1) text
    else if is_unreserved c then Ok (c, text)
    else Err (BadUri at)

-- A number with one digit more, where it stays in decimal without leading zeros and is not above
-- `most`.
unfoldable pub with_digit : ℕ → Option ℕ → ℕ → Option ℕ
with_digit most None c = if nat_lt (digit_value c) 10 then Some (digit_value c) else None
with_digit most (Some n) c =
    if nat_lt (digit_value c) 10 && not (n == 0) && nat_le (n * 10 + digit_value c) most
    then Some (n * 10 + digit_value c)
    else None

-- How a value is written after a head, and of which type it is.
abbrev pub IsHead : Form → List ℕ → Type 0
IsHead (Digest typ) head =
    ((typ ≡ types.ImplicitSha256DigestComponent) × (head ≡ codes "sha256digest"))
    ⊎ ((typ ≡ types.ParametersSha256DigestComponent) × (head ≡ codes "params-sha256"))
IsHead (Number typ) head =
    ((typ ≡ types.SegmentNameComponent) × (head ≡ codes "seg"))
    ⊎ (((typ ≡ types.VersionNameComponent) × (head ≡ codes "v"))
    ⊎ ((typ ≡ types.SequenceNumNameComponent) × (head ≡ codes "seq")))
IsHead (Escaped typ) head = (0 < typ) × IsDecimal greatest_type typ head

-- The text is not the head of a form, an equals sign and a tail.
abbrev pub HasNoHead : List ℕ → Type 0
HasNoHead text = (form : Form) (head tail : List ℕ) → IsHead form head → text ≡ headed head tail → ⊥

-- The form that a keyword says.
abbrev pub keyword_of : List ℕ → Option Form
keyword_of head =
    if bytes_eq head (codes "sha256digest")
    then Some (Digest types.ImplicitSha256DigestComponent)
    else if bytes_eq head (codes "params-sha256")
    then Some (Digest types.ParametersSha256DigestComponent)
    else if bytes_eq head (codes "seg") then Some (Number types.SegmentNameComponent)
    else if bytes_eq head (codes "v") then Some (Number types.VersionNameComponent)
    else if bytes_eq head (codes "seq") then Some (Number types.SequenceNumNameComponent)
    else None

-- The components that have such a tail.
abbrev pub IsTail : Form → Component → List ℕ → Type 0
IsTail (Digest typ) c tail = (c.0 ≡ typ) × IsDigestText c.1 tail
IsTail (Number typ) c tail = (c.0 ≡ typ) × IsNumberText c.1 tail
IsTail (Escaped typ) c tail = (c.0 ≡ typ) × IsValueText c.1 tail

-- The octets of a value that was read. Those of a number are in its shortest width.
abbrev pub value_octets : PartValue → List ℕ
value_octets (value.Octets v) = v.items
value_octets (value.Number n) = number_field n

-- A part without where it lies in memory.
abbrev pub uri_part : UriPart → Part
uri_part p = (p.at, (p.typ, value_octets p.value))

-- A part that may be appended to a name.
abbrev pub MayBeAppended : Component → Type 0
MayBeAppended c = (0 < c.0) × (c.0 ≤ types.ParametersSha256DigestComponent → length c.1 ≡ 32)

-- The text is empty, or its first octet is another.
abbrev pub BeginsWithAnother : ℕ → List ℕ → Type 0
BeginsWithAnother octet [] = Unit {0}
BeginsWithAnother octet (c ∷ text) = c ≢ octet

-- So many octets of the word are at the start of the text, and not the next.
abbrev pub BreaksOff : List ℕ → List ℕ → ℕ → Type 0
BreaksOff word text place =
    (rest : List ℕ) × (text ≡ take place word ++ rest) × (place < length word)
    × BeginsWithAnother (slice_index word place) rest

-- The component that a tail is computed as.
abbrev pub tail_of_text : Form → List ℕ → Option Component
tail_of_text (Digest typ) tail = typed typ (digest_of_text tail)
tail_of_text (Number typ) tail = typed typ (number_of_text tail)
tail_of_text (Escaped typ) tail = typed typ (value_of_text tail)

-- The type of a component, and how many octets its value has.
abbrev pub shape : Component → ℕ × ℕ
shape c = (c.0, length c.1)
