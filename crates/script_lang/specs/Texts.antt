-- Which octets are a line: the texts of its values, the spaces between them and its end. And which of the texts of a
-- line is printed.
use Rattle.std.specs.Prelude.{◌≡◌, ℕ, ◌+◌, ◌^◌, ◌<◌, ◌≤◌, ◌⊎◌, Bool, true, false, ◌&&◌, nat_le, List, [], ◌∷◌, ◌++◌}
use Rattle.std.specs.Prelude.{length, codes, replicate}
use Rattle.std.specs.Fmt.{decimal}
use Rattle.std.specs.List.{list_all, list_any}
use Rattle.hex.specs.Hex.{encode_lower, IsBytes}
use Rattle.ndn_name.specs.Names.{IsName, encoding}
use Rattle.ndn_name.specs.Uri.{IsDigits, uri}
use Rattle.ndn_name.specs.UriText.{is_digest}
use Rattle.ndn_name.specs.UriVerdict.{HasUri}
use Rattle.script_lang.specs.Limits.{line_octets}
use Rattle.script_lang.specs.Kinds.{Kind, LABEL, PUBLISHER, N, URI, HEX, CONTENT, Value, Text, Anyone, Number, Named}
use Rattle.script_lang.specs.Kinds.{Octets, is_label}
use Rattle.script_lang.specs.Forms.{Stated, form}
use Rattle.script_lang.specs.Lines.{are_within}

-- ---- values

-- The texts of a content: `text:` and its octets, `hex:` and two digits for each octet, or `fill:` with a count and the
-- octet that is repeated.
pub data IsContentText (octets text : List ℕ) : Type 0 where
  plain : text ≡ codes "text:" ++ octets → IsContentText octets text
  digits : (tail : List ℕ) → text ≡ codes "hex:" ++ tail → IsDigits octets tail → IsContentText octets text
  filled : (count octet : ℕ) → count < 10 ^ 18 → octet ≤ 255 → octets ≡ replicate count octet
      → text ≡ codes "fill:" ++ (decimal count ++ 58 ∷ decimal octet) → IsContentText octets text

-- The texts of a value as a word of a kind. Digits are of either case, and a name has all texts of its URI.
abbrev pub IsWordText : Kind → Value → List ℕ → Type 0
IsWordText LABEL (Text label) text = text ≡ label
IsWordText PUBLISHER (Text label) text = text ≡ label
IsWordText PUBLISHER Anyone text = text ≡ codes "*"
IsWordText (N least most) (Number n) text = (n < 10 ^ 18) × (text ≡ decimal n)
IsWordText (URI least most) (Named name) text = HasUri name text
IsWordText (HEX most) (Octets octets) text = IsDigits octets text
IsWordText (CONTENT least most) (Octets octets) text = IsContentText octets text
IsWordText kind value text = ⊥

-- Words are texts of these values, one by one.
abbrev pub AreWordTexts : List Kind → List Value → List (List ℕ) → Type 0
AreWordTexts [] [] [] = Unit {0}
AreWordTexts (kind ∷ kinds) (value ∷ values) (text ∷ texts) =
    IsWordText kind value text × AreWordTexts kinds values texts
AreWordTexts kinds values texts = ⊥

-- A value is one of this kind, in its range.
abbrev pub IsOfKind : Kind → Value → Type 0
IsOfKind LABEL (Text label) = is_label label ≡ true
IsOfKind PUBLISHER (Text label) = is_label label ≡ true
IsOfKind PUBLISHER Anyone = Unit {0}
IsOfKind (N least most) (Number n) = (least ≤ n) × (n ≤ most)
IsOfKind (URI least most) (Named name) =
    (list_any is_digest name ≡ false) × (least ≤ length (encoding name)) × (length (encoding name) ≤ most)
IsOfKind (HEX most) (Octets octets) = (1 ≤ length octets) × (length octets ≤ most)
IsOfKind (CONTENT least most) (Octets octets) = (least ≤ length octets) × (length octets ≤ most)
IsOfKind kind value = ⊥

-- Values are of these kinds and in their ranges, one by one.
abbrev pub AreOf : List Kind → List Value → Type 0
AreOf [] [] = Unit {0}
AreOf (kind ∷ kinds) (value ∷ values) = IsOfKind kind value × AreOf kinds values
AreOf kinds values = ⊥

-- ---- lines

-- A printable octet other than a space.
abbrev pub is_graphic : ℕ → Bool
is_graphic octet = nat_le 33 octet && nat_le octet 126

-- A word of a line has one or more printable octets other than a space.
pub record IsWord (word : List ℕ) : Type 0 where
  pub some : 0 < length word
  pub graphic : list_all is_graphic word ≡ true

-- Words with one or more spaces between two of them, and any number of spaces at both ends.
abbrev pub IsSpaced : List (List ℕ) → List ℕ → Type 0
IsSpaced [] text = (n : ℕ) × (text ≡ replicate n 32)
IsSpaced (word ∷ words) text =
    (n : ℕ) × (rest : List ℕ) × (text ≡ replicate n 32 ++ (word ++ rest)) × IsWord word
    × (((rest ≡ []) × (words ≡ [])) ⊎ ((more : List ℕ) × (rest ≡ 32 ∷ more) × IsSpaced words more))

-- A line ends with the input, with a line feed, or with a carriage return and a line feed. Its length counts the
-- carriage return.
pub data IsEnded (body octets : List ℕ) : Type 0 where
  by_input : octets ≡ body → length body ≤ line_octets → IsEnded body octets
  by_feed : octets ≡ body ++ 10 ∷ [] → length body ≤ line_octets → IsEnded body octets
  by_return : octets ≡ (body ++ 13 ∷ []) ++ 10 ∷ [] → length body + 1 ≤ line_octets → IsEnded body octets

-- The texts of a line, whose values are in their ranges.
pub record IsLineText (s : Stated) (octets : List ℕ) : Type 0 where
  pub body : List ℕ
  pub words : List (List ℕ)
  pub ended : IsEnded body octets
  pub spaced : IsSpaced ((form s.verb).word ∷ words) body
  pub texts : AreWordTexts (form s.verb).kinds s.values words
  pub ranges : AreOf (form s.verb).kinds s.values
  pub within : are_within s.verb s.values ≡ true

-- ---- the text that is printed

-- The text that is printed of a value as a word of this kind. It is empty for a value of another kind.
abbrev pub word_text : Kind → Value → List ℕ
word_text LABEL (Text text) = text
word_text PUBLISHER (Text text) = text
word_text PUBLISHER Anyone = codes "*"
word_text (N least most) (Number n) = decimal n
word_text (URI least most) (Named name) = uri name
word_text (HEX most) (Octets octets) = encode_lower octets
word_text (CONTENT least most) (Octets octets) = codes "hex:" ++ encode_lower octets
word_text kind value = []

-- A space and a word, for each value.
abbrev pub words_text : List Kind → List Value → List ℕ
words_text (kind ∷ kinds) (value ∷ values) = 32 ∷ (word_text kind value ++ words_text kinds values)
words_text kinds values = []

-- The line as it is printed.
abbrev pub printed_line : Stated → List ℕ
printed_line s = (form s.verb).word ++ words_text (form s.verb).kinds s.values

-- Values that can be printed: numbers of at most 18 digits, names, and octets.
abbrev pub IsPlainValue : Value → Type 0
IsPlainValue (Text text) = Unit {0}
IsPlainValue Anyone = Unit {0}
IsPlainValue (Number n) = n < 10 ^ 18
IsPlainValue (Named name) = IsName name
IsPlainValue (Octets octets) = IsBytes octets

-- All of these values can be printed.
abbrev pub ArePlainValues : List Value → Type 0
ArePlainValues [] = Unit {0}
ArePlainValues (value ∷ values) = IsPlainValue value × ArePlainValues values
