-- A line that is printed from its values is read back.
use Rattle.std.proofs.Common.{◌≡◌, ◌/◌, ◌%◌, ◌<◌, ◌≤◌, ◌^◌, ℕ, suc, true, List, [], ◌∷◌, ◌++◌, length}
use Rattle.std.proofs.Common.{slice_index, Some, Ok, refl, arith, inl, inr}
use Rattle.std.specs.Fmt.{decimal}
use Rattle.std.specs.List.{list_all}
use Rattle.std.specs.Char.{is_ascii_digit, is_ascii_lowercase, is_ascii_graphic}
use Rattle.std.proofs.lemmas.Fmt.{decimal_nonempty}
use Rattle.std.proofs.lemmas.Bool.Decides.{nat_tests}
use Rattle.std.proofs.lemmas.Bool.{false≢true, and_from}
use Rattle.hex.specs.Hex.{encode_lower, encode_with, lower_digits, IsBytes}
use Rattle.hex.proofs.HexLemmas.{decode_of-encode_lower, length-encode_with}
use Rattle.ndn_name.specs.Names.{Component, IsName}
use Rattle.ndn_name.specs.Uri.{uri}
use Rattle.ndn_name.specs.UriVerdict.{HasUri}
use Rattle.ndn_name.proofs.PrintedTexts.{parts_at, parts-name, uri-is}
use Rattle.script_lang.specs.Limits.{line_octets}
use Rattle.script_lang.specs.Kinds.{Kind, LABEL, PUBLISHER, N, URI, HEX, CONTENT, Value, Text, Anyone, Number, Named}
use Rattle.script_lang.specs.Kinds.{Octets, is_label, is_label_octet}
use Rattle.script_lang.specs.Forms.{Stated, form}
use Rattle.script_lang.specs.Lines.{are_within, line_of}
use Rattle.script_lang.specs.Texts.{IsOfKind, IsWordText, digits, AreOf, AreWordTexts, is_graphic, IsWord, IsSpaced}
use Rattle.script_lang.specs.Texts.{by_input, word_text, words_text, printed_line, IsPlainValue, ArePlainValues}
use Rattle.script_lang.proofs.Conditions.{and_left, and_right, or_left, weaker}
use Rattle.ndn_name.proofs.ComputedValues.{decimal_digits}
use Rattle.script_lang.proofs.HexTexts.{decoded_digits}
use Rattle.script_lang.proofs.FirstWords.{verb_is_word}
use Rattle.script_lang.proofs.LineTexts.{element_at, line_texts}
use Rattle.ndn_name.proofs.VisibleTexts.{uri-visible, uri-some}

-- ---- what is printed is a word

label_graphic : (c : ℕ) → is_label_octet c ≡ true → is_graphic c ≡ true
label_graphic c h = grind (arith, nat_tests)

digit_graphic : (c : ℕ) → is_ascii_digit c ≡ true → is_graphic c ≡ true
digit_graphic c h = grind (arith, nat_tests)

visible_graphic : (c : ℕ) → is_ascii_graphic c ≡ true → is_graphic c ≡ true
visible_graphic c h = grind (arith, nat_tests)

label_octets : (text : List ℕ) → is_label text ≡ true → list_all is_label_octet text ≡ true
label_octets [] h = absurd (false≢true h)
label_octets (c ∷ cs) h = and_from (is_label_octet c) _
    (or_left (is_ascii_lowercase c) (is_ascii_digit c)
    (and_left (is_ascii_lowercase c) _ (and_left _ _ h))) (and_right _ _ h)

label_is_word : (text : List ℕ) → is_label text ≡ true → IsWord text
label_is_word [] h = absurd (false≢true h)
label_is_word (c ∷ cs) h = record {
  some = omega arith;
  graphic = weaker is_label_octet is_graphic label_graphic (c ∷ cs) (label_octets (c ∷ cs) h);
}

hex_digit : (k : ℕ) → k < 16 → is_graphic (slice_index lower_digits k) ≡ true
hex_digit k lt = element_at is_graphic lower_digits k refl lt

hex_graphic : (octets : List ℕ) → IsBytes octets → list_all is_graphic (encode_lower octets) ≡ true
unfolding encode_with
hex_graphic [] bytes = refl
hex_graphic (b ∷ bs) bytes =
    let low : b < 256 = bytes 0 in
    and_from _ _ (hex_digit (b / 16) (omega arith))
    (and_from _ _ (hex_digit (b % 16) (omega arith)) (hex_graphic bs (λ i. bytes (suc i))))

printed_uri : (name : List Component) → IsName name → HasUri name (uri name)
printed_uri name h = (parts_at 0 name, uri-is name h, parts-name 0 name)

printed_is_word : (kind : Kind) (value : Value) → IsPlainValue value → IsOfKind kind value → IsWord
    (word_text kind value)
printed_is_word LABEL (Text label) plain of = label_is_word label of
printed_is_word PUBLISHER (Text label) plain of = label_is_word label of
printed_is_word PUBLISHER Anyone plain of = record { some = omega arith; graphic = refl }
printed_is_word (N least most) (Number n) plain of =
    let low : n < 2 ^ 64 = omega arith in
    record {
      some = decimal_nonempty n low;
      graphic = weaker is_ascii_digit is_graphic digit_graphic
          (decimal n) (decimal_digits n low);
    }
printed_is_word (URI least most) (Named name) plain of =
    let u = printed_uri name plain in
    record {
      some = uri-some u.0 (uri name) u.1;
      graphic = weaker is_ascii_graphic is_graphic
          visible_graphic (uri name) (uri-visible u.0 (uri name) u.1);
    }
printed_is_word (HEX most) (Octets octets) plain of =
    record { some = omega (arith, length-encode_with lower_digits octets); graphic = hex_graphic octets plain }
printed_is_word (CONTENT least most) (Octets octets) plain of = record
    { some = omega arith; graphic = hex_graphic octets plain }
printed_is_word kind value plain of = absurd of

-- ---- and a text of its value

printed_is_text : (kind : Kind) (value : Value) → IsPlainValue value → IsOfKind kind value
    → IsWordText kind value (word_text kind value)
printed_is_text LABEL (Text label) plain of = refl
printed_is_text PUBLISHER (Text label) plain of = refl
printed_is_text PUBLISHER Anyone plain of = refl
printed_is_text (N least most) (Number n) plain of = (plain, refl)
printed_is_text (URI least most) (Named name) plain of = printed_uri name plain
printed_is_text (HEX most) (Octets octets) plain of = decoded_digits (encode_lower octets) octets
    (decode_of-encode_lower octets plain)
printed_is_text (CONTENT least most) (Octets octets) plain of = digits (encode_lower octets) refl
    (decoded_digits (encode_lower octets) octets (decode_of-encode_lower octets plain))
printed_is_text kind value plain of = absurd of

-- ---- the words of a line

abbrev each : List Kind → List Value → List (List ℕ)
each (kind ∷ kinds) (value ∷ values) = word_text kind value ∷ each kinds values
each kinds values = []

texts_of : (kinds : List Kind) (values : List Value) → ArePlainValues values → AreOf kinds values
    → AreWordTexts kinds values (each kinds values)
texts_of [] [] plain of = tt
texts_of (kind ∷ kinds) (value ∷ values) plain of =
    (printed_is_text kind value plain.0 of.0, texts_of kinds values plain.1 of.1)
texts_of [] (value ∷ values) plain of = absurd of
texts_of (kind ∷ kinds) [] plain of = absurd of

words_of : (word : List ℕ) (kinds : List Kind) (values : List Value) → IsWord word → ArePlainValues values
    → AreOf kinds values → IsSpaced (word ∷ each kinds values) (word ++ words_text kinds values)
words_of word [] [] is plain of = (0, [], refl, is, inl (refl, refl))
words_of word (kind ∷ kinds) (value ∷ values) is plain of = (
  0,
  words_text (kind ∷ kinds) (value ∷ values),
  refl,
  is,
  inr (
    word_text kind value ++ words_text kinds values,
    refl,
    words_of
        (word_text kind value) kinds values (printed_is_word kind value plain.0 of.0) plain.1 of.1,
  ),
)
words_of word [] (value ∷ values) is plain of = absurd of
words_of word (kind ∷ kinds) [] is plain of = absurd of

pub printed_is_read : (s : Stated) → ArePlainValues s.values → AreOf (form s.verb).kinds s.values
    → are_within s.verb s.values ≡ true → length (printed_line s) ≤ line_octets → line_of (printed_line s) ≡ Ok
    (Some s)
printed_is_read s plain of within fits = (line_texts s (printed_line s)).1 (record {
  body = printed_line s;
  words = each (form s.verb).kinds s.values;
  ended = by_input refl fits;
  spaced = words_of (form s.verb).word (form s.verb).kinds s.values (verb_is_word s.verb) plain of;
  texts = texts_of (form s.verb).kinds s.values plain of;
  ranges = of;
  within = within;
})
