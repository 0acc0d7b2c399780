-- A word is read as a value just where it is a text of the value.
use Rattle.std.proofs.Common.{zero, suc, ◌≡◌, ◌≢◌, ◌<◌, ◌≤◌, ◌^◌, ℕ, Bool, true, false, ◌&&◌, List, [], ◌∷◌, ◌++◌}
use Rattle.std.proofs.Common.{length, get_or, nat_le, Option, Some, None, Result, Ok, Err, codes, if◌then◌else◌, refl}
use Rattle.std.proofs.Common.{sym, ap, subst, ◌∙◌, arith}
use Rattle.std.specs.Prelude.{◌↔◌, replicate, option_and_then}
use Rattle.std.specs.Fmt.{decimal}
use Rattle.std.specs.Char.{is_ascii_digit}
use Rattle.std.specs.List.{list_all, list_any}
use Rattle.std.proofs.lemmas.List.{length-replicate}
use Rattle.std.proofs.lemmas.Bool.{false≢true}
use Rattle.std.proofs.lemmas.Bool.Decides.{nat_tests}
use Rattle.std.proofs.lemmas.Slice.Eq.{bytes_eq-Decides}
use Rattle.std.specs.Str.{bytes_eq}
use Rattle.std.specs.Str.Parse.{digits_value}
use Rattle.hex.specs.Hex.{decode_of}
use Rattle.hex.specs.declared.error.FromHexError.{FromHexError}
use Rattle.ndn_name.specs.Names.{Component, encoding}
use Rattle.ndn_name.specs.UriText.{after_word, cut_at, is_digest, name_of_text, plain_name, plain_name_of_text}
use Rattle.ndn_name.specs.Uri.{IsDigits}
use Rattle.script_lang.specs.declared.line_fault.LineFault.{LineFault}
use Rattle.script_lang.specs.declared.line_fault.LineFault.TheVariants.{Syntax, Limit}
use Rattle.script_lang.specs.Kinds.{Kind, LABEL, PUBLISHER, N, URI, HEX, CONTENT, Value, Text, Anyone, Number, Named}
use Rattle.script_lang.specs.Kinds.{Octets, word_of, publisher_of}
use Rattle.script_lang.specs.Kinds.{mapped, is_label, label_of, is_numeral, numeral_of, octets_within, decoded_within}
use Rattle.script_lang.specs.Kinds.{hex_of, filled, filled_of, content_by, content_of, name_within, uri_of}
use Rattle.script_lang.specs.Texts.{IsOfKind, IsWordText, IsContentText, plain, digits, filled as fills}
use Rattle.script_lang.proofs.Conditions.{chosen, never, same_ok, and_left, and_right, le_test, le_tested}
use Rattle.script_lang.proofs.Numerals.{below_limit, printed_again, decimal_numeral, decimal_value}
use Rattle.script_lang.proofs.HexTexts.{digits_decoded, decoded_digits}
use Rattle.script_lang.proofs.Cuts.{cut_found, cut_is}
use Rattle.ndn_name.proofs.ComputedNames.{is_after, texts-computed}
use Rattle.ndn_name.proofs.ComputedValues.{decimal_digits}

mapped_ok : {A B : Type 0} (f : A → B) (r : Result A LineFault) (v : B) → mapped f r ≡ Ok v
    → (x : A) × (r ≡ Ok x) × (v ≡ f x)
mapped_ok f (Ok x) v h = (x, refl, sym (same_ok _ _ h))
mapped_ok f (Err e) v h = never e v h

-- ---- labels

label_ok : (word label : List ℕ) → label_of word ≡ Ok label → (is_label word ≡ true) × (label ≡ word)
unfolding label_of
label_ok word label h = chosen (is_label word) (Ok word) (Err Syntax) label h
    (λ p q. (p, sym (same_ok word label q))) (λ p q. never Syntax label q)

read_label : (word : List ℕ) (value : Value) → word_of LABEL word ≡ Ok value
    → IsOfKind LABEL value × IsWordText LABEL value word
read_label word value h =
    let m = mapped_ok Text (label_of word) value h in
    let l = label_ok word m.0 m.1 in
    rw (m.2, l.1) (l.0, refl)

-- ---- publishers

read_publisher : (word : List ℕ) (value : Value) → word_of PUBLISHER word ≡ Ok value
    → IsOfKind PUBLISHER value × IsWordText PUBLISHER value word
unfolding publisher_of
read_publisher word value h =
    chosen (bytes_eq word (codes "*")) (Ok Anyone) (mapped Text (label_of word)) value h
    (λ p q. subst (λ v. IsOfKind PUBLISHER v × IsWordText PUBLISHER v word) (same_ok Anyone value q)
    (tt, (bytes_eq-Decides word (codes "*")).0 p))
    (λ p q. (let m = mapped_ok Text (label_of word) value q in
    let l = label_ok word m.0 m.1 in
    rw (m.2, l.1) (l.0, refl)))

-- `*` is no label.
is_other : (label : List ℕ) → is_label label ≡ true → (b : Bool) → bytes_eq label (codes "*") ≡ b → b ≡ false
is_other label of false e = refl
is_other label of true e =
    absurd (false≢true (ap is_label (sym ((bytes_eq-Decides label (codes "*")).0 e)) ∙ of))

-- ---- numbers

number_ok : (least most : ℕ) (word : List ℕ) (n : ℕ) → numeral_of least most word ≡ Ok n
    → (is_numeral word ≡ true) × (least ≤ digits_value 10 word) × (digits_value 10 word ≤ most) ×
    (n ≡ digits_value 10 word)
unfolding numeral_of
number_ok least most word n h =
    chosen (is_numeral word) (if nat_le least (digits_value 10 word) && nat_le
    (digits_value 10 word) most then Ok (digits_value 10 word) else Err Limit) (Err Syntax) n h
    (λ p q. chosen (nat_le least (digits_value 10 word) && nat_le (digits_value 10 word) most)
    (Ok (digits_value 10 word)) (Err Limit) n q
    (λ r s. (
      p,
      le_tested least (digits_value 10 word) (and_left _ _ r),
      le_tested
          (digits_value 10 word) most (and_right _ _ r),
      sym (same_ok _ _ s),
    ))
    (λ r s. never Limit n s))
    (λ p q. never Syntax n q)

read_number : (least most : ℕ) (word : List ℕ) (value : Value) → word_of (N least most) word ≡ Ok value
    → IsOfKind (N least most) value × IsWordText (N least most) value word
read_number least most word value h =
    let m = mapped_ok Number (numeral_of least most word) value h in
    let l = number_ok least most word m.0 m.1 in
    rw (m.2, l.3) ((l.1, l.2), (below_limit word l.0, sym (printed_again word l.0)))

-- ---- names

plain_ok : (text : List ℕ) (name : List Component) → plain_name_of_text text ≡ Some name
    → (name_of_text text ≡ Some name) × (list_any is_digest name ≡ false)
plain_ok text name h = go (name_of_text text) refl h where
  pass : (b : Bool) (n : List Component) → list_any is_digest n ≡ b → (if b then None else Some n) ≡ Some name
      → (Some n ≡ Some name) × (list_any is_digest name ≡ false)
  pass true n e k = cc
  pass false n e k = (k, let s : n ≡ name = cc in rw (sym s) e)

  go : (o : Option (List Component)) → name_of_text text ≡ o → option_and_then plain_name o ≡ Some name
      → (name_of_text text ≡ Some name) × (list_any is_digest name ≡ false)
  go None e k = cc
  go (Some n) e k = let p = pass (list_any is_digest n) n refl k in (e ∙ p.0, p.1)

within_ok : (least most : ℕ) (o : Option (List Component)) (name : List Component)
    → name_within least most o ≡ Ok name
    → (o ≡ Some name) × (least ≤ length (encoding name)) × (length (encoding name) ≤ most)
within_ok least most None name h = never Syntax name h
within_ok least most (Some n) name h =
    chosen (nat_le least (length (encoding n)) && nat_le (length (encoding n)) most) (Ok n) (Err Limit) name h
    (λ r s. (let e : n ≡ name = same_ok n name s in
    rw (← e) (
      refl,
      le_tested least (length (encoding n)) (and_left _ _ r),
      le_tested
          (length (encoding n)) most (and_right _ _ r),
    )))
    (λ r s. never Limit name s)

read_name : (least most : ℕ) (word : List ℕ) (value : Value) → word_of (URI least most) word ≡ Ok value
    → IsOfKind (URI least most) value × IsWordText (URI least most) value word
unfolding uri_of
read_name least most word value h =
    let m = mapped_ok Named (uri_of least most word) value h in
    let w = within_ok least most (plain_name_of_text word) m.0 m.1 in
    let p = plain_ok word m.0 w.0 in
    rw m.2 ((p.1, w.1, w.2), (texts-computed word m.0).0 p.0)

-- ---- octets

many_ok : (least most : ℕ) (octets found : List ℕ) → octets_within least most octets ≡ Ok found
    → (octets ≡ found) × (least ≤ length found) × (length found ≤ most)
many_ok least most octets found h =
    chosen (nat_le least (length octets) && nat_le (length octets) most) (Ok octets) (Err Limit) found h
    (λ r s. (let e : octets ≡ found = same_ok octets found s in
    rw (← e) (
      refl,
      le_tested least (length octets) (and_left _ _ r),
      le_tested (length octets) most
          (and_right _ _ r),
    )))
    (λ r s. never Limit found s)

decoded_ok : (least most : ℕ) (r : Result (List ℕ) FromHexError) (found : List ℕ)
    → decoded_within least most r ≡ Ok found → (r ≡ Ok found) × (least ≤ length found) ×
    (length found ≤ most)
decoded_ok least most (Ok octets) found h = let m = many_ok least most octets found h in rw m.0 (refl, m.1, m.2)
decoded_ok least most (Err e) found h = never Syntax found h

hex_ok : (least most : ℕ) (word octets : List ℕ) → hex_of least most word ≡ Ok octets
    → IsDigits octets word × (least ≤ length octets) × (length octets ≤ most)
unfolding hex_of
hex_ok least most word octets h =
    let d = decoded_ok least most (decode_of word) octets h in
    (decoded_digits word octets d.0, d.1, d.2)

read_hex : (most : ℕ) (word : List ℕ) (value : Value) → word_of (HEX most) word ≡ Ok value
    → IsOfKind (HEX most) value × IsWordText (HEX most) value word
read_hex most word value h =
    let m = mapped_ok Octets (hex_of 1 most word) value h in
    let x = hex_ok 1 most word m.0 m.1 in
    rw m.2 ((x.1, x.2), x.0)

-- ---- contents

filled_ok : (least most : ℕ) (o : Option (List ℕ × List ℕ)) (octets counts : List ℕ)
    → ((x : List ℕ × List ℕ) → o ≡ Some x → counts ≡ x.0 ++ 58 ∷ x.1) → filled least most o ≡ Ok
    octets
    → IsContentText octets (codes "fill:" ++ counts) × (least ≤ length octets) × (length octets ≤ most)
filled_ok least most None octets counts cut h = never Syntax octets h
filled_ok least most (Some x) octets counts cut h =
    chosen (is_numeral x.0 && is_numeral x.1) (if nat_le least (digits_value 10 x.0) && nat_le
    (digits_value 10 x.0) most && nat_le (digits_value 10 x.1) 255 then Ok
    (replicate (digits_value 10 x.0) (digits_value 10 x.1)) else Err Limit) (Err Syntax) octets h
    (λ p q. chosen (nat_le least (digits_value 10 x.0) && nat_le (digits_value 10 x.0) most && nat_le
    (digits_value 10 x.1) 255) (Ok (replicate (digits_value 10 x.0) (digits_value 10 x.1))) (Err Limit) octets q
    (λ r s. (let a = and_left (is_numeral x.0) _ p in
    let b = and_right (is_numeral x.0) _ p in
    let e : octets ≡ replicate (digits_value 10 x.0) (digits_value 10 x.1) = sym (same_ok _ octets s) in
    let l : length octets ≡ digits_value 10 x.0 = ap length e
    ∙ length-replicate (digits_value 10 x.0) (digits_value 10 x.1) in
    let prefix = and_left (nat_le least (digits_value 10 x.0) && nat_le (digits_value 10 x.0) most) _ r in
    let low : least ≤ digits_value 10 x.0 = le_tested least (digits_value 10 x.0) (and_left _ _ prefix) in
    let high : digits_value 10 x.0 ≤ most = le_tested (digits_value 10 x.0) most (and_right _ _ prefix) in (
      fills (digits_value 10 x.0) (digits_value 10 x.1) (below_limit x.0 a)
          (le_tested (digits_value 10 x.1) 255 (and_right _ _ r)) e
          (ap (λ t. codes "fill:" ++ t) (cut x refl ∙ rw
          (printed_again x.0 a, printed_again x.1 b) refl)),
      omega (arith, low, l),
      omega (arith, high, l),
    )))
    (λ r s. never Limit octets s))
    (λ p q. never Syntax octets q)

content_ok : (least most : ℕ) (word octets : List ℕ) → content_of least most word ≡ Ok octets
    → IsContentText octets word × (least ≤ length octets) × (length octets ≤ most)
unfolding content_of filled_of
content_ok least most word octets h = go (after_word (codes "text:") word) refl
    (after_word (codes "hex:") word) refl (after_word (codes "fill:") word) refl h where
      go : (a : Option (List ℕ)) → after_word (codes "text:") word ≡ a → (b : Option (List ℕ))
          → after_word (codes "hex:") word ≡ b → (c : Option (List ℕ)) → after_word (codes "fill:") word ≡ c
          → content_by least most a b c ≡ Ok octets
          → IsContentText octets word × (least ≤ length octets) × (length octets ≤ most)
      go (Some text) p b q c r k =
          let m = many_ok least most text octets k in
          (plain (is_after (codes "text:") word text p ∙ ap (λ t. codes "text:" ++ t) m.0), m.1, m.2)
      go None p (Some tail) q c r k =
          let x = hex_ok least most tail octets k in
          (digits tail (is_after (codes "hex:") word tail q) x.0, x.1, x.2)
      go None p None q (Some counts) r k =
          let f = filled_ok least most (cut_at 58 counts) octets counts (cut_is 58 counts) k in
          subst (λ t. IsContentText octets t × (least ≤ length octets) × (length octets ≤ most))
          (sym (is_after (codes "fill:") word counts r)) f
      go None p None q None r k = never Syntax octets k

read_content : (least most : ℕ) (word : List ℕ) (value : Value) → word_of (CONTENT least most) word ≡ Ok value
    → IsOfKind (CONTENT least most) value × IsWordText (CONTENT least most) value word
read_content least most word value h =
    let m = mapped_ok Octets (content_of least most word) value h in
    let x = content_ok least most word m.0 m.1 in
    rw m.2 ((x.1, x.2), x.0)

pub word_is_text : (kind : Kind) (value : Value) (word : List ℕ) → word_of kind word ≡ Ok value
    → IsOfKind kind value × IsWordText kind value word
word_is_text LABEL value word h = read_label word value h
word_is_text PUBLISHER value word h = read_publisher word value h
word_is_text (N least most) value word h = read_number least most word value h
word_is_text (URI least most) value word h = read_name least most word value h
word_is_text (HEX most) value word h = read_hex most word value h
word_is_text (CONTENT least most) value word h = read_content least most word value h

-- ---- and back

digit_other : (c : ℕ) → is_ascii_digit c ≡ true → c ≢ 58
digit_other c h = grind (arith, nat_tests)

no_colon : (ds : List ℕ) → list_all is_ascii_digit ds ≡ true →
    (i : ℕ) → i < length ds → get_or ds i 0 ≢ 58
no_colon [] h i lt = absurd (omega arith)
no_colon (c ∷ cs) h zero lt = digit_other c (and_left (is_ascii_digit c) _ h)
no_colon (c ∷ cs) h (suc i) lt = no_colon cs (and_right (is_ascii_digit c) _ h) i (omega arith)

filled_text : (least most count octet : ℕ) → count < 10 ^ 18 → octet ≤ 255 → least ≤ count → count ≤
    most
    → filled_of least most (decimal count ++ 58 ∷ decimal octet) ≡ Ok (replicate count octet)
unfolding filled_of
filled_text least most count octet small byte low high =
    let n : count < 2 ^ 64 = omega arith in
    let m : octet < 10 ^ 18 = omega arith in
    rw (
      cut_found 58 (decimal count) (decimal octet)
          (no_colon (decimal count) (decimal_digits count n)),
      decimal_numeral count small,
      decimal_numeral octet m,
      decimal_value count small,
      decimal_value octet m,
      le_test least count
          low,
      le_test count most high,
      le_test octet 255 byte,
    ) refl

content_is : (least most : ℕ) (octets word : List ℕ) → IsContentText octets word → least ≤ length octets
    → length octets ≤ most → content_of least most word ≡ Ok octets
unfolding content_of after_word hex_of
content_is least most octets word (plain e) low high = rw
    (e, le_test least (length octets) low, le_test (length octets) most high) refl
content_is least most octets word (digits tail e d) low high = rw
    (e, digits_decoded tail octets d, le_test least (length octets) low, le_test (length octets) most high) refl
content_is least most octets word (fills count octet small byte is e) low high =
    let l : length octets ≡ count = ap length is ∙ length-replicate count octet in
    let a : least ≤ count = omega arith in
    let b : count ≤ most = omega arith in
    rw (e, is) (filled_text least most count octet small byte a b)

pub text_is_word : (kind : Kind) (value : Value) (word : List ℕ) → IsOfKind kind value → IsWordText kind value word
    → word_of kind word ≡ Ok value
unfolding label_of publisher_of numeral_of uri_of hex_of
text_is_word LABEL (Text label) word of text = rw (text, of) refl
text_is_word PUBLISHER (Text label) word of text = rw (text, is_other label of _ refl, of) refl
text_is_word PUBLISHER Anyone word of text = rw text refl
text_is_word (N least most) (Number n) word of text = rw
    (text.1, decimal_numeral n text.0, decimal_value n text.0, le_test least n of.0, le_test n most of.1) refl
text_is_word (URI least most) (Named name) word of text = rw (
  (texts-computed word name).1 text,
  of.0,
  le_test least (length (encoding name)) of.1,
  le_test
      (length (encoding name)) most of.2,
) refl
text_is_word (HEX most) (Octets octets) word of text = rw
    (digits_decoded word octets text, le_test 1 (length octets) of.0, le_test (length octets) most of.1) refl
text_is_word (CONTENT least most) (Octets octets) word of text = ap (mapped Octets)
    (content_is least most octets word text of.0 of.1)
text_is_word kind value word of text = absurd of

pub word_texts : (kind : Kind) (value : Value) (word : List ℕ)
    → (word_of kind word ≡ Ok value) ↔ (IsOfKind kind value × IsWordText kind value word)
word_texts kind value word = (word_is_text kind value word, λ h. text_is_word kind value word h.0 h.1)
