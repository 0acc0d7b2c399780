-- Octets are read as a line just where they are a text of it.
use Rattle.std.proofs.Common.{lit<, ◌≡◌, ◌+◌, ◌-◌, ◌<◌, ◌≤◌, ℕ, zero, suc, Bool, true, false, not, eqb, eq-eqb, List}
use Rattle.std.proofs.Common.{[], ◌∷◌, ◌++◌, length, take, slice_index, nat_le, Option, Some, None, Result, Ok, Err}
use Rattle.std.proofs.Common.{if◌then◌else◌, refl, sym, ap, subst, ◌∙◌, arith, length-append}
use Rattle.std.specs.Prelude.{◌↔◌, replicate}
use Rattle.std.specs.List.{list_all}
use Rattle.std.proofs.lemmas.Bool.{and_from}
use Rattle.std.proofs.lemmas.Bool.Decides.{nat_tests}
use Rattle.std.proofs.Math.Seq.{get_or-append_seam, take-append_seam, take-suc, take-length}
use Rattle.script_lang.specs.declared.line_fault.LineFault.{LineFault}
use Rattle.script_lang.specs.declared.line_fault.LineFault.TheVariants.{Syntax, Limit, NoMemory}
use Rattle.script_lang.specs.declared.verb.Verb.{Verb}
use Rattle.script_lang.specs.Limits.{line_octets}
use Rattle.script_lang.specs.Kinds.{Kind, Value, word_of}
use Rattle.script_lang.specs.Forms.{Stated, form, statement}
use Rattle.script_lang.specs.Lines.{word_then, values_of, are_within, stated_of, verb_of_word, line_by, line_in_words}
use Rattle.script_lang.specs.Lines.{spaced_words, says_nothing, is_printable, mapped_line, line_in, line_within}
use Rattle.script_lang.specs.Lines.{ends_with, without_last_octet, without_return, line_of}
use Rattle.script_lang.specs.Texts.{AreOf, AreWordTexts, IsSpaced, IsEnded, by_input, by_feed, by_return, IsLineText}
use Rattle.script_lang.proofs.Conditions.{chosen, never, same_ok, and_left, and_right, le_test, le_tested}
use Rattle.script_lang.proofs.Conditions.{same_tested, some_test}
use Rattle.script_lang.proofs.Spaces.{spaced_is, spaced_printable, is_spaced}
use Rattle.script_lang.proofs.FirstWords.{verb_back, verb_word, speaks}
use Rattle.script_lang.proofs.WordTexts.{word_is_text, text_is_word}

-- ---- the words of a form

values_ok : (kinds : List Kind) (words : List (List ℕ)) (values : List Value) → values_of kinds words ≡ Ok values
    → AreOf kinds values × AreWordTexts kinds values words
unfolding values_of
values_ok [] [] values h = rw (sym (same_ok [] values h)) (tt, tt)
values_ok [] (word ∷ words) values h = never Syntax values h
values_ok (kind ∷ kinds) [] values h = never Syntax values h
values_ok (kind ∷ kinds) (word ∷ words) values h = go (word_of kind word) refl
    (values_of kinds words) refl h (values_ok kinds words) where
      go : (r : Result Value LineFault) → word_of kind word ≡ r → (others : Result (List Value) LineFault)
          → values_of kinds words ≡ others → word_then r others ≡ Ok values
          → ((vs : List Value) → values_of kinds words ≡ Ok vs → AreOf kinds vs × AreWordTexts kinds vs words)
          → AreOf (kind ∷ kinds) values × AreWordTexts (kind ∷ kinds) values (word ∷ words)
      go (Ok value) e (Ok vs) f k after =
          let v = word_is_text kind value word e in
          let b = after vs f in
          rw (sym (same_ok (value ∷ vs) values k)) ((v.0, b.0), (v.1, b.1))
      go (Ok value) e (Err fault) f k after = never fault values k
      go (Err Limit) e (Ok vs) f k after = never Limit values k
      go (Err Limit) e (Err fault) f k after = never fault values k
      go (Err Syntax) e others f k after = never Syntax values k
      go (Err NoMemory) e others f k after = never NoMemory values k

values_back : (kinds : List Kind) (values : List Value) (words : List (List ℕ)) → AreOf kinds values
    → AreWordTexts kinds values words → values_of kinds words ≡ Ok values
unfolding values_of
values_back [] [] [] of texts = refl
values_back (kind ∷ kinds) (value ∷ values) (word ∷ words) of texts = rw
    (text_is_word kind value word of.0 texts.0, values_back kinds values words of.1 texts.1) refl
values_back [] [] (word ∷ words) of texts = absurd texts
values_back [] (value ∷ values) words of texts = absurd of
values_back (kind ∷ kinds) [] words of texts = absurd of
values_back (kind ∷ kinds) (value ∷ values) [] of texts = absurd texts

record AreWordsOf (s : Stated) (words : List (List ℕ)) : Type 0 where
  others : List (List ℕ)
  are : words ≡ (form s.verb).word ∷ others
  texts : AreWordTexts (form s.verb).kinds s.values others
  ranges : AreOf (form s.verb).kinds s.values
  within : are_within s.verb s.values ≡ true

words_ok : (words : List (List ℕ)) (s : Stated) → line_in_words words ≡ Ok s → AreWordsOf s words
words_ok [] s h = never Syntax s h
words_ok (word ∷ words) s h = by_verb (verb_of_word word) refl h where
  by_values : (verb : Verb) → verb_of_word word ≡ Some verb → (r : Result (List Value) LineFault)
      → values_of (form verb).kinds words ≡ r → stated_of verb r ≡ Ok s → AreWordsOf s (word ∷ words)
  by_values verb e (Err fault) f k = never fault s k
  by_values verb e (Ok values) f k = chosen (are_within verb values) (Ok (statement verb values)) (Err Limit) s k
      (λ w q. (let v = values_ok (form verb).kinds words values f in
      let same : statement verb values ≡ s = same_ok (statement verb values) s q in
      let here : AreWordsOf (statement verb values) (word ∷ words) = record {
        others = words;
        are = ap (λ (x : List ℕ). x ∷ words)
            (verb_word word verb e);
        texts = v.1;
        ranges = v.0;
        within = w;
      } in
      subst (λ (x : Stated). AreWordsOf x (word ∷ words)) same here))
      (λ w q. never Limit s q)

  by_verb : (o : Option Verb) → verb_of_word word ≡ o → line_by words o ≡ Ok s → AreWordsOf s (word ∷ words)
  by_verb None e k = never Syntax s k
  by_verb (Some verb) e k = by_values verb e (values_of (form verb).kinds words) refl k

words_back : (s : Stated) (others : List (List ℕ)) → AreWordTexts (form s.verb).kinds s.values others
    → AreOf (form s.verb).kinds s.values → are_within s.verb s.values ≡ true
    → line_in_words ((form s.verb).word ∷ others) ≡ Ok s
words_back s others texts ranges within = rw (
  verb_back s.verb,
  values_back
      (form s.verb).kinds s.values others ranges texts,
  within,
) refl

-- ---- the body of a line

record IsRead (s : Stated) (octets body : List ℕ) : Type 0 where
  fits : length octets ≤ line_octets
  printable : list_all is_printable body ≡ true
  words : line_in_words (spaced_words body) ≡ Ok s

line_ok : (r : Result Stated LineFault) (s : Stated) → mapped_line r ≡ Ok (Some s) → r ≡ Ok s
line_ok (Ok x) s h = (let e : x ≡ s = cc in ap (λ y. Ok y) e)
line_ok (Err fault) s h = never fault (Some s) h

none_read : {P : Type 0} (s : Stated) → ◌≡◌ {A = Result (Option Stated) LineFault} (Ok None) (Ok (Some s)) → P
none_read s h = cc

body_ok : (octets body : List ℕ) (s : Stated) → line_within octets body ≡ Ok (Some s) → IsRead s octets body
body_ok octets body s h =
    chosen (nat_le (length octets) line_octets) (line_in body) (Err Limit) (Some s) h
    (λ fits q. chosen (says_nothing body) (Ok None)
    (if list_all is_printable body then mapped_line (line_in_words (spaced_words body)) else Err Syntax) (Some s) q
    (λ _ r. none_read s r)
    (λ _ r.
    chosen (list_all is_printable body) (mapped_line (line_in_words (spaced_words body))) (Err Syntax) (Some s) r
    (λ p x. record {
      fits = le_tested (length octets) line_octets fits;
      printable = p;
      words = line_ok
          (line_in_words (spaced_words body)) s x;
    })
    (λ _ x. never Syntax (Some s) x)))
    (λ _ q. never Limit (Some s) q)

line_text : (s : Stated) (octets line body : List ℕ) → IsRead s line body → IsEnded body octets →
    IsLineText s octets
line_text s octets line body read ended =
    let w = words_ok (spaced_words body) s read.words in
    record {
      body = body;
      words = w.others;
      ended = ended;
      spaced = subst (λ ws. IsSpaced ws body) w.are (is_spaced body read.printable);
      texts = w.texts;
      ranges = w.ranges;
      within = w.within;
    }

-- ---- the end of a line

some_length : (n : ℕ) → not (eqb n 0) ≡ true → 0 < n
some_length n h = grind (arith, nat_tests)

ends_is : (c : ℕ) (octets : List ℕ) → ends_with c octets ≡ true → octets ≡ without_last_octet octets ++ c ∷ []
ends_is c octets h =
    let some = and_left (not (eqb (length octets) 0)) _ h in
    let last : slice_index octets (length octets - 1) ≡ c =
    same_tested (slice_index octets (length octets - 1)) c (and_right _ _ h) in
    let more : 0 < length octets = some_length (length octets) some in
    let inside : length octets - 1 < length octets = omega arith in
    let all : suc (length octets - 1) ≡ length octets = omega arith in
    sym (take-length octets) ∙ ap (λ n. take n octets) (sym all) ∙ take-suc octets (length octets - 1) 0 inside
    ∙ ap (λ (x : ℕ). take (length octets - 1) octets ++ x ∷ []) last

line_is_text : (s : Stated) (octets : List ℕ) → line_of octets ≡ Ok (Some s) → IsLineText s octets
line_is_text s octets h =
    chosen (ends_with 10 octets) (line_within (without_last_octet octets)
    (without_return (without_last_octet octets))) (line_within octets octets) (Some s) h
    (λ feed q. with_feed feed (ends_with 13 (without_last_octet octets)) refl q)
    (λ _ q. (let r = body_ok octets octets s q in line_text s octets octets octets r (by_input refl r.fits)))
  where
    with_feed : ends_with 10 octets ≡ true → (b : Bool) → ends_with 13 (without_last_octet octets) ≡ b
        → line_within (without_last_octet octets) (if b then without_last_octet
        (without_last_octet octets) else without_last_octet octets) ≡ Ok (Some s) → IsLineText s octets
    with_feed feed false e q =
        let r = body_ok (without_last_octet octets) (without_last_octet octets) s q in
        line_text s octets (without_last_octet octets) (without_last_octet octets) r
        (by_feed (ends_is 10 octets feed) r.fits)
    with_feed feed true e q =
        let r = body_ok (without_last_octet octets) (without_last_octet (without_last_octet octets)) s q in
        let is = ends_is 13 (without_last_octet octets) e in
        let long : length (without_last_octet (without_last_octet octets)) + 1 ≤ line_octets = omega
        (arith, ap length is, length-append (without_last_octet (without_last_octet octets)) (13 ∷ []), r.fits) in
        line_text s octets (without_last_octet octets) (without_last_octet (without_last_octet octets)) r
        (by_return (ends_is 10 octets feed ∙ ap (λ (t : List ℕ). t ++ 10 ∷ []) is) long)

-- ---- and back

one_shorter : (c : ℕ) (prefix : List ℕ) → length (prefix ++ c ∷ []) - 1 ≡ length prefix
one_shorter c prefix = omega (arith, length-append prefix (c ∷ []))

at_end : (c : ℕ) (prefix : List ℕ) → ends_with c (prefix ++ c ∷ []) ≡ true
at_end c prefix =
    let more : 0 < length (prefix ++ c ∷ []) = omega (arith, length-append prefix (c ∷ [])) in
    and_from _ _ (some_test (length (prefix ++ c ∷ [])) more)
    (eq-eqb (slice_index (prefix ++ c ∷ []) (length (prefix ++ c ∷ []) - 1)) c
    (ap (slice_index (prefix ++ c ∷ [])) (one_shorter c prefix) ∙ get_or-append_seam prefix c [] 0))

gone : (c : ℕ) (prefix : List ℕ) → without_last_octet (prefix ++ c ∷ []) ≡ prefix
gone c prefix = ap (λ n. take n (prefix ++ c ∷ [])) (one_shorter c prefix) ∙ take-append_seam prefix (c ∷ [])

-- each element passes what the whole list passes
pub element_at : (p : ℕ → Bool) (xs : List ℕ) (i : ℕ) → list_all p xs ≡ true → i < length xs
    → p (slice_index xs i) ≡ true
element_at p [] i h lt = absurd (omega arith)
element_at p (x ∷ xs) zero h lt = and_left (p x) _ h
element_at p (x ∷ xs) (suc i) h lt = element_at p xs i (and_right (p x) _ h) (omega arith)

unlike : (c d : ℕ) → c < 32 → is_printable d ≡ true → eqb d c ≡ false
unlike c d low h = grind (arith, nat_tests)

no_end : (c : ℕ) (text : List ℕ) → c < 32 → list_all is_printable text ≡ true → ends_with c text ≡ false
no_end c [] low h = refl
no_end c (x ∷ xs) low h = rw (some_test (length (x ∷ xs)) (omega arith))
    (unlike c (slice_index (x ∷ xs) (length (x ∷ xs) - 1)) low
    (element_at is_printable (x ∷ xs) (length (x ∷ xs) - 1) h (omega arith)))

loud : (n : ℕ) (verb : Verb) (rest : List ℕ) → says_nothing
    (replicate n 32 ++ ((form verb).word ++ rest)) ≡ false
loud zero verb rest = speaks verb rest
loud (suc n) verb rest = loud n verb rest

body_back : (s : Stated) (octets : List ℕ) → (h : IsLineText s octets) → line_in h.body ≡ Ok (Some s)
body_back s octets h =
    let quiet : says_nothing h.body ≡ false = ap says_nothing h.spaced.2 ∙ loud h.spaced.0 s.verb h.spaced.1 in
    let printable = spaced_printable ((form s.verb).word ∷ h.words) h.body h.spaced in
    let words : spaced_words h.body ≡ (form s.verb).word ∷ h.words = spaced_is
    ((form s.verb).word ∷ h.words) h.body h.spaced in
    let line : line_in_words ((form s.verb).word ∷ h.words) ≡ Ok s = words_back s h.words h.texts
    h.ranges h.within in
    rw (quiet, printable, words, line) refl

ended_back : (s : Stated) (body octets : List ℕ) → IsEnded body octets → list_all is_printable body ≡ true
    → line_in body ≡ Ok (Some s) → line_of octets ≡ Ok (Some s)
ended_back s body octets (by_input e fits) printable line =
    rw (e, no_end 10 body (lit< tt) printable, le_test (length body) line_octets fits) line
ended_back s body octets (by_feed e fits) printable line =
    rw (
      e,
      at_end 10 body,
      gone 10 body,
      no_end 13 body (lit< tt) printable,
      le_test
          (length body) line_octets fits,
    ) line
ended_back s body octets (by_return e fits) printable line =
    let long : length (body ++ 13 ∷ []) ≤ line_octets = omega (arith, length-append body (13 ∷ [])) in
    rw (
      e,
      at_end 10 (body ++ 13 ∷ []),
      gone 10 (body ++ 13 ∷ []),
      at_end 13 body,
      gone 13 body,
      le_test
          (length (body ++ 13 ∷ [])) line_octets long,
    ) line

text_is_line : (s : Stated) (octets : List ℕ) → IsLineText s octets → line_of octets ≡ Ok (Some s)
text_is_line s octets h = ended_back s h.body octets h.ended
    (spaced_printable ((form s.verb).word ∷ h.words) h.body h.spaced) (body_back s octets h)

pub line_texts : (s : Stated) (octets : List ℕ) → (line_of octets ≡ Ok (Some s)) ↔ IsLineText s octets
line_texts s octets = (line_is_text s octets, text_is_line s octets)
