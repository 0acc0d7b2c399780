-- Words and the spaces between them.
use Rattle.std.proofs.Common.{◌≡◌, ◌⊎◌, ℕ, zero, suc, Bool, true, false, not, eqb, eq-eqb, List, [], ◌∷◌, ◌++◌, length}
use Rattle.std.proofs.Common.{filter, refl, sym, ap, subst, ◌∙◌, arith, inl, inr, append-nil}
use Rattle.std.specs.Prelude.{replicate}
use Rattle.std.specs.List.{list_all, slice_split}
use Rattle.std.proofs.lemmas.Bool.{and_from}
use Rattle.std.proofs.lemmas.Bool.Decides.{nat_tests, eqb_tells}
use Rattle.std.proofs.lemmas.List.Folds.{list_all-append}
use Rattle.script_lang.specs.Lines.{spaced_words, is_printable}
use Rattle.script_lang.specs.Texts.{is_graphic, IsSpaced}
use Rattle.script_lang.proofs.Conditions.{and_left, and_right, some_test, weaker}

abbrev is_space : ℕ → Bool
is_space octet = eqb octet 32

abbrev is_some_word : List ℕ → Bool
is_some_word word = not (eqb (length word) 0)

abbrev pub some_words : List (List ℕ) → List (List ℕ)
some_words words = filter is_some_word words

no_space : (c : ℕ) → is_graphic c ≡ true → is_space c ≡ false
no_space c h = grind (arith, nat_tests)

pub graphic_printable : (c : ℕ) → is_graphic c ≡ true → is_printable c ≡ true
graphic_printable c h = grind (arith, nat_tests)

graphic_or_space : (c : ℕ) → is_printable c ≡ true → is_space c ≡ false → is_graphic c ≡ true
graphic_or_space c h s = grind (arith, nat_tests)

splits : (word rest : List ℕ) → list_all is_graphic word ≡ true
    → slice_split is_space (word ++ 32 ∷ rest) ≡ word ∷ slice_split is_space rest
splits [] rest h = refl
splits (c ∷ cs) rest h = rw (
  no_space c (and_left (is_graphic c) _ h),
  splits cs rest
      (and_right (is_graphic c) _ h),
) refl

split_last : (word : List ℕ) → list_all is_graphic word ≡ true → slice_split is_space word ≡ word ∷ []
split_last [] h = refl
split_last (c ∷ cs) h = rw (
  no_space c (and_left (is_graphic c) _ h),
  split_last cs
      (and_right (is_graphic c) _ h),
) refl

-- ---- words with spaces are split into the words

after_spaces : (n : ℕ) (text : List ℕ) → spaced_words (replicate n 32 ++ text) ≡ spaced_words text
after_spaces zero text = refl
after_spaces (suc n) text = after_spaces n text

pub spaced_is : (words : List (List ℕ)) (text : List ℕ) → IsSpaced words text → spaced_words text ≡ words
spaced_is [] text h = ap spaced_words (h.1 ∙ sym (append-nil (replicate h.0 32))) ∙ after_spaces h.0 []
spaced_is (word ∷ words) text h =
    ap spaced_words h.2 ∙ after_spaces h.0 (word ++ h.1)
    ∙ elim h.4 [
      | inl end ↦ rw (
        end.0,
        end.1,
        append-nil word,
        split_last word h.3.graphic,
        some_test
            (length word) h.3.some,
      ) refl
      | inr more ↦ rw (more.1, splits word more.0 h.3.graphic, some_test (length word) h.3.some)
          (ap (λ (ws : List (List ℕ)). word ∷ ws) (spaced_is words more.0 more.2))
    ]

spaces_printable : (n : ℕ) → list_all is_printable (replicate n 32) ≡ true
spaces_printable zero = refl
spaces_printable (suc n) = spaces_printable n

pub spaced_printable : (words : List (List ℕ)) (text : List ℕ) → IsSpaced words text
    → list_all is_printable text ≡ true
spaced_printable [] text h = rw h.1 (spaces_printable h.0)
spaced_printable (word ∷ words) text h =
    ap (list_all is_printable) h.2
    ∙ list_all-append is_printable (replicate h.0 32) (word ++ h.1)
    ∙ and_from _ _ (spaces_printable h.0)
    (list_all-append is_printable word h.1
    ∙ and_from _ _ (weaker is_graphic is_printable graphic_printable word h.3.graphic)
    (elim h.4 [
      | inl end ↦ rw end.0 refl
      | inr more ↦ rw more.1 (spaced_printable words more.0 more.2)
    ]))

-- ---- and what is split into words is they with spaces

one_space : (words : List (List ℕ)) (text : List ℕ) → IsSpaced words text → IsSpaced words (32 ∷ text)
one_space [] text h = (suc h.0, ap (λ (t : List ℕ). 32 ∷ t) h.1)
one_space (word ∷ words) text h = (suc h.0, h.1, ap (λ (t : List ℕ). 32 ∷ t) h.2, h.3, h.4)

-- the first part of a text, which may be empty, and what is after it
record Begins (text first : List ℕ) (parts : List (List ℕ)) : Type 0 where
  rest : List ℕ
  is : text ≡ first ++ rest
  graphic : list_all is_graphic first ≡ true
  after : ((rest ≡ []) × (parts ≡ [])) ⊎ ((more : List ℕ) × (rest ≡ 32 ∷ more) × IsSpaced
      (some_words parts) more)

-- so that its words are these
begun : (text first : List ℕ) (parts : List (List ℕ)) → Begins text first parts
    → IsSpaced (some_words (first ∷ parts)) text
begun text [] parts b = elim b.after [
  | inl end ↦ (let e : text ≡ [] = b.is ∙ end.0 in rw (e, end.1) (0, refl))
  | inr more ↦ (let e : text ≡ 32 ∷ more.0 = b.is ∙ more.1 in rw e (one_space (some_words parts) more.0 more.2))
]
begun text (c ∷ cs) parts b = let t : is_some_word (c ∷ cs) ≡ true = some_test (length (c ∷ cs))
    (omega arith) in rw t (
      0,
      b.rest,
      b.is,
      record { some = omega arith; graphic = b.graphic },
      elim b.after [
        | inl end ↦ inl (end.0, ap some_words end.1)
        | inr more ↦ inr more
      ],
    )

record Splits (text : List ℕ) : Type 0 where
  first : List ℕ
  parts : List (List ℕ)
  split : slice_split is_space text ≡ first ∷ parts
  begins : Begins text first parts

split_text : (text : List ℕ) → list_all is_printable text ≡ true → Splits text
split_text [] h = record {
  first = [];
  parts = [];
  split = refl;
  begins = record
      { rest = []; is = refl; graphic = refl; after = inl (refl, refl) };
}
split_text (c ∷ cs) h = elim (eqb_tells c 32) [
  | inl p ↦ at_space p.1 (split_text cs (and_right (is_printable c) _ h))
  | inr p ↦ in_word (graphic_or_space c (and_left (is_printable c) _ h) p.0) p.0
      (split_text cs (and_right (is_printable c) _ h))
] where
  at_space : c ≡ 32 → Splits cs → Splits (c ∷ cs)
  at_space e s = record {
    first = [];
    parts = s.first ∷ s.parts;
    split = rw (eq-eqb c 32 e, s.split) refl;
    begins = record {
      rest = c ∷ cs;
      is = refl;
      graphic = refl;
      after = inr
          (cs, ap (λ (x : ℕ). x ∷ cs) e, begun cs s.first s.parts s.begins);
    };
  }

  in_word : is_graphic c ≡ true → is_space c ≡ false → Splits cs → Splits (c ∷ cs)
  in_word g other s = record {
    first = c ∷ s.first;
    parts = s.parts;
    split = rw (other, s.split) refl;
    begins = record {
      rest = s.begins.rest;
      is = ap
          (λ (t : List ℕ). c ∷ t) s.begins.is;
      graphic = and_from _ _ g s.begins.graphic;
      after = s.begins.after;
    };
  }

pub is_spaced : (text : List ℕ) → list_all is_printable text ≡ true → IsSpaced (spaced_words text) text
is_spaced text h = let s = split_text text h in subst (λ ws. IsSpaced (some_words ws) text)
    (sym s.split) (begun text s.first s.parts s.begins)
