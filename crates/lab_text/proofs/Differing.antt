-- Where the lines of two texts differ.
use Rattle.std.proofs.Common.{◌≡◌, ℕ, Bool, true, false, not, List, [], ◌∷◌, ◌++◌, map, refl, ap, ◌∙◌}
use Rattle.std.specs.Prelude.{reverse}
use Rattle.std.specs.Str.{bytes_eq}
use Rattle.std.proofs.lemmas.List.{reverse-append, reverse-reverse}
use Rattle.repo_io.specs.Lines.{lines}
use Rattle.lab_text.specs.LineTexts.{line_texts, without_feed}
use Rattle.lab_text.specs.Differences.{after_common_prefix, before_common_suffix, difference, reversed}

alike : (b : Bool) → not b ≡ false → b ≡ true
alike true e = refl
alike false e = absurd cc

unlike : (b : Bool) → not b ≡ true → b ≡ false
unlike true e = absurd cc
unlike false e = refl

-- ---- from the first line on

pub first_same : (a b a2 b2 line other : List ℕ) → lines a ≡ line ∷ lines a2 → lines b ≡ other ∷ lines b2
    → not (bytes_eq (without_feed line) (without_feed other)) ≡ false
    → after_common_prefix (line_texts a) (line_texts b) ≡ after_common_prefix (line_texts a2) (line_texts b2)
unfolding after_common_prefix
first_same a b a2 b2 line other e f same = rw (e, f, alike _ same) refl

pub first_other : (a b a2 b2 line other : List ℕ) → lines a ≡ line ∷ lines a2 → lines b ≡ other ∷ lines b2
    → not (bytes_eq (without_feed line) (without_feed other)) ≡ true
    → after_common_prefix (line_texts a) (line_texts b) ≡ difference (line_texts a) (line_texts b)
unfolding after_common_prefix
first_other a b a2 b2 line other e f else = rw (e, f, unlike _ else) refl

left_ended : (ts : List (List ℕ)) → after_common_prefix [] ts ≡ difference [] ts
unfolding after_common_prefix
left_ended ts = refl

right_ended : (ts : List (List ℕ)) → after_common_prefix ts [] ≡ difference ts []
unfolding after_common_prefix
right_ended [] = refl
right_ended (t ∷ ts) = refl

pub none_left : (a b : List ℕ) → a ≡ []
    → after_common_prefix (line_texts a) (line_texts b) ≡ difference (line_texts a) (line_texts b)
unfolding lines
none_left a b e = rw e (left_ended (line_texts b))

pub none_right : (a b : List ℕ) → b ≡ []
    → after_common_prefix (line_texts a) (line_texts b) ≡ difference (line_texts a) (line_texts b)
unfolding lines
none_right a b e = rw e (right_ended (line_texts a))

-- ---- from the last line on

texts_last : (xs : List (List ℕ)) (x : List ℕ)
    → reverse (map without_feed (xs ++ x ∷ [])) ≡ without_feed x ∷ reverse (map without_feed xs)
texts_last xs x = ap reverse (map_last xs) ∙ reverse-append (map without_feed xs) (without_feed x ∷ []) where
  map_last : (ys : List (List ℕ)) → map without_feed (ys ++ x ∷ []) ≡ map without_feed ys ++ without_feed x ∷ []
  map_last [] = refl
  map_last (y ∷ ys) = ap (λ (zs : List (List ℕ)). without_feed y ∷ zs) (map_last ys)

pub last_same : (a b a2 b2 line other : List ℕ) → lines a ≡ lines a2 ++ line ∷ [] → lines b ≡ lines b2 ++ other ∷ []
    → not (bytes_eq (without_feed line) (without_feed other)) ≡ false
    → before_common_suffix (difference (line_texts a) (line_texts b))
    ≡ before_common_suffix (difference (line_texts a2) (line_texts b2))
unfolding after_common_prefix
last_same a b a2 b2 line other e f same =
    rw (e, f, texts_last (lines a2) line, texts_last (lines b2) other, alike _ same) refl

unreversed : (xs ys : List (List ℕ)) → reversed (difference (reverse xs) (reverse ys)) ≡ difference xs ys
unreversed xs ys = rw (reverse-reverse xs, reverse-reverse ys) refl

pub last_other : (a b a2 b2 line other : List ℕ) → lines a ≡ lines a2 ++ line ∷ []
    → lines b ≡ lines b2 ++ other ∷ [] → not (bytes_eq (without_feed line) (without_feed other)) ≡ true
    → before_common_suffix (difference (line_texts a) (line_texts b)) ≡ difference (line_texts a) (line_texts b)
unfolding after_common_prefix
last_other a b a2 b2 line other e f else = ap reversed before ∙ unreversed (line_texts a) (line_texts b) where
  before : after_common_prefix (reverse (line_texts a)) (reverse (line_texts b))
      ≡ difference (reverse (line_texts a)) (reverse (line_texts b))
  before = rw (e, f, texts_last (lines a2) line, texts_last (lines b2) other, unlike _ else) refl

pub none_before_left : (a b : List ℕ) → a ≡ []
    → before_common_suffix (difference (line_texts a) (line_texts b)) ≡ difference (line_texts a) (line_texts b)
unfolding lines
none_before_left a b e =
    rw e (ap reversed (left_ended (reverse (line_texts b))) ∙ unreversed [] (line_texts b))

pub none_before_right : (a b : List ℕ) → b ≡ []
    → before_common_suffix (difference (line_texts a) (line_texts b)) ≡ difference (line_texts a) (line_texts b)
unfolding lines
none_before_right a b e =
    rw e (ap reversed (right_ended (reverse (line_texts a))) ∙ unreversed (line_texts a) [])
