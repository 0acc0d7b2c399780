-- A line without its line feed, and what has no line feed.
use Rattle.std.proofs.Common.{◌≡◌, ℕ, zero, suc, ◌-◌, ◌<◌, Bool, true, false, not, eqb, ◌&&◌, List, [], ◌∷◌}
use Rattle.std.proofs.Common.{◌++◌, ◌⊎◌, length, take, drop, refl, sym, ap, ◌∙◌, arith, length-append, get_or, inl, inr}
use Rattle.std.proofs.lemmas.Bool.{or_parts, or_from, and_from}
use Rattle.std.proofs.lemmas.Bool.Decides.{eqb_tells}
use Rattle.std.proofs.Math.Seq.{take-append_seam, take-length, take-suc, get_or-append_seam}
use Rattle.repo_io.specs.Lines.{AreLines, IsOpen, IsWhole, has_feed, lines}
use Rattle.repo_io.proofs.LineLaws.{lines_are_lines}
use Rattle.script_lang.specs.Lines.{ends_with, without_last_octet}
use Rattle.lab_text.specs.LineTexts.{are_one_line_each, is_one_line, without_feed}

-- ---- the last octet

one_shorter : (text : List ℕ) → length (text ++ 10 ∷ []) - 1 ≡ length text
one_shorter text = omega (arith, length-append text (10 ∷ []))

not_none : (n : ℕ) → 0 < n → not (eqb n 0) ≡ true
not_none n more = elim (eqb_tells n 0) [ inl same ↦ absurd (omega (arith, same.1, more)) | inr other ↦ rw other.0 refl ]

at_end : (text : List ℕ) → ends_with 10 (text ++ 10 ∷ []) ≡ true
at_end text =
    let more : 0 < length (text ++ 10 ∷ []) = omega (arith, length-append text (10 ∷ [])) in
    let last : get_or (text ++ 10 ∷ []) (length (text ++ 10 ∷ []) - 1) 0 ≡ 10 =
    ap (λ (n : ℕ). get_or (text ++ 10 ∷ []) n 0) (one_shorter text) ∙ get_or-append_seam text 10 [] 0 in
    and_from _ _ (not_none (length (text ++ 10 ∷ [])) more) (rw last refl)

pub feed_gone : (text : List ℕ) → without_feed (text ++ 10 ∷ []) ≡ text
feed_gone text = rw (at_end text)
    (ap (λ (n : ℕ). take n (text ++ 10 ∷ [])) (one_shorter text) ∙ take-append_seam text (10 ∷ []))

some_length : (n : ℕ) (b : Bool) → (not (eqb n 0) && b) ≡ true → 0 < n
some_length n b e = elim (eqb_tells n 0) [
  | inl same ↦ let none = rw same.0 at e in absurd cc
  | inr other ↦ omega (arith, other.1)
]

last_is : (octets : List ℕ) → ends_with 10 octets ≡ true → octets ≡ without_last_octet octets ++ 10 ∷ []
last_is octets e =
    let more = some_length (length octets) (eqb (get_or octets (length octets - 1) 0) 10) e in
    let inside : length octets - 1 < length octets = omega (arith, more) in
    let all : suc (length octets - 1) ≡ length octets = omega (arith, more) in
    sym (take-length octets) ∙ ap (λ (n : ℕ). take n octets) (sym all) ∙ take-suc octets (length octets - 1) 0 inside
    ∙ ap (λ (x : ℕ). take (length octets - 1) octets ++ x ∷ []) (the_last _ _ e) where
      the_last : (b : Bool) (x : ℕ) → (b && eqb x 10) ≡ true → x ≡ 10
      the_last false x f = absurd cc
      the_last true x f = elim (eqb_tells x 10) [
        | inl same ↦ same.1
        | inr other ↦ let none = rw other.0 at f in absurd cc
      ]

-- a line is its text with a line feed, or its text
pub feed_or_not : (octets : List ℕ) → (octets ≡ without_feed octets ++ 10 ∷ []) ⊎ (without_feed octets ≡ octets)
feed_or_not octets = go (ends_with 10 octets) refl where
  go : (b : Bool) → ends_with 10 octets ≡ b
      → (octets ≡ without_feed octets ++ 10 ∷ []) ⊎ (without_feed octets ≡ octets)
  go true e = inl (rw e (last_is octets e))
  go false e = inr (rw e refl)

-- ---- no line feed

pub free_both : (prefix back : List ℕ) → has_feed prefix ≡ false → has_feed back ≡ false
    → has_feed (prefix ++ back) ≡ false
free_both [] back f g = g
free_both (b ∷ bs) back f g =
    let parts = or_parts (eqb b 10) (has_feed bs) f in
    or_from (eqb b 10) (has_feed (bs ++ back)) parts.0 (free_both bs back parts.1 g)

pub free_take : (n : ℕ) (octets : List ℕ) → has_feed octets ≡ false → has_feed (take n octets) ≡ false
free_take zero octets f = refl
free_take (suc n) [] f = refl
free_take (suc n) (b ∷ bs) f =
    let parts = or_parts (eqb b 10) (has_feed bs) f in
    or_from (eqb b 10) (has_feed (take n bs)) parts.0 (free_take n bs parts.1)

pub free_drop : (n : ℕ) (octets : List ℕ) → has_feed octets ≡ false → has_feed (drop n octets) ≡ false
free_drop zero octets f = f
free_drop (suc n) [] f = refl
free_drop (suc n) (b ∷ bs) f = free_drop n bs (or_parts (eqb b 10) (has_feed bs) f).1

feed_there : (text : List ℕ) → has_feed (text ++ 10 ∷ []) ≡ true
feed_there [] = refl
feed_there (b ∷ bs) = elim (eqb_tells b 10) [ inl same ↦ rw same.0 refl | inr other ↦ rw other.0 (feed_there bs) ]

pub free_is_text : (octets : List ℕ) → has_feed octets ≡ false → without_feed octets ≡ octets
free_is_text octets free = elim (feed_or_not octets) [
  | inl feed ↦ let there = rw (← feed) at (feed_there (without_feed octets)) in absurd cc
  | inr none ↦ none
]

-- ---- lines are one line each

pub free_of : (line : List ℕ) → is_one_line line ≡ true → has_feed (without_feed line) ≡ false
free_of line one = go (has_feed (without_feed line)) one where
  go : (b : Bool) → not b ≡ true → b ≡ false
  go true e = absurd cc
  go false e = refl

pub whole_is_one : (line : List ℕ) → IsWhole line → is_one_line line ≡ true
whole_is_one line w = rw (w.is, feed_gone w.prefix, w.free) refl

open_is_one : (line : List ℕ) → IsOpen line → is_one_line line ≡ true
open_is_one line o = rw (free_is_text line o.free, o.free) refl

each_is_one : (ls : List (List ℕ)) → AreLines ls → are_one_line_each ls ≡ true
each_is_one [] a = refl
each_is_one (line ∷ []) (inl w) = rw (whole_is_one line w) refl
each_is_one (line ∷ []) (inr o) = rw (open_is_one line o) refl
each_is_one (line ∷ next ∷ ls) a = rw (whole_is_one line a.0) (each_is_one (next ∷ ls) a.1)

pub lines_are_one_each : (input : List ℕ) → are_one_line_each (lines input) ≡ true
lines_are_one_each input = each_is_one (lines input) (lines_are_lines input)
