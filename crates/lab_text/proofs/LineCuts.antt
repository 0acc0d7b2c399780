-- How octets are cut into lines.
use Rattle.std.proofs.Common.{◌≡◌, ◌≢◌, ℕ, suc, ◌+◌, ◌<◌, Bool, true, false, cond, eqb, List, [], ◌∷◌, ◌++◌, length}
use Rattle.std.proofs.Common.{take, drop, Some, None, position, refl, sym, ap, ◌∙◌, arith, subst}
use Rattle.std.proofs.Common.{append_assoc, inl, inr, map}
use Rattle.std.specs.List.{position_or_len}
use Rattle.std.proofs.lemmas.Bool.{ltb-true, or_parts, or_from}
use Rattle.std.proofs.lemmas.Bool.Decides.{eqb_tells}
use Rattle.std.proofs.lemmas.List.{append-nil, drop_all}
use Rattle.std.proofs.Math.Seq.{take-append_seam, take-length, drop-append_seam}
use Rattle.std.proofs.Math.Nat.{le_refl}
use Rattle.repo_io.specs.Lines.{has_feed, octet_before, lines}
use Rattle.repo_io.proofs.LineLaws.{no_feed_found, open_line, whole_first}
use Rattle.lab_text.specs.Cutting.{AreWholeLines, HasOpenEnd}
use Rattle.lab_text.specs.LineTexts.{line_texts, marked_lines, without_feed}
use Rattle.lab_text.specs.Differences.{is_empty_list}

-- ---- the first line

found_at : (octets : List ℕ) → position_or_len (λ octet. eqb octet 10) octets < length octets
    → lines octets ≡ take (position_or_len (λ octet. eqb octet 10) octets + 1) octets
    ∷ lines (drop (position_or_len (λ octet. eqb octet 10) octets + 1) octets)
unfolding lines
found_at [] lt = absurd (omega (arith, lt))
found_at (b ∷ bs) lt = elim (eqb_tells b 10) [
  | inl same ↦ rw same.0 refl
  | inr other ↦
      let more = rw other.0 at lt in
      let n = position_or_len (λ octet. eqb octet 10) bs in
      let next : 1 + n + 1 ≡ suc (n + 1) = omega arith in
      rw (other.0, next, found_at bs (omega (arith, more))) refl
]

pub first_cut : (octets : List ℕ) (at : ℕ) → position (λ octet. eqb octet 10) octets ≡ Some at
    → lines octets ≡ take (at + 1) octets ∷ lines (drop (at + 1) octets)
first_cut octets at e =
    let n = position_or_len (λ octet. eqb octet 10) octets in
    let parts = by_test _ n e in
    let P : ℕ → Type 0 = λ k. lines octets ≡ take (k + 1) octets ∷ lines (drop (k + 1) octets) in
    subst P parts.1 (found_at octets (ltb-true _ _ parts.0)) where
      by_test : (test : Bool) (n : ℕ) → cond test (Some n) None ≡ Some at → (test ≡ true) × (n ≡ at)
      by_test true n e = (refl, cc)
      by_test false n e = absurd cc

pub open_cut : (octets : List ℕ) → octets ≢ [] → position (λ octet. eqb octet 10) octets ≡ None
    → lines octets ≡ take (length octets) octets ∷ lines (drop (length octets) octets)
unfolding lines
open_cut octets some e = rw (take-length octets, drop_all (length octets) octets (le_refl (length octets)))
    (open_line octets some (no_feed_found octets e))

-- ---- lines after lines

before_some : (b : ℕ) (ends : Bool) (ls : List (List ℕ)) → octet_before b ends ls ≢ []
before_some b true ls = λ e. cc
before_some b false [] = λ e. cc
before_some b false (line ∷ ls) = λ e. cc

pub lines_some : (b : ℕ) (octets : List ℕ) → lines (b ∷ octets) ≢ []
unfolding lines
lines_some b octets = before_some b (eqb b 10) (lines octets)

before_more : (b : ℕ) (ends : Bool) (ls ms : List (List ℕ)) → ls ≢ []
    → octet_before b ends (ls ++ ms) ≡ octet_before b ends ls ++ ms
before_more b true ls ms some = refl
before_more b false [] ms some = absurd (some refl)
before_more b false (line ∷ ls) ms some = refl

-- lines that end with a line feed are so whatever follows
after_feed : (text more : List ℕ) → lines ((text ++ 10 ∷ []) ++ more) ≡ lines (text ++ 10 ∷ []) ++ lines more
unfolding lines
after_feed [] more = refl
after_feed (b ∷ []) more = rw (after_feed [] more) (before_more b (eqb b 10) (lines (10 ∷ [])) (lines more)
    (lines_some 10 []))
after_feed (b ∷ d ∷ text) more = rw (after_feed (d ∷ text) more) (before_more b (eqb b 10)
    (lines (d ∷ (text ++ 10 ∷ []))) (lines more) (lines_some d (text ++ 10 ∷ [])))

pub lines_then : (octets more : List ℕ) → AreWholeLines octets → lines (octets ++ more) ≡ lines octets ++ lines more
unfolding lines
lines_then octets more (inl e) = rw e refl
lines_then octets more (inr w) = rw w.is (after_feed w.text more)

-- ---- the last line

one_line : (text : List ℕ) (last : ℕ) → has_feed text ≡ false → lines (text ++ last ∷ []) ≡ (text ++ last ∷ []) ∷ []
unfolding lines
one_line text last free = elim (eqb_tells last 10) [
  | inl same ↦ ap lines (sym (append-nil (text ++ last ∷ [])))
      ∙ whole_first (text ++ last ∷ []) [] (record { prefix = text; free = free; is = rw same.1 refl })
  | inr other ↦ open_line (text ++ last ∷ []) (some text) (free_then text free other.0)
] where
  some : (t : List ℕ) → t ++ last ∷ [] ≢ []
  some [] = λ e. cc
  some (b ∷ t) = λ e. cc

  free_then : (t : List ℕ) → has_feed t ≡ false → eqb last 10 ≡ false → has_feed (t ++ last ∷ []) ≡ false
  free_then [] f e = or_from (eqb last 10) false e refl
  free_then (b ∷ t) f e = let parts = or_parts (eqb b 10) (has_feed t) f in
      or_from (eqb b 10) (has_feed (t ++ last ∷ [])) parts.0 (free_then t parts.1 e)

pub last_cut : (octets prefix before : List ℕ) (last : ℕ) → octets ≡ prefix ++ last ∷ [] → AreWholeLines before
    → HasOpenEnd before prefix
    → lines octets ≡ lines (take (length before) octets) ++ drop (length before) octets ∷ []
last_cut octets prefix before last e whole w =
    let is : octets ≡ before ++ (w.after ++ last ∷ []) =
    e ∙ ap (λ (t : List ℕ). t ++ last ∷ []) w.is ∙ append_assoc before w.after (last ∷ []) in
    rw (is, take-append_seam before (w.after ++ last ∷ []), drop-append_seam before (w.after ++ last ∷ []))
    (lines_then before (w.after ++ last ∷ []) whole
    ∙ ap (λ (ls : List (List ℕ)). lines before ++ ls) (one_line w.after last w.free))

pub nothing_open : (octets : List ℕ) → HasOpenEnd octets octets
nothing_open octets = record { after = []; is = sym (append-nil octets); free = refl }

pub one_more_open : (octets before prefix : List ℕ) (last : ℕ) → before ≡ prefix ++ last ∷ [] → eqb last 10 ≡ false
    → HasOpenEnd before octets → HasOpenEnd prefix octets
one_more_open octets before prefix last e other w = record {
  after = last ∷ w.after;
  is = w.is ∙ ap (λ (t : List ℕ). t ++ w.after) e ∙ append_assoc prefix (last ∷ []) w.after;
  free = or_from (eqb last 10) (has_feed w.after) other w.free;
}

-- ---- no line

pub emptiness : (octets : List ℕ) → is_empty_list (line_texts octets) ≡ eqb (length octets) 0
unfolding lines
emptiness [] = refl
emptiness (b ∷ bs) = some (lines (b ∷ bs)) (lines_some b bs) where
  some : (ls : List (List ℕ)) → ls ≢ [] → is_empty_list (map without_feed ls) ≡ eqb (length (b ∷ bs)) 0
  some [] e = absurd (e refl)
  some (l ∷ ls) e = elim (eqb_tells (length (b ∷ bs)) 0) [
    | inl same ↦ absurd (omega (arith, same.1))
    | inr other ↦ sym other.0
  ]

pub nothing_marked : (mark octets : List ℕ) → octets ≡ [] → marked_lines mark (line_texts octets) ≡ []
unfolding lines
nothing_marked mark octets e = rw e refl
