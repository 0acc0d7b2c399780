-- What begins a note, and what it says.
use Rattle.std.proofs.Common.{◌≡◌, ◌≢◌, ℕ, zero, suc, ◌≤◌, Bool, true, false, eqb, ◌&&◌, ◌||◌, List, [], ◌∷◌, ◌++◌}
use Rattle.std.proofs.Common.{length, take, drop, codes, refl, sym, ap, ◌∙◌, arith, append_assoc, inl, inr}
use Rattle.std.specs.Fmt.{decimal}
use Rattle.std.proofs.lemmas.Bool.{or_parts}
use Rattle.std.proofs.lemmas.Bool.Decides.{eqb_tells}
use Rattle.std.proofs.lemmas.List.{take_all, length-take}
use Rattle.repo_io.specs.Lines.{IsWhole, has_feed}
use Rattle.lab_text.specs.LineTexts.{is_one_line, marked_line, without_feed}
use Rattle.lab_text.specs.Notes.{after_one_space, after_spaces, is_marked, is_note, is_report_note, is_state_note}
use Rattle.lab_text.specs.Notes.{note_text}
use Rattle.lab_text.specs.Transcripts.{report_note, shown_line, shown_text}
use Rattle.lab_text.specs.Differences.{numbered_line, space_before}
use Rattle.lab_text.proofs.Feeds.{feed_gone, feed_or_not, free_drop, free_of}

pub space_more : (octets others : List ℕ) (first : ℕ) → octets ≡ first ∷ others → first ≡ 32
    → after_spaces octets ≡ after_spaces others
unfolding after_spaces
space_more octets others first e space = rw (e, space) refl

pub spaces_end : (octets others : List ℕ) (first : ℕ) → octets ≡ first ∷ others → first ≢ 32
    → after_spaces octets ≡ octets
unfolding after_spaces
spaces_end octets others first e other = elim (eqb_tells first 32) [
  | inl same ↦ absurd (other same.1)
  | inr else ↦ rw (e, else.0) refl
]

pub no_space : (octets : List ℕ) → length octets ≡ 0 → after_spaces octets ≡ octets
unfolding after_spaces
no_space [] e = refl
no_space (b ∷ bs) e = absurd (omega (arith, e))

-- ---- the line of a number

pub spaced : (text : List ℕ) → eqb (length text) 0 ≡ false → space_before text ≡ 32 ∷ []
spaced [] e = absurd cc
spaced (b ∷ bs) e = refl

pub numbered_then : (old mid new : List ℕ) (number : ℕ) (line : List ℕ)
    → mid ≡ old ++ (codes "line " ++ decimal number) → space_before (shown_text line) ≡ 32 ∷ []
    → new ≡ mid ++ marked_line (32 ∷ []) (shown_text line) → new ≡ old ++ numbered_line number line
numbered_then old mid new number line before space e =
    e ∙ ap (λ (t : List ℕ). t ++ marked_line (32 ∷ []) (shown_text line)) before
    ∙ append_assoc old (codes "line " ++ decimal number) (marked_line (32 ∷ []) (shown_text line))
    ∙ ap (λ (mark : List ℕ). old ++ (codes "line " ++ decimal number ++ marked_line mark (shown_text line))) (sym space)

-- ---- what begins a note

is_marked_then : (mark : ℕ) → eqb 10 mark ≡ false → (text : List ℕ)
    → is_marked mark (after_spaces (text ++ 10 ∷ [])) ≡ is_marked mark (after_spaces text)
unfolding after_spaces
is_marked_then mark other [] = refl
is_marked_then mark other (b ∷ bs) = elim (eqb_tells b 32) [
  | inl space ↦ rw space.0 (is_marked_then mark other bs)
  | inr else ↦ rw else.0 (go bs)
] where
  none : (t : Bool) → (t && false) ≡ false
  none true = refl
  none false = refl

  go : (cs : List ℕ) → is_marked mark (b ∷ (cs ++ 10 ∷ [])) ≡ is_marked mark (b ∷ cs)
  go [] = rw other (none (eqb b 35))
  go (c ∷ cs) = refl

is_marked_taken : (mark n : ℕ) (text : List ℕ) → is_marked mark (after_spaces (take n text)) ≡ true
    → is_marked mark (after_spaces text) ≡ true
unfolding after_spaces
is_marked_taken mark zero text e = absurd cc
is_marked_taken mark (suc n) [] e = absurd cc
is_marked_taken mark (suc n) (b ∷ bs) e = elim (eqb_tells b 32) [
  | inl space ↦ rw space.0 (is_marked_taken mark n bs (rw space.0 at e))
  | inr else ↦ rw else.0 (go n bs (rw else.0 at e))
] where
  go : (m : ℕ) (cs : List ℕ) → is_marked mark (b ∷ take m cs) ≡ true → is_marked mark (b ∷ cs) ≡ true
  go zero cs f = absurd cc
  go (suc m) [] f = absurd cc
  go (suc m) (c ∷ cs) f = f

pub note_then_feed : (text : List ℕ) → is_note (text ++ 10 ∷ []) ≡ is_note text
note_then_feed text = rw (is_marked_then 62 refl text, is_marked_then 61 refl text) refl

pub note_without_feed : (line : List ℕ) → is_note (without_feed line) ≡ is_note line
note_without_feed line = elim (feed_or_not line) [
  | inl feed ↦ sym (note_then_feed (without_feed line)) ∙ ap is_note (sym feed)
  | inr none ↦ ap is_note none
]

pub note_taken : (n : ℕ) (text : List ℕ) → is_note (take n text) ≡ true → is_note text ≡ true
note_taken n text e = go _ _ refl refl where
  either : (b : Bool) → (b || true) ≡ true
  either true = refl
  either false = refl

  go : (report state : Bool) → is_report_note (take n text) ≡ report → is_state_note (take n text) ≡ state
      → is_note text ≡ true
  go true state r s = rw (is_marked_taken 62 n text r) refl
  go false true r s = rw (is_marked_taken 61 n text s) (either (is_report_note text))
  go false false r s = let none = rw (r, s) at e in absurd cc

pub shown_is_note : (line : List ℕ) → is_note (shown_line line) ≡ true → is_note line ≡ true
shown_is_note line e =
    sym (note_without_feed line)
    ∙ note_taken 32769 (without_feed line) (sym (note_then_feed (shown_text line)) ∙ e)

pub shown_of_short : (line : List ℕ) → length (without_feed line) ≤ 32769 → shown_text line ≡ without_feed line
shown_of_short line short = take_all 32769 (without_feed line) short

pub note_as_shown : (line : List ℕ) → length (without_feed line) ≤ 32769 → is_note (shown_line line) ≡ is_note line
note_as_shown line short =
    note_then_feed (shown_text line) ∙ ap is_note (shown_of_short line short) ∙ note_without_feed line

pub shown_of_whole : (line : List ℕ) → IsWhole line → length (without_feed line) ≤ 32769 → shown_line line ≡ line
shown_of_whole line whole short =
    ap (λ (t : List ℕ). t ++ 10 ∷ []) (shown_of_short line short ∙ ap without_feed whole.is ∙ feed_gone whole.prefix)
    ∙ sym whole.is

pub shown_again : (line : List ℕ) → shown_line (shown_line line) ≡ shown_line line
shown_again line = ap (λ (t : List ℕ). t ++ 10 ∷ [])
    (ap (take 32769) (feed_gone (shown_text line)) ∙ take_all 32769 (shown_text line) within) where
      within : length (shown_text line) ≤ 32769
      within = omega (arith, length-take 32769 (without_feed line))

-- ---- what a note says

pub text_of_note : (text : List ℕ) → note_text (report_note text) ≡ text
unfolding after_spaces
text_of_note text = rw (feed_gone (35 ∷ 62 ∷ 32 ∷ text)) refl

pub is_a_note : (text : List ℕ) → is_note (report_note text) ≡ true
unfolding after_spaces
is_a_note text = refl

pub is_a_report_note : (text : List ℕ) → is_report_note (report_note text) ≡ true
unfolding after_spaces
is_a_report_note text = refl

free_after_spaces : (octets : List ℕ) → has_feed octets ≡ false → has_feed (after_spaces octets) ≡ false
unfolding after_spaces
free_after_spaces [] free = refl
free_after_spaces (b ∷ bs) free = elim (eqb_tells b 32) [
  | inl space ↦ rw space.0 (free_after_spaces bs (or_parts (eqb b 10) (has_feed bs) free).1)
  | inr else ↦ rw else.0 free
]

free_after_one_space : (octets : List ℕ) → has_feed octets ≡ false → has_feed (after_one_space octets) ≡ false
free_after_one_space [] free = refl
free_after_one_space (b ∷ bs) free = elim (eqb_tells b 32) [
  | inl space ↦ rw space.0 (or_parts (eqb b 10) (has_feed bs) free).1
  | inr else ↦ rw else.0 free
]

pub free_note_text : (note : List ℕ) → is_one_line note ≡ true → has_feed (note_text note) ≡ false
free_note_text note one =
    let text = without_feed note in
    free_after_one_space (drop 2 (after_spaces text)) (free_drop 2 (after_spaces text)
    (free_after_spaces text (free_of note one)))
