-- The lines of a transcript, and the report that its notes say.
use Rattle.std.proofs.Common.{◌≡◌, ◌≢◌, ℕ, Bool, true, false, eqb, ◌&&◌, List, [], ◌∷◌, ◌++◌, map, refl}
use Rattle.std.proofs.Common.{sym, ap, ◌∙◌, append_assoc, inl, inr}
use Rattle.std.specs.List.{concat, flat_map}
use Rattle.std.proofs.lemmas.Bool.{or_from}
use Rattle.std.proofs.lemmas.Bool.Decides.{eqb_tells}
use Rattle.std.proofs.lemmas.List.{append-nil}
use Rattle.repo_io.specs.Lines.{IsWhole, has_feed, lines, octet_before}
use Rattle.repo_io.proofs.LineLaws.{lines_joined, whole_first}
use Rattle.lab_text.specs.Cutting.{AreWholeLines}
use Rattle.lab_text.specs.LineTexts.{are_one_line_each, is_one_line, line_texts, marked_line, marked_lines}
use Rattle.lab_text.specs.LineTexts.{without_feed}
use Rattle.lab_text.specs.Notes.{is_note, note_line, note_text, without_notes}
use Rattle.lab_text.specs.Transcripts.{line_with_report, report_note, report_notes, shown_line, shown_text}
use Rattle.lab_text.proofs.Feeds.{feed_gone, free_both, free_of, free_take, lines_are_one_each}
use Rattle.lab_text.proofs.LineCuts.{lines_some}
use Rattle.lab_text.proofs.NoteTexts.{free_note_text, is_a_note, shown_is_note, text_of_note}

-- each text has no line feed
AreFree : List (List ℕ) → Type 0
AreFree [] = Unit {0}
AreFree (t ∷ ts) = (has_feed t ≡ false) × AreFree ts

both_consistent : (a b : Bool) → (a && b) ≡ true → (a ≡ true) × (b ≡ true)
both_consistent true b e = (refl, e)
both_consistent false b e = absurd cc

texts_are_free : (ls : List (List ℕ)) → are_one_line_each ls ≡ true → AreFree (map without_feed ls)
unfolding AreFree
texts_are_free [] e = tt
texts_are_free (l ∷ ls) e = let both = both_consistent (is_one_line l) (are_one_line_each ls) e in
    (free_of l both.0, texts_are_free ls both.1)

notes_are_free : (ns : List (List ℕ)) → are_one_line_each ns ≡ true → AreFree (map note_text ns)
unfolding AreFree
notes_are_free [] e = tt
notes_are_free (n ∷ ns) e = let both = both_consistent (is_one_line n) (are_one_line_each ns) e in
    (free_note_text n both.0, notes_are_free ns both.1)

-- ---- the lines of marked lines

marked_is_whole : (mark text : List ℕ) → has_feed mark ≡ false → has_feed text ≡ false → IsWhole (marked_line mark text)
marked_is_whole mark text f g = record {
  prefix = mark ++ text;
  free = free_both mark text f g;
  is = sym (append_assoc mark text (10 ∷ []));
}

lines_of_marked : (mark : List ℕ) → has_feed mark ≡ false → (ts : List (List ℕ)) → AreFree ts → (more : List ℕ)
    → lines (marked_lines mark ts ++ more) ≡ map (marked_line mark) ts ++ lines more
unfolding AreFree
lines_of_marked mark f [] free more = refl
lines_of_marked mark f (t ∷ ts) free more =
    ap lines (append_assoc (marked_line mark t) (marked_lines mark ts) more)
    ∙ whole_first (marked_line mark t) (marked_lines mark ts ++ more) (marked_is_whole mark t f free.0)
    ∙ ap (λ (ls : List (List ℕ)). marked_line mark t ∷ ls) (lines_of_marked mark f ts free.1 more)

-- ---- of a line with its report

shown_is_whole : (line : List ℕ) → is_one_line line ≡ true → IsWhole (shown_line line)
shown_is_whole line one = record {
  prefix = shown_text line;
  free = free_take 32769 (without_feed line) (free_of line one);
  is = refl;
}

pub lines_of_report : (report more : List ℕ)
    → lines (report_notes report ++ more) ≡ map report_note (line_texts report) ++ lines more
lines_of_report report more = lines_of_marked (35 ∷ 62 ∷ 32 ∷ []) refl (line_texts report)
    (texts_are_free (lines report) (lines_are_one_each report)) more

pub lines_of_both : (line report more : List ℕ) → is_one_line line ≡ true
    → lines (line_with_report line report ++ more)
    ≡ shown_line line ∷ (map report_note (line_texts report) ++ lines more)
lines_of_both line report more one =
    ap lines (append_assoc (shown_line line) (report_notes report) more)
    ∙ whole_first (shown_line line) (report_notes report ++ more) (shown_is_whole line one)
    ∙ ap (λ (ls : List (List ℕ)). shown_line line ∷ ls) (lines_of_report report more)

without_reports : (ts ls : List (List ℕ)) → without_notes (map report_note ts ++ ls) ≡ without_notes ls
without_reports [] ls = refl
without_reports (t ∷ ts) ls = rw (is_a_note t) (without_reports ts ls)

shown_is_no_note : (line : List ℕ) → is_note line ≡ false → is_note (shown_line line) ≡ false
shown_is_no_note line plain = go (is_note (shown_line line)) refl where
  differ : true ≡ false → ⊥
  differ e = cc

  go : (b : Bool) → is_note (shown_line line) ≡ b → b ≡ false
  go false e = refl
  go true e = absurd (differ (sym (shown_is_note line e) ∙ plain))

pub script_of_both : (line report more : List ℕ) → is_one_line line ≡ true → is_note line ≡ false
    → without_notes (lines (line_with_report line report ++ more)) ≡ shown_line line ∷ without_notes (lines more)
script_of_both line report more one plain =
    ap without_notes (lines_of_both line report more one)
    ∙ rw (shown_is_no_note line plain) (ap (λ (ls : List (List ℕ)). shown_line line ∷ ls)
    (without_reports (line_texts report) (lines more)))

-- ---- what the notes say

texts_of_notes : (ts : List (List ℕ)) → map note_text (map report_note ts) ≡ ts
texts_of_notes [] = refl
texts_of_notes (t ∷ ts) = rw (text_of_note t, texts_of_notes ts) refl

pub notes_say_report : (report : List ℕ) → map note_text (map report_note (line_texts report)) ≡ line_texts report
notes_say_report report = texts_of_notes (line_texts report)

-- each line ends with its line feed
AreWhole : List (List ℕ) → Type 0
AreWhole [] = Unit {0}
AreWhole (l ∷ ls) = IsWhole l × AreWhole ls

notes_joined : (ls : List (List ℕ)) → AreWhole ls
    → flat_map note_line (map report_note (map without_feed ls)) ≡ concat ls
unfolding AreWhole
notes_joined [] whole = refl
notes_joined (l ∷ ls) whole = rw (text_of_note (without_feed l), notes_joined ls whole.1)
    (ap (λ (t : List ℕ). t ++ concat ls) (feed_again l whole.0)) where
      feed_again : (line : List ℕ) → IsWhole line → without_feed line ++ 10 ∷ [] ≡ line
      feed_again line w =
          ap (λ (t : List ℕ). t ++ 10 ∷ []) (ap without_feed w.is ∙ feed_gone w.prefix) ∙ sym w.is

whole_before : (b : ℕ) (ends : Bool) (ls : List (List ℕ)) → (ends ≡ true → b ≡ 10)
    → (ends ≡ false → eqb b 10 ≡ false)
    → ls ≢ [] → AreWhole ls → AreWhole (octet_before b ends ls)
unfolding AreWhole
whole_before b true ls feed other some whole =
    (record { prefix = []; free = refl; is = ap (λ (x : ℕ). x ∷ []) (feed refl) }, whole)
whole_before b false [] feed other some whole = absurd (some refl)
whole_before b false (l ∷ ls) feed other some whole = (
  record {
    prefix = b ∷ whole.0.prefix;
    free = or_from (eqb b 10) (has_feed whole.0.prefix) (other refl) whole.0.free;
    is = ap (λ (t : List ℕ). b ∷ t) whole.0.is;
  },
  whole.1,
)

whole_lines : (text : List ℕ) → AreWhole (lines (text ++ 10 ∷ []))
unfolding lines AreWhole
whole_lines [] = (record { prefix = []; free = refl; is = refl }, tt)
whole_lines (b ∷ bs) = elim (eqb_tells b 10) [
  | inl same ↦ whole_before b (eqb b 10) (lines (bs ++ 10 ∷ [])) (λ _. same.1) (λ e. absurd cc) (some bs)
      (whole_lines bs)
  | inr else ↦ whole_before b (eqb b 10) (lines (bs ++ 10 ∷ [])) (λ e. absurd cc) (λ _. else.0) (some bs)
      (whole_lines bs)
] where
  some : (t : List ℕ) → lines (t ++ 10 ∷ []) ≢ []
  some [] = lines_some 10 []
  some (c ∷ t) = lines_some c (t ++ 10 ∷ [])

pub report_is_joined : (report : List ℕ) → AreWholeLines report
    → flat_map note_line (map report_note (line_texts report)) ≡ report
unfolding lines
report_is_joined report (inl e) = rw e refl
report_is_joined report (inr w) =
    rw w.is (notes_joined (lines (w.text ++ 10 ∷ [])) (whole_lines w.text) ∙ lines_joined (w.text ++ 10 ∷ []))

-- ---- what is expected

notes_as_marked : (ns : List (List ℕ)) → flat_map note_line ns ≡ marked_lines [] (map note_text ns)
notes_as_marked [] = refl
notes_as_marked (n ∷ ns) = ap (λ (t : List ℕ). note_line n ++ t) (notes_as_marked ns)

unmarked : (ts : List (List ℕ)) → map without_feed (map (marked_line []) ts) ≡ ts
unmarked [] = refl
unmarked (t ∷ ts) = rw (feed_gone t, unmarked ts) refl

pub expected_is_read : (ns : List (List ℕ)) → are_one_line_each ns ≡ true
    → line_texts (flat_map note_line ns) ≡ map note_text ns
unfolding lines
expected_is_read ns one =
    ap line_texts (notes_as_marked ns ∙ sym (append-nil (marked_lines [] (map note_text ns))))
    ∙ ap (map without_feed) (lines_of_marked [] refl (map note_text ns) (notes_are_free ns one) []
    ∙ append-nil (map (marked_line []) (map note_text ns)))
    ∙ unmarked (map note_text ns)
