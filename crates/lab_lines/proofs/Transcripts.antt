-- The laws of transcripts.
use Rattle.std.proofs.Common.{◌≡◌, ℕ, true, eqb, List, [], ◌∷◌, ◌++◌, map, length, refl}
use Rattle.std.proofs.Common.{sym, ap}
use Rattle.std.proofs.Common.{subst, ◌∙◌, append_assoc, arith, inl, inr}
use Rattle.std.specs.List.{flat_map}
use Rattle.std.proofs.lemmas.Bool.{cases_Bool, eqb-true, or_from}
use Rattle.std.proofs.lemmas.List.{append-nil}
use Rattle.repo_io.specs.Lines.{IsWhole, has_feed, lines}
use Rattle.repo_io.proofs.LineLaws.{lines_joined}
use Rattle.script_story.specs.declared.ending.Ending.{Ending}
use Rattle.script_story.specs.Evaluation.{RunEnvironment}
use Rattle.lab_text.specs.Cutting.{AreWholeLines}
use Rattle.lab_text.specs.Differences.{after_common_prefix, are_same, sum_text}
use Rattle.lab_text.specs.LineTexts.{are_one_line_each, line_texts}
use Rattle.lab_text.specs.Notes.{note_line}
use Rattle.lab_text.specs.Outcomes.{Outcome}
use Rattle.lab_text.specs.Transcripts.{report_note, report_notes}
use Rattle.lab_text.proofs.DifferenceLaws.{same_just_where_equal}
use Rattle.lab_text.proofs.Feeds.{lines_are_one_each}
use Rattle.lab_text.proofs.NoteTexts.{is_a_report_note}
use Rattle.lab_text.proofs.TranscriptLaws.{expected_is_read, lines_of_report, notes_say_report}
use Rattle.lab_lines.specs.Check.{Checked, check_form, check_of, differing_lines, is_expected, last_text}
use Rattle.lab_lines.specs.Check.{nothing_checked}
use Rattle.lab_lines.specs.Folding.{FormOf, Lined, Ran, nothing_passed, outcome_of, ran_from}
use Rattle.lab_lines.specs.Laws.{CanBeReadAgain, IsSame, IsWithin, notes_fit}
use Rattle.lab_lines.specs.Transcript.{status_at, transcript_form, transcript_of}
use Rattle.lab_lines.proofs.ReadAgain.{AreWhole, ReadsAgain, Room, SameEnd, none_whole, notes_end, one_whole}
use Rattle.lab_lines.proofs.ReadAgain.{read_again}
use Rattle.lab_lines.proofs.ReadAgain.{with_notes}

-- ---- whole lines

-- some lines, all of them whole
record SomeWhole (ls : List (List ℕ)) : Type 0 where
  first : List ℕ
  others : List (List ℕ)
  are : ls ≡ first ∷ others
  whole : IsWhole first
  rest : AreWhole others

all_whole : (ls : List (List ℕ)) → SomeWhole ls → AreWhole ls
all_whole ls s = subst AreWhole (sym s.are) (one_whole s.first s.others s.whole s.rest)

whole_from : (text : List ℕ) → SomeWhole (lines (text ++ 10 ∷ []))
unfolding lines
whole_from [] = record {
  first = 10 ∷ [];
  others = [];
  are = refl;
  whole = record { prefix = []; free = refl; is = refl };
  rest = none_whole;
}
whole_from (b ∷ bs) = elim (cases_Bool (eqb b 10)) [
  | inl feed ↦
      let is : b ≡ 10 = eqb-true b 10 feed in
      let so_far = whole_from bs in
      record {
        first = b ∷ [];
        others = lines (bs ++ 10 ∷ []);
        are = rw feed refl;
        whole = record { prefix = []; free = refl; is = ap (λ (x : ℕ). x ∷ []) is };
        rest = all_whole (lines (bs ++ 10 ∷ [])) so_far;
      }
  | inr other ↦
      let so_far = whole_from bs in
      record {
        first = b ∷ so_far.first;
        others = so_far.others;
        are = rw (other, so_far.are) refl;
        whole = record {
          prefix = b ∷ so_far.whole.prefix;
          free = or_from (eqb b 10) (has_feed so_far.whole.prefix) other so_far.whole.free;
          is = ap (λ (t : List ℕ). b ∷ t) so_far.whole.is;
        };
        rest = so_far.rest;
      }
]

input_whole : (input : List ℕ) → AreWholeLines input → AreWhole (lines input)
unfolding lines
input_whole input (inl none) = subst (λ (t : List ℕ). AreWhole (lines t)) (sym none) none_whole
input_whole input (inr end) = subst (λ (t : List ℕ). AreWhole (lines t)) (sym end.is)
    (all_whole (lines (end.text ++ 10 ∷ [])) (whole_from end.text))

room_of : (text : List ℕ) → IsWithin text → Room 0 0 (lines text)
room_of text within = record {
  lines = omega (arith, within.few_lines);
  octets = omega (arith, within.few_octets, ap length (lines_joined text));
}

-- ---- a transcript of a transcript

transcribes_again : ReadsAgain transcript_form (λ (t : List ℕ). t) (λ (n : Unit {0}). Unit {0})
transcribes_again = record {
  none = refl;
  joined = λ x y. refl;
  look = λ n state line held. held;
  text = λ n at held. refl;
  next = λ n at held. tt;
  last = λ n at held passed octets room notes. tt;
}

module _ (env : RunEnvironment) (input : List ℕ) (can : CanBeReadAgain env input) where
  was : Ran (Unit {0})
  was = ran_from transcript_form env nothing_passed (tt {0}) (lines input)

  text_is : (transcript_of env input).text ≡ was.text
  unfolding was
  text_is = append-nil (ran_from transcript_form env nothing_passed (tt {0}) (lines input)).text

  room_again : Room 0 0 (lines was.text)
  room_again = subst (λ (t : List ℕ). Room 0 0 (lines t)) text_is
      (room_of (transcript_of env input).text can.transcript)

  notes_again : notes_fit (lines was.text) ≡ true
  notes_again = subst (λ (t : List ℕ). notes_fit (lines t) ≡ true) text_is can.notes

  -- a form that finds in the notes what was reported
  module _ {M : Type 0} (g : FormOf M) (kept : List ℕ → List ℕ) (Q : M → Type 0) (r : ReadsAgain g kept Q) (n : M)
      (held : Q n) where
    same_end : SameEnd kept Q was (ran_from g env nothing_passed n (lines was.text))
    unfolding was
    same_end = read_again env g kept Q r (lines input) nothing_passed nothing_passed n refl held
        (input_whole input can.whole) (room_of input can.within) room_again notes_again

  own_transcript : transcript_of env (transcript_of env input).text ≡ transcript_of env input
  unfolding was
  own_transcript =
      let again = same_end transcript_form (λ (t : List ℕ). t) (λ (n : Unit {0}). Unit {0}) transcribes_again (tt {0})
      (tt {0}) in
      let by_text : List ℕ → Outcome = λ t. transcript_of env t in
      let of : List ℕ → Ending → Outcome = λ t e. record { text = t ++ []; status = status_at e } in
      ap by_text text_is ∙ ap (λ (t : List ℕ). of t (ran_from transcript_form env nothing_passed (tt {0})
      (lines was.text)).ending) again.text ∙ ap (of was.text) again.ending

-- ---- a check of a transcript

-- what is known of a check while no line differs
record NoneDiffers (c : Checked) : Type 0 where
  expected : is_expected c ≡ true
  none : c.differing ≡ 0

with_expected : Checked → List ℕ → Checked
with_expected c more = record c { expected = c.expected ++ more }

notes_expected : (c : Checked) (ts : List (List ℕ))
    → with_notes check_form c ts ≡ with_expected c (flat_map note_line (map report_note ts))
unfolding with_notes with_expected
notes_expected c [] = ap (λ (t : List ℕ). record c { expected = t }) (sym (append-nil c.expected))
notes_expected c (t ∷ ts) =
    let first = note_line (report_note t) in
    let others = flat_map note_line (map report_note ts) in
    let one : check_form.note c (report_note t) ≡ record c { expected = c.expected ++ first } =
    rw (is_a_report_note t) refl in
    ap (λ (x : Checked). with_notes check_form x ts) one
    ∙ notes_expected (record c { expected = c.expected ++ first }) ts
    ∙ ap (λ (x : List ℕ). record c { expected = x }) (append_assoc c.expected first others)

report_expected : (report : List ℕ)
    → line_texts (flat_map note_line (map report_note (line_texts report))) ≡ line_texts report
unfolding lines
report_expected report =
    let ns = map report_note (line_texts report) in
    let are : lines (report_notes report) ≡ ns =
    ap lines (sym (append-nil (report_notes report))) ∙ lines_of_report report [] ∙ append-nil ns in
    let one = subst (λ (ls : List (List ℕ)). are_one_line_each ls ≡ true) are
    (lines_are_one_each (report_notes report)) in
    expected_is_read ns one ∙ notes_say_report report

with_report : (c : Checked) (at : Lined) → NoneDiffers c
    → NoneDiffers (with_notes check_form (check_form.line c at) (line_texts at.report))
unfolding with_expected
with_report c at held =
    let notes = flat_map note_line (map report_note (line_texts at.report)) in
    let after : Checked = record {
      number = at.number;
      line = at.line;
      report = at.report;
      expected = notes;
      differing = differing_lines c;
    } in
    let is : with_notes check_form (check_form.line c at) (line_texts at.report) ≡ after =
    notes_expected (check_form.line c at) (line_texts at.report) in
    let same : are_same (line_texts notes) (line_texts at.report) ≡ true =
    (same_just_where_equal (line_texts notes) (line_texts at.report)).1 (report_expected at.report) in
    subst NoneDiffers (sym is) (record { expected = same; none = rw held.expected held.none })

check_same : (c : Checked) → NoneDiffers c → last_text c ≡ []
check_same c held = rw held.expected refl

checks_again : ReadsAgain check_form (λ (t : List ℕ). []) NoneDiffers
checks_again = record {
  none = refl;
  joined = λ x y. refl;
  look = λ n state line held. held;
  text = λ n at held. check_same n held;
  next = with_report;
  last = λ n at held passed octets room notes.
      subst NoneDiffers
      (sym (notes_end check_form passed octets (check_form.line n at) (line_texts at.report) room notes))
      (with_report n at held);
}

nothing_differs : NoneDiffers nothing_checked
unfolding lines after_common_prefix
nothing_differs = record { expected = refl; none = refl }

module _ (env : RunEnvironment) (input : List ℕ) (can : CanBeReadAgain env input) where
  same_check : IsSame (check_of env (transcript_of env input).text)
  same_check =
      let again = same_end env input can check_form (λ (t : List ℕ). []) NoneDiffers checks_again nothing_checked
      nothing_differs in
      let now = ran_from check_form env nothing_passed nothing_checked (lines (was env input can).text) in
      let zero_differs : differing_lines now.form ≡ 0 = rw again.form.expected again.form.none in
      let ended : (outcome_of check_form now).text ≡ sum_text 0 now.form.number =
      ap (λ (t : List ℕ). t ++ (last_text now.form ++ sum_text (differing_lines now.form) now.form.number)) again.text
      ∙ ap (λ (t : List ℕ). t ++ sum_text (differing_lines now.form) now.form.number) (check_same now.form again.form)
      ∙ ap (λ (k : ℕ). sum_text k now.form.number) zero_differs in
      let P : List ℕ → Type 0 = λ t. IsSame (check_of env t) in
      subst P (sym (text_is env input can)) (record {
        lines = now.form.number;
        text = ended;
        status = rw zero_differs refl;
      })

pub own_transcripts : (env : RunEnvironment) (input : List ℕ) → CanBeReadAgain env input
    → transcript_of env (transcript_of env input).text ≡ transcript_of env input
own_transcripts env input can = own_transcript env input can

pub same_checks : (env : RunEnvironment) (input : List ℕ) → CanBeReadAgain env input
    → IsSame (check_of env (transcript_of env input).text)
same_checks env input can = same_check env input can
