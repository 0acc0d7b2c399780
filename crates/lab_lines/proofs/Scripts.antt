-- The script of a transcript.
use Rattle.std.proofs.Common.{◌≡◌, ◌∙◌, ◌≤◌, ℕ, Bool, true, false, not, List, [], ◌∷◌, ◌++◌, length, map, take, refl}
use Rattle.std.proofs.Common.{sym, ap, inl, inr, arith, append-nil}
use Rattle.std.proofs.lemmas.Bool.{and_parts, cases_Bool, true≢false}
use Rattle.std.proofs.lemmas.List.{length-take, take_all}
use Rattle.repo_io.specs.Lines.{has_feed, lines}
use Rattle.script_report.specs.declared.refusal.Refusal.TheVariants.{Limit}
use Rattle.script_story.specs.declared.ending.Ending.{Ending}
use Rattle.script_story.specs.declared.ending.Ending.TheVariants as an_ending
use Rattle.script_story.specs.Evaluation.{RunEnvironment, State, accepted, foreign, refused, not_evaluated}
use Rattle.script_story.specs.ScriptRun.{evaluated_next}
use Rattle.lab_text.specs.declared.status.LabStatus.TheVariants as status
use Rattle.lab_text.specs.LineTexts.{are_one_line_each, is_one_line, without_feed}
use Rattle.lab_text.specs.Notes.{is_note, without_notes}
use Rattle.lab_text.specs.Transcripts.{shown_line, shown_text}
use Rattle.lab_text.proofs.Feeds.{free_of, free_take, lines_are_one_each}
use Rattle.lab_text.proofs.NoteTexts.{note_then_feed, shown_is_note}
use Rattle.lab_text.proofs.TranscriptLaws.{script_of_both}
use Rattle.lab_lines.specs.Folding.{NextLine, Passed, Ran, after_line, after_note, fits, next_line, noted}
use Rattle.lab_lines.specs.Folding.{nothing_passed, ran_from, ran_over, scripted}
use Rattle.lab_lines.specs.Transcript.{status_at, transcript_form, transcript_of}
use Rattle.lab_lines.proofs.Folds.{by_next, evaluated_line, line_beyond, no_lines, noted_line}
use Rattle.lab_lines.proofs.LongLines.{not_ended}

-- ---- a line that is shown

module _ (line : List ℕ) (one : is_one_line line ≡ true) where
  shown_free : has_feed (shown_text line) ≡ false
  shown_free = free_take 32769 (without_feed line) (free_of line one)

  open_text : without_feed (shown_text line) ≡ shown_text line
  open_text = rw (not_ended (shown_text line) shown_free) refl

  shown_one : is_one_line (shown_text line) ≡ true
  shown_one = ap (λ (t : List ℕ). not (has_feed t)) open_text ∙ ap not shown_free

  shown_again : shown_line (shown_text line) ≡ shown_line line
  shown_again =
      let within : length (shown_text line) ≤ 32769 = omega (arith, length-take 32769 (without_feed line)) in
      ap (λ (t : List ℕ). t ++ 10 ∷ []) (ap (take 32769) open_text ∙ take_all 32769 (shown_text line) within)

shown_plain : (line : List ℕ) → is_note line ≡ false → is_note (shown_text line) ≡ false
shown_plain line plain = go (is_note (shown_text line)) refl where
  go : (b : Bool) → is_note (shown_text line) ≡ b → b ≡ false
  go true e = absurd (true≢false (sym (shown_is_note line (note_then_feed (shown_text line) ∙ e)) ∙ plain))
  go false e = refl

-- ---- the next line

module _ (env : RunEnvironment) (p : Passed) (line : List ℕ) where
  is_noted : next_line env p line ≡ noted → is_note line ≡ true
  is_noted e = elim (cases_Bool (fits p.lines p.octets line)) [
    | inl fit ↦ elim (cases_Bool (is_note line)) [
      | inl note ↦ note
      | inr other ↦
          let h : scripted (evaluated_next env p.reached line) ≡ noted =
          sym (evaluated_line {M = Unit {0}} transcript_form env p (tt {0}) line fit other) ∙ e in
          absurd cc
    ]
    | inr beyond ↦
        let h : scripted (refused Limit) ≡ noted =
        sym (line_beyond {M = Unit {0}} transcript_form env p (tt {0}) line beyond) ∙ e in
        absurd cc
  ]

  is_taken : (report : List ℕ) (next : State) → next_line env p line ≡ scripted (accepted report next)
      → is_note line ≡ false
  is_taken report next e = elim (cases_Bool (fits p.lines p.octets line)) [
    | inl fit ↦ elim (cases_Bool (is_note line)) [
      | inl note ↦
          let h : noted ≡ scripted (accepted report next) =
          sym (noted_line {M = Unit {0}} transcript_form env p (tt {0}) line fit note) ∙ e in
          absurd cc
      | inr other ↦ other
    ]
    | inr beyond ↦
        let h : scripted (refused Limit) ≡ scripted (accepted report next) =
        sym (line_beyond {M = Unit {0}} transcript_form env p (tt {0}) line beyond) ∙ e in
        absurd cc
  ]

-- ---- all lines

abbrev script_of : Ran (Unit {0}) → List (List ℕ)
script_of r = without_notes (lines r.text)

nothing_written : without_notes (lines []) ≡ []
unfolding lines
nothing_written = refl

kept_script : (env : RunEnvironment) (ls : List (List ℕ)) (p : Passed) → are_one_line_each ls ≡ true
    → (ran_from transcript_form env p (tt {0}) ls).ending ≡ an_ending.Done
    → script_of (ran_from transcript_form env p (tt {0}) ls) ≡ map shown_line (without_notes ls)
kept_script env [] p one done =
    ap script_of (no_lines {M = Unit {0}} transcript_form env p (tt {0})) ∙ nothing_written
kept_script env (line ∷ ls) p one done =
    let ones = and_parts (is_one_line line) (are_one_line_each ls) one in
    go (next_line env p line) refl ones.0 (λ q. kept_script env ls q ones.1) where
      go : (n : NextLine) → next_line env p line ≡ n → is_one_line line ≡ true
          → ((q : Passed) → (ran_from transcript_form env q (tt {0}) ls).ending ≡ an_ending.Done
          → script_of (ran_from transcript_form env q (tt {0}) ls) ≡ map shown_line (without_notes ls))
          → script_of (ran_from transcript_form env p (tt {0}) (line ∷ ls)) ≡ map shown_line (without_notes (line ∷ ls))
      go noted e single others =
          let is = by_next {M = Unit {0}} transcript_form env p (tt {0}) line noted e ls in
          let rest : without_notes (line ∷ ls) ≡ without_notes ls = rw (is_noted env p line e) refl in
          ap script_of is
          ∙ others (after_note p line) (sym (ap (λ (x : Ran (Unit {0})). x.ending) is) ∙ done)
          ∙ sym (ap (map shown_line) rest)
      go (scripted (accepted report next)) e single others =
          let is = by_next {M = Unit {0}} transcript_form env p (tt {0}) line (scripted (accepted report next)) e ls in
          let after = ran_from transcript_form env (after_line p line report next) (tt {0}) ls in
          let plain = is_taken env p line report next e in
          let rest : without_notes (line ∷ ls) ≡ line ∷ without_notes ls = rw plain refl in
          let again = shown_again line single in
          let kept = others (after_line p line report next)
          (sym (ap (λ (x : Ran (Unit {0})). x.ending) is) ∙ done) in
          ap script_of is
          ∙ script_of_both (shown_text line) report after.text (shown_one line single) (shown_plain line plain)
          ∙ (λ i. again i ∷ kept i)
          ∙ sym (ap (map shown_line) rest)
      go (scripted (refused why)) e single others =
          let h = sym (ap (λ (x : Ran (Unit {0})). x.ending)
          (by_next {M = Unit {0}} transcript_form env p (tt {0}) line (scripted (refused why)) e ls)) ∙ done in
          absurd cc
      go (scripted foreign) e single others =
          let h = sym (ap (λ (x : Ran (Unit {0})). x.ending)
          (by_next {M = Unit {0}} transcript_form env p (tt {0}) line (scripted foreign) e ls)) ∙ done in
          absurd cc
      go (scripted not_evaluated) e single others =
          let h = sym (ap (λ (x : Ran (Unit {0})). x.ending)
          (by_next {M = Unit {0}} transcript_form env p (tt {0}) line (scripted not_evaluated) e ls)) ∙ done in
          absurd cc

is_done : (e : Ending) → status_at e ≡ status.Done → e ≡ an_ending.Done
is_done an_ending.Done h = refl
is_done (an_ending.Refused line number) h = absurd cc
is_done (an_ending.Foreign line) h = absurd cc

pub script_is_there : (env : RunEnvironment) (input : List ℕ) → (transcript_of env input).status ≡ status.Done
    → without_notes (lines (transcript_of env input).text) ≡ map shown_line (without_notes (lines input))
script_is_there env input done =
    let ran = ran_over transcript_form env (tt {0}) (lines input) in
    ap (λ (t : List ℕ). without_notes (lines t)) (append-nil ran.text)
    ∙ kept_script env (lines input) nothing_passed (lines_are_one_each input) (is_done ran.ending done)
