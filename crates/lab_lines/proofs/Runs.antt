-- A form over an input: lines that were passed, and how it may end.
use Rattle.std.proofs.Common.{◌≡◌, ℕ, ◌+◌, ◌≤◌, List, [], ◌∷◌, ◌++◌, length}
use Rattle.std.proofs.Common.{take}
use Rattle.std.proofs.Common.{drop, Option, None, refl, sym, ap, subst, ◌∙◌, append_assoc, length-append, arith, ◌⊎◌}
use Rattle.std.proofs.Common.{inl, inr}
use Rattle.std.specs.List.{filter}
use Rattle.std.proofs.lemmas.Bool.{cases_Bool}
use Rattle.std.proofs.lemmas.List.{append-nil, take-append-drop, take_all}
use Rattle.repo_io.specs.Lines.{IsWhole, lines}
use Rattle.repo_io.specs.Outside.{GainsPrefix}
use Rattle.repo_io.proofs.LineLaws.{whole_first}
use Rattle.script_report.specs.declared.refusal.Refusal.TheVariants.{Limit}
use Rattle.script_story.specs.declared.ending.Ending.{Ending}
use Rattle.script_story.specs.declared.ending.Ending.TheVariants as an_ending
use Rattle.script_story.specs.Evaluation.{RunEnvironment, foreign, refused, accepted, not_evaluated}
use Rattle.script_lines.specs.declared.error.LineError.TheVariants as error
use Rattle.script_lines.specs.LineErrors.{line_error_text}
use Rattle.script_lines.specs.Reading.{HasLine, IsTooLong}
use Rattle.lab_text.specs.declared.status.LabStatus.{LabStatus}
use Rattle.lab_text.specs.declared.status.LabStatus.TheVariants.{WriteFault}
use Rattle.lab_text.specs.Transcripts.{shown_text}
use Rattle.lab_lines.specs.declared.totals.Totals.{Totals}
use Rattle.lab_lines.specs.Carrying.{Fails, Halts, Passes}
use Rattle.lab_lines.specs.Carrying.{after_feed, after_stop_at, ran, through_feed}
use Rattle.lab_lines.specs.Folding.{FormOf, Lined, NextLine, Passed, Ran, after_stop, lined, next_line}
use Rattle.lab_lines.specs.Folding.{noted}
use Rattle.lab_lines.specs.Folding.{after_line, after_note, after_notes, looked}
use Rattle.lab_lines.specs.Folding.{ran_from, scripted, taken_line, with_text}
use Rattle.lab_lines.specs.Written.{can_be_evaluated}
use Rattle.lab_lines.proofs.Folds.{StopsSo, by_next, line_beyond, no_lines, stops_so}
use Rattle.lab_lines.proofs.LongLines.{first_of, long_beyond, long_judged, long_shown, long_some, not_ended}
use Rattle.lab_lines.proofs.LongLines.{whole_ended}
use Rattle.lab_lines.proofs.LongLines.{whole_judged}

-- ---- the line with which octets begin

pub with_with : {M : Type 0} (x y : List ℕ) (r : Ran M) → with_text x (with_text y r) ≡ with_text (x ++ y) r
with_with {M} x y r =
    let with_it : List ℕ → Ran M = λ t. ran t r.form r.ending r.read in
    ap with_it (sym (append_assoc x y r.text))

-- at least the lines that were passed are read before a run ends
lines_read : {M : Type 0} (f : FormOf M) (env : RunEnvironment) (p : Passed) (m : M) (ls : List (List ℕ))
    → p.lines ≤ (ran_from f env p m ls).read
lines_read f env p m [] = rw (no_lines f env p m) (omega arith)
lines_read {M} f env p m (line ∷ others) =
    by_line (λ q n. lines_read f env q n others) (next_line env p line) refl where
      by_line : ((q : Passed) (n : M) → q.lines ≤ (ran_from f env q n others).read) → (next : NextLine)
          → next_line env p line ≡ next → p.lines ≤ (ran_from f env p m (line ∷ others)).read
      by_line grows noted e = rw (by_next f env p m line noted e others)
          (omega (arith, grows (after_note p line) (f.note m line)))
      by_line grows (scripted (accepted report next)) e =
          rw (by_next f env p m line (scripted (accepted report next)) e others)
          (omega (
            arith,
            grows (after_line p line report next)
                (f.line (looked f p m line) (taken_line p line report next)),
          ))
      by_line grows (scripted (refused why)) e =
          rw (by_next f env p m line (scripted (refused why)) e others) (omega arith)
      by_line grows (scripted foreign) e =
          rw (by_next f env p m line (scripted foreign) e others) (omega arith)
      by_line grows (scripted not_evaluated) e =
          rw (by_next f env p m line (scripted not_evaluated) e others) (omega arith)

module _ {M : Type 0} (f : FormOf M) (env : RunEnvironment) (p : Passed) (m : M) where
  -- the script stops at a line that is too long
  long_stops : (leading more : List ℕ) → IsTooLong leading
      → StopsSo f env p m (leading ++ more) (error.Refused Limit)
  long_stops leading more long = stops_so f env p m (leading ++ more) (error.Refused Limit) (refused Limit)
      (line_beyond f env p m (leading ++ more) (long_beyond leading long p.lines p.octets more)) refl (λ e. cc)

  bare_stops : (leading : List ℕ) → IsTooLong leading → StopsSo f env p m leading (error.Refused Limit)
  bare_stops leading long = subst (λ (t : List ℕ). StopsSo f env p m t (error.Refused Limit)) (append-nil leading)
      (long_stops leading [] long)

  -- the form writes the same of a line that is too long, whatever of it is known
  long_text : (leading more : List ℕ) (others : List (List ℕ)) → IsTooLong leading
      → (ran_from f env p m ((leading ++ more) ∷ others)).text ≡ (ran_from f env p m (leading ∷ [])).text
  long_text leading more others long =
      let here = long_stops leading more long in
      let bare = bare_stops leading long in
      let number = p.reached.lines + 1 in
      let at : List ℕ → List ℕ = λ shown. f.text (f.before m p.reached.state shown)
      (lined number shown (line_error_text number (error.Refused Limit)) None) in
      ap (λ (r : Ran M). r.text) (here.goes others) ∙ ap at (long_shown leading long more)
      ∙ sym (ap (λ (r : Ran M). r.text) (bare.goes []))

  -- no line that is too long is passed
  pub long_not_passed : (leading : List ℕ) (q : Passed) (n : M) (a b : Option (List ℕ)) → IsTooLong leading
      → Passes f env p m leading q n a b → ⊥
  long_not_passed leading q n a b long passes =
      let bare = bare_stops leading long in
      bare.not_done (sym (ap (λ (r : Ran M). r.ending) (bare.goes [])) ∙ ap (λ (r : Ran M). r.ending) (passes.goes [])
      ∙ ap (λ (r : Ran M). r.ending) (no_lines f env q n))

  -- ---- the script stops at a line

  pub nothing_after : (l o : ℕ) (x : M) → after_stop f l o x [] ≡ x
  unfolding after_notes
  nothing_after l o x = elim (cases_Bool f.reads_on) [ inl on ↦ rw on refl | inr off ↦ rw off refl ]

  module _ (line : List ℕ) (ending : Ending) (totals : Totals) (n : M) (a b : Option (List ℕ))
      (halts : Halts f env p m line ending totals n a b) where
    -- the line is too long
    module _ (long : IsTooLong line) where
      seen : List ℕ → Lined
      seen shown = lined (p.reached.lines + 1) shown (line_error_text (p.reached.lines + 1) (error.Refused Limit)) None

      look : List ℕ → M
      look shown = f.before m p.reached.state shown

      end_is : (line' : List ℕ) (so : StopsSo f env p m line' (error.Refused Limit))
          → so.ending ≡ an_ending.Refused (p.reached.lines + 1) 4
      end_is line' so = sym (so.only (an_ending.Refused (p.reached.lines + 1) 4) refl)

      long_real : (more : List ℕ) → ran_from f env p m (lines (line ++ more))
          ≡ ran halts.text (after_stop f totals.lines (totals.octets + length (through_feed more)) n
          (lines (after_feed more))) ending totals.lines
      unfolding seen look
      long_real more =
          let tail = through_feed more in
          let others = lines (after_feed more) in
          let here = long_stops line tail long in
          let bare = bare_stops line long in
          let both = sym (bare.goes []) ∙ halts.goes [] in
          let shown = shown_text line in
          let texts : f.text (look shown) (seen shown) ≡ halts.text = ap (λ (r : Ran M). r.text) both in
          let forms : f.line (look shown) (seen shown) ≡ n =
          sym (nothing_after (p.lines + 1) (p.octets + length line) (f.line (look shown) (seen shown)))
          ∙ ap (λ (r : Ran M). r.form) both ∙ nothing_after totals.lines totals.octets n in
          let ends : here.ending ≡ ending = end_is (line ++ tail) here ∙ sym (end_is line bare)
          ∙ ap (λ (r : Ran M). r.ending) both in
          let octets : p.octets + length (line ++ tail) ≡ totals.octets + length tail =
          omega (arith, halts.octets, length-append line tail) in
          let go : List ℕ → ℕ → ℕ → M → Ending → Ran M = λ t l o x e. ran t (after_stop f l o x others) e l in
          let by_shown : List ℕ → Ran M = λ t.
          go (f.text (look t) (seen t)) (p.lines + 1) (p.octets + length (line ++ tail)) (f.line (look t) (seen t))
          here.ending in
          let by_text : List ℕ → Ran M = λ t.
          go t (p.lines + 1) (p.octets + length (line ++ tail)) (f.line (look shown) (seen shown)) here.ending in
          let by_form : M → Ran M = λ x. go halts.text (p.lines + 1) (p.octets + length (line ++ tail)) x here.ending in
          let by_octets : ℕ → Ran M = λ o. go halts.text (p.lines + 1) o n here.ending in
          let by_lines : ℕ → Ran M = λ l. go halts.text l (totals.octets + length tail) n here.ending in
          let by_end : Ending → Ran M = λ e. go halts.text totals.lines (totals.octets + length tail) n e in
          ap (ran_from f env p m) (first_of line more (long_some line long) long.free) ∙ here.goes others
          ∙ ap by_shown (long_shown line long tail) ∙ ap by_text texts ∙ ap by_form forms ∙ ap by_octets octets
          ∙ ap by_lines (sym halts.lines) ∙ ap by_end ends

    pub halts_real : IsWhole line ⊎ IsTooLong line → (more : List ℕ) → ran_from f env p m (lines (line ++ more))
        ≡ ran halts.text (after_stop_at f totals.lines totals.octets n line more) ending totals.lines
    halts_real (inl whole) more =
        ap (ran_from f env p m) (whole_first line more whole)
        ∙ rw (whole_ended line whole) (halts.goes (lines more))
    halts_real (inr long) more = rw (not_ended line long.free) (long_real long more)

    -- what was written of the line, where the octets `more` were taken after it
    pub halts_text : IsWhole line ⊎ IsTooLong line → (more : List ℕ)
        → (ran_from f env p m (filter can_be_evaluated (lines (line ++ more)))).text ≡ halts.text
    halts_text (inl whole) more =
        let is : filter can_be_evaluated (lines (line ++ more)) ≡ line ∷ filter can_be_evaluated (lines more) =
        ap (filter can_be_evaluated) (whole_first line more whole) ∙ rw (whole_judged line whole) refl in
        ap (λ (ls : List (List ℕ)). (ran_from f env p m ls).text) is
        ∙ ap (λ (r : Ran M). r.text) (halts.goes (filter can_be_evaluated (lines more)))
    halts_text (inr long) more =
        let tail = through_feed more in
        let others = filter can_be_evaluated (lines (after_feed more)) in
        let is : filter can_be_evaluated (lines (line ++ more)) ≡ (line ++ tail) ∷ others =
        ap (filter can_be_evaluated) (first_of line more (long_some line long) long.free)
        ∙ rw (long_judged line long tail) refl in
        ap (λ (ls : List (List ℕ)). (ran_from f env p m ls).text) is ∙ long_text line tail others long
        ∙ ap (λ (r : Ran M). r.text) (halts.goes [])

  -- the run fails at a line
  pub fails_real : (line : List ℕ) (a b : Option (List ℕ)) (status : LabStatus)
      → IsWhole line ⊎ IsTooLong line → Fails f env p m line a b status → (more : List ℕ)
      → GainsPrefix a b (ran_from f env p m (lines (line ++ more))).text (status ≡ WriteFault)
  fails_real line a b status (inl whole) fails more =
      let P : List (List ℕ) → Type 0 = λ ls. GainsPrefix a b (ran_from f env p m ls).text (status ≡ WriteFault) in
      subst P (sym (whole_first line more whole)) (fails.prefix (lines more))
  fails_real line a b status (inr long) fails more =
      let tail = through_feed more in
      let others = lines (after_feed more) in
      let same : (ran_from f env p m (lines (line ++ more))).text ≡ (ran_from f env p m (line ∷ [])).text =
      ap (λ (ls : List (List ℕ)). (ran_from f env p m ls).text)
      (first_of line more (long_some line long) long.free) ∙ long_text line tail others long in
      let P : List ℕ → Type 0 = λ t. GainsPrefix a b t (status ≡ WriteFault) in
      subst P (sym same) (fails.prefix [])

  -- no fewer lines are read before a run ends than were passed
  pub read_grows : (ls : List (List ℕ)) → p.lines ≤ (ran_from f env p m ls).read
  read_grows ls = lines_read f env p m ls

-- the line with which the octets held begin
pub line_kind : (held : List ℕ) (count : ℕ) → HasLine count held
    → IsWhole (take count held) ⊎ IsTooLong (take count held)
line_kind held count h = by_line h.line where
  by_line : IsWhole (take count held) ⊎ (IsTooLong held × (count ≡ length held))
      → IsWhole (take count held) ⊎ IsTooLong (take count held)
  by_line (inl whole) = inl whole
  by_line (inr long) = inr (subst IsTooLong (sym (take_all count held (omega (arith, long.1)))) long.0)

pub held_parts : (held more : List ℕ) (count : ℕ) → held ++ more ≡ take count held ++ (drop count held ++ more)
held_parts held more count = ap (λ (t : List ℕ). t ++ more) (sym (take-append-drop count held))
    ∙ append_assoc (take count held) (drop count held) more
