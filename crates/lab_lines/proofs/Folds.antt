-- One line of a form at a time.
use Rattle.std.proofs.Common.{◌≡◌, ◌≢◌, ℕ, ◌+◌, true, false, List, [], ◌∷◌, ◌++◌, length, Option, Some, refl, sym, ap}
use Rattle.std.proofs.Common.{subst}
use Rattle.std.proofs.Common.{◌∙◌}
use Rattle.repo_io.specs.Outside.{GainsText, GainsPrefix}
use Rattle.repo_io.proofs.Outputs.{prefix_longer, prefix_whole, nothing_gained}
use Rattle.script_report.specs.declared.refusal.Refusal.TheVariants.{Limit}
use Rattle.script_report.specs.Refusals.{refusal_number}
use Rattle.script_story.specs.declared.ending.Ending.{Ending}
use Rattle.script_story.specs.declared.ending.Ending.TheVariants as an_ending
use Rattle.script_story.specs.Evaluation.{RunEnvironment, State, Verdict, foreign, refused, accepted}
use Rattle.script_story.specs.ScriptRun.{Reached, evaluated_next, reached_after}
use Rattle.script_lines.specs.declared.error.LineError.{LineError}
use Rattle.script_lines.specs.declared.error.LineError.TheVariants as error
use Rattle.script_lines.specs.RunStates.{IsLineError}
use Rattle.lab_text.specs.declared.status.LabStatus.{LabStatus}
use Rattle.lab_text.specs.declared.status.LabStatus.TheVariants.{NoMemory, WriteFault}
use Rattle.lab_text.specs.Notes.{is_note}
use Rattle.lab_text.specs.Transcripts.{shown_text}
use Rattle.lab_lines.specs.declared.over.Over.{Over}
use Rattle.lab_lines.specs.declared.over.Over.TheVariants.{Stopped, Faulted}
use Rattle.lab_lines.specs.declared.totals.Totals.{Totals}
use Rattle.lab_lines.specs.Carrying.{Fails, FallsShort, Halts, IsEndingOf, IsOver, IsStopWritten}
use Rattle.lab_lines.specs.Carrying.{Passes, TakesStop, ran, stopping_at}
use Rattle.lab_lines.specs.Folding.{FormOf, Lined, NextLine, Passed, Ran, after_line, after_note, after_stop, fits}
use Rattle.lab_lines.specs.Folding.{lined, looked, next_line}
use Rattle.lab_lines.specs.Folding.{noted, ran_from, ran_line, scripted, stops, taken_line, with_text}

-- what was passed is the same where its parts are
pub same_passed : (a b : Passed) → a.lines ≡ b.lines → a.octets ≡ b.octets → a.reached ≡ b.reached → a ≡ b
same_passed a b lines octets reached =
    let by_lines : ℕ → Passed = λ l. record { lines = l; octets = a.octets; reached = a.reached } in
    let by_octets : ℕ → Passed = λ o. record { lines = b.lines; octets = o; reached = a.reached } in
    let by_reached : Reached → Passed = λ r. record { lines = b.lines; octets = b.octets; reached = r } in
    ap by_lines lines ∙ ap by_octets octets ∙ ap by_reached reached

-- the script stops at a line for the reason `why`
pub record StopsSo {M : Type 0} (f : FormOf M) (env : RunEnvironment) (p : Passed) (m : M) (line : List ℕ)
    (why : LineError)
    : Type 0 where
  pub ending : Ending
  pub not_done : ending ≢ an_ending.Done
  pub goes : (others : List (List ℕ)) → ran_from f env p m (line ∷ others)
      ≡ stops f p (looked f p m line) line others (stopping_at (p.reached.lines + 1) line why) ending
  pub only : (other : Ending) → IsEndingOf (p.reached.lines + 1) why other → other ≡ ending

module _ {M : Type 0} (f : FormOf M) (env : RunEnvironment) (p : Passed) (m : M) where
  pub no_lines : ran_from f env p m [] ≡ ran [] m an_ending.Done p.lines
  unfolding ran_from
  no_lines = refl

  module _ (line : List ℕ) where
    then_others : List (List ℕ) → Passed → M → Ran M
    then_others others q n = ran_from f env q n others

    one_line : (others : List (List ℕ)) → ran_from f env p m (line ∷ others)
        ≡ ran_line f (then_others others) p m line others (next_line env p line)
    unfolding ran_from then_others
    one_line others = refl

    pub by_next : (next : NextLine) → next_line env p line ≡ next → (others : List (List ℕ))
        → ran_from f env p m (line ∷ others)
        ≡ ran_line f (λ (q : Passed) (n : M). ran_from f env q n others) p m line others next
    unfolding then_others
    by_next next e others =
        let go : NextLine → Ran M = λ x.
        ran_line f (λ (q : Passed) (n : M). ran_from f env q n others) p m line others x in
        one_line others ∙ ap go e

    -- ---- what the next line is

    pub noted_line : fits p.lines p.octets line ≡ true → is_note line ≡ true → next_line env p line ≡ noted
    noted_line fit note = rw (fit, note) refl

    pub evaluated_line : fits p.lines p.octets line ≡ true → is_note line ≡ false
        → next_line env p line ≡ scripted (evaluated_next env p.reached line)
    evaluated_line fit note = rw (fit, note) refl

    pub line_beyond : fits p.lines p.octets line ≡ false → next_line env p line ≡ scripted (refused Limit)
    line_beyond fit = rw fit refl

    -- ---- it is passed

    pub passes_note : next_line env p line ≡ noted → (q : Passed) (n : M) (a : Option (List ℕ))
        → q ≡ after_note p line → n ≡ f.note m line → Passes f env p m line q n a a
    passes_note next q n a passed kept = record {
      text = [];
      goes = λ others.
          let by_passed : Passed → Ran M = λ x. ran_from f env x (f.note m line) others in
          let by_form : M → Ran M = λ x. ran_from f env q x others in
          by_next noted next others ∙ ap by_passed (sym passed) ∙ ap by_form (sym kept);
      count = ap (λ (x : Passed). x.lines) passed;
      gained = nothing_gained a;
    }

    -- what the form keeps before the line
    abbrev k : M
    k = looked f p m line

    module _ (report : List ℕ) (next : State) (e : next_line env p line ≡ scripted (accepted report next)) where
      pub passes_taken : (q : Passed) (n : M) (a b : Option (List ℕ)) → q ≡ after_line p line report next
          → n ≡ f.line k (taken_line p line report next) → GainsText a b (f.text k (taken_line p line report next))
          → Passes f env p m line q n a b
      passes_taken q n a b passed kept gained = record {
        text = f.text k (taken_line p line report next);
        goes = λ others.
            let text = f.text k (taken_line p line report next) in
            let by_passed : Passed → Ran M = λ x.
            with_text text (ran_from f env x (f.line k (taken_line p line report next)) others) in
            let by_form : M → Ran M = λ x. with_text text (ran_from f env q x others) in
            by_next (scripted (accepted report next)) e others ∙ ap by_passed (sym passed) ∙ ap by_form (sym kept);
        count = ap (λ (x : Passed). x.lines) passed;
        gained = gained;
      }

      -- what the form writes of the line was not written whole
      pub fails_taken : (a b : Option (List ℕ)) (status : LabStatus)
          → FallsShort (f.text k (taken_line p line report next)) a b status → Fails f env p m line a b status
      fails_taken a b status short = record {
        failing = short.failing;
        prefix = λ others.
            let text = f.text k (taken_line p line report next) in
            let after = ran_from f env (after_line p line report next) (f.line k (taken_line p line report next))
            others in
            let is : (ran_from f env p m (line ∷ others)).text ≡ text ++ after.text =
            ap (λ (x : Ran M). x.text) (by_next (scripted (accepted report next)) e others) in
            let P : List ℕ → Type 0 = λ t. GainsPrefix a b t (status ≡ WriteFault) in
            subst P (sym is) (prefix_longer a b text after.text short.prefix);
      }

    -- nothing was written
    pub fails_nothing : (a : Option (List ℕ)) → Fails f env p m line a a NoMemory
    fails_nothing a = record {
      failing = tt;
      prefix = λ others. prefix_longer a a [] (ran_from f env p m (line ∷ others)).text
          (prefix_whole a a [] (λ e. cc) (nothing_gained a));
    }

    -- ---- the script stops at it

    pub stops_so : (why : LineError) (verdict : Verdict) → next_line env p line ≡ scripted verdict
        → IsLineError verdict why
        → why ≢ error.NoMemory → StopsSo f env p m line why
    stops_so (error.Refused why) verdict e is some = record {
      ending = an_ending.Refused (p.reached.lines + 1) (refusal_number why);
      not_done = λ h. cc;
      goes = by_next (scripted (refused why)) (e ∙ ap (λ (v : Verdict). scripted v) is);
      only = λ other h. h;
    }
    stops_so error.Foreign verdict e is some = record {
      ending = an_ending.Foreign (p.reached.lines + 1);
      not_done = λ h. cc;
      goes = by_next (scripted foreign) (e ∙ ap (λ (v : Verdict). scripted v) is);
      only = λ other h. h;
    }
    stops_so error.NoMemory verdict e is some = absurd (some refl)

    module _ (why : LineError) (so : StopsSo f env p m line why) (totals : Totals) (lines : totals.lines ≡ p.lines + 1)
        (octets : totals.octets ≡ p.octets + length line) (n : M) (a b : Option (List ℕ)) where
      halts_at : (end : Ending) → TakesStop f (p.reached.lines + 1) line why k n a b end
          → Halts f env p m line end totals n a b
      halts_at end t = record {
        text = f.text k (stopping_at (p.reached.lines + 1) line why);
        lines = lines;
        octets = octets;
        not_done = λ e. so.not_done (sym (so.only end t.ends) ∙ e);
        goes = λ others.
            let text = f.text k (stopping_at (p.reached.lines + 1) line why) in
            let kept = f.line k (stopping_at (p.reached.lines + 1) line why) in
            let by_lines : ℕ → Ran M = λ l.
            ran text (after_stop f l (p.octets + length line) kept others) so.ending l in
            let by_octets : ℕ → Ran M = λ o.
            ran text (after_stop f totals.lines o kept others) so.ending totals.lines in
            let by_form : M → Ran M = λ x.
            ran text (after_stop f totals.lines totals.octets x others) so.ending totals.lines in
            let by_end : Ending → Ran M = λ x.
            ran text (after_stop f totals.lines totals.octets n others) x totals.lines in
            so.goes others ∙ ap by_lines (sym lines) ∙ ap by_octets (sym octets) ∙ ap by_form (sym t.form)
            ∙ ap by_end (sym (so.only end t.ends));
        gained = t.gained;
      }

      fails_at : (status : LabStatus) → FallsShort (f.text k (stopping_at (p.reached.lines + 1) line why)) a b status
          → Fails f env p m line a b status
      fails_at status short = record {
        failing = short.failing;
        prefix = λ others.
            let text = f.text k (stopping_at (p.reached.lines + 1) line why) in
            let is : (ran_from f env p m (line ∷ others)).text ≡ text = ap (λ (x : Ran M). x.text) (so.goes others) in
            let P : List ℕ → Type 0 = λ t. GainsPrefix a b t (status ≡ WriteFault) in
            subst P (sym is) short.prefix;
      }

      over_at : (over : Over) → IsStopWritten f (p.reached.lines + 1) line why k n a b over
          → IsOver f env p m line totals n a b over
      over_at (Stopped end) t = halts_at end t
      over_at (Faulted status) short = fails_at status short

      pub over_stop : (number : ℕ) → number ≡ p.reached.lines + 1 → (over : Over)
          → IsStopWritten f number line why k n a b over → IsOver f env p m line totals n a b over
      over_stop number is over written =
          let P : ℕ → Type 0 = λ i. IsStopWritten f i line why k n a b over in over_at over (subst P is written)

    -- the script stops at the line, or memory ran out before
    pub over_stopped : (why : LineError) (verdict : Verdict) → next_line env p line ≡ scripted verdict
        → IsLineError verdict why
        → (totals : Totals) → totals.lines ≡ p.lines + 1 → totals.octets ≡ p.octets + length line → (n : M)
        → (a b : Option (List ℕ)) → (number : ℕ) → number ≡ p.reached.lines + 1 → (over : Over)
        → (seen : M) → seen ≡ k → IsStopWritten f number line why seen n a b over
        → (why ≡ error.NoMemory → (over ≡ Faulted NoMemory) × (b ≡ a)) → IsOver f env p m line totals n a b over
    over_stopped (error.Refused why) verdict e is totals lines octets n a b number same over seen looks written none =
        over_stop (error.Refused why) (stops_so (error.Refused why) verdict e is (λ h. cc)) totals lines octets n a b
        number same over (subst (λ (x : M). IsStopWritten f number line (error.Refused why) x n a b over) looks written)
    over_stopped error.Foreign verdict e is totals lines octets n a b number same over seen looks written none =
        over_stop error.Foreign (stops_so error.Foreign verdict e is (λ h. cc)) totals lines octets n a b number same
        over (subst (λ (x : M). IsStopWritten f number line error.Foreign x n a b over) looks written)
    over_stopped error.NoMemory verdict e is totals lines octets n a b number same over seen looks written none =
        let nothing = none refl in
        let P : Over → Type 0 = λ x. IsOver f env p m line totals n a b x in
        let Q : Option (List ℕ) → Type 0 = λ x. Fails f env p m line a x NoMemory in
        subst P (sym nothing.0) (subst Q (sym nothing.1) (fails_nothing a))

    -- ---- what is reported of it

    module _ (fit : fits p.lines p.octets line ≡ true) (other : is_note line ≡ false) (report : List ℕ) (next : State)
        (taken : evaluated_next env p.reached line ≡ accepted report next) (number : ℕ)
        (same : number ≡ p.reached.lines + 1) where
      stated : next_line env p line ≡ scripted (accepted report next)
      stated = evaluated_line fit other ∙ ap (λ (v : Verdict). scripted v) taken

      at_is : lined number (shown_text line) report (Some next) ≡ taken_line p line report next
      at_is = ap (λ (i : ℕ). lined i (shown_text line) report (Some next)) same

      pub passes_stated : (q : Passed) (n : M) (a b : Option (List ℕ)) → q.lines ≡ p.lines + 1
          → q.octets ≡ p.octets + length line → q.reached ≡ reached_after p.reached line report next
          → (seen : M) → seen ≡ k → n ≡ f.line seen (lined number (shown_text line) report (Some next))
          → GainsText a b (f.text seen (lined number (shown_text line) report (Some next)))
          → Passes f env p m line q n a b
      passes_stated q n a b lines octets reached seen looks kept gained =
          let P : Lined → Type 0 = λ at. GainsText a b (f.text k at) in
          let at = lined number (shown_text line) report (Some next) in
          passes_taken report next stated q n a b (same_passed q (after_line p line report next) lines octets reached)
          (kept ∙ ap (λ (x : M). f.line x at) looks ∙ ap (f.line k) at_is)
          (subst P at_is (subst (λ (x : M). GainsText a b (f.text x at)) looks gained))

      pub fails_stated : (a b : Option (List ℕ)) (status : LabStatus)
          → (seen : M) → seen ≡ k
          → FallsShort (f.text seen (lined number (shown_text line) report (Some next))) a b status
          → Fails f env p m line a b status
      fails_stated a b status seen looks short =
          let P : Lined → Type 0 = λ at. FallsShort (f.text k at) a b status in
          let at = lined number (shown_text line) report (Some next) in
          fails_taken report next stated a b status
          (subst P at_is (subst (λ (x : M). FallsShort (f.text x at) a b status) looks short))

pub no_ending : (number : ℕ) (why : LineError) (end : Ending) → IsEndingOf number why end → why ≡ error.NoMemory → ⊥
no_ending number (error.Refused why) end is e = cc
no_ending number error.Foreign end is e = cc
no_ending number error.NoMemory end is e = is
