-- How a run stops at a line.
use Rattle.std.proofs.Common.{◌≡◌, ℕ, ◌+◌, ◌<◌, List, [], ◌∷◌, ◌++◌, length, take, Option, sym, ap, subst, ◌∙◌}
use Rattle.repo_io.specs.declared.status.Status.{Status}
use Rattle.repo_io.specs.declared.status.Status.TheVariants.{Done, Usage, Refused, ReadFault, WriteFault, NoMemory}
use Rattle.repo_io.specs.declared.status.Status.TheVariants.{Foreign}
use Rattle.script_lines.specs.declared.error.LineError.{LineError}
use Rattle.script_lines.specs.declared.error.LineError.TheVariants as error
use Rattle.repo_io.specs.Outside.{GainsText, GainsPrefix}
use Rattle.script_story.specs.Evaluation.{RunEnvironment, State, accepted}
use Rattle.script_lines.specs.RunStates.{IsLineError}
use Rattle.script_story.specs.ScriptRun.{Reached, ScriptRun, reached_after, evaluated_next, run_from}
use Rattle.repo_io.specs.Statuses.{IsEndOfRun}
use Rattle.script_story.specs.Answers.{status_of}
use Rattle.repo_top.specs.Taken.{IsStoppedAt}
use Rattle.script_lines.specs.LineErrors.{line_error_status, line_error_text}
use Rattle.repo_top.specs.Carrying.{Halts, Stops, IsStatusOf}
use Rattle.repo_io.proofs.Outputs.{prefix_longer, prefix_taken}
use Rattle.repo_top.proofs.ScriptRuns.{refused_run, stop_reports}

-- ---- a text that was not written whole

pub halts_unwritten : (line : ℕ) (why : LineError) (a b : Option (List ℕ)) (n : ℕ)
    → GainsText a b (take n (line_error_text line why))
    → n < length (line_error_text line why) → Halts line why a b WriteFault
halts_unwritten line why a b n p lt = record {
  stops = tt;
  same = λ printed. absurd printed;
  text = λ printed. absurd printed;
  prefix = prefix_taken a b n (line_error_text line why) lt p;
}

-- ---- at a line

module _ (env : RunEnvironment) (r : Reached) (line : List ℕ) (a b : Option (List ℕ)) where
  -- its report was not written whole
  pub stops_unwritten : (report : List ℕ) (next : State) (n : ℕ) → evaluated_next env r line ≡ accepted report next
      → GainsText a b (take n report) → n < length report → Stops env r line a b WriteFault
  stops_unwritten report next n verdict p lt = record {
    stops = tt;
    tells = λ others.
        let more = (run_from env (reached_after r line report next) others).text in
        let text : (run_from env r (line ∷ others)).text ≡ report ++ more =
        ap (λ (s : ScriptRun). s.text) (refused_run env r line (accepted report next) others verdict) in
        let F : List ℕ → Type 0 = λ t. GainsPrefix a b t (WriteFault ≡ WriteFault) in
        record {
          ending = λ printed. absurd printed;
          text = λ printed. absurd printed;
          prefix = subst F (sym text) (prefix_longer a b report more (prefix_taken a b n report lt p));
        };
    at = λ number at. absurd at;
  }

  printed_where : (status : Status) (number : ℕ) → IsStoppedAt status number → IsEndOfRun status
  printed_where Done number at = absurd at
  printed_where Usage number at = absurd at
  printed_where (Refused l n) number at = tt
  printed_where ReadFault number at = absurd at
  printed_where WriteFault number at = absurd at
  printed_where NoMemory number at = absurd at
  printed_where (Foreign l) number at = tt

  stopped_there : (why : LineError) (number : ℕ) → IsStoppedAt (line_error_status (r.lines + 1) why) number → number
      ≡ r.lines + 1
  stopped_there (error.Refused why) number at = sym at
  stopped_there error.Foreign number at = sym at
  stopped_there error.NoMemory number at = absurd at

  halted_there : (why : LineError) (status : Status) → Halts (r.lines + 1) why a b status → (number : ℕ)
      → IsStoppedAt status number → number ≡ r.lines + 1
  halted_there why status h number at =
      let P : Status → Type 0 = λ s. IsStoppedAt s number in
      stopped_there why number (subst P (h.same (printed_where status number at)) at)

  by_texts : (why : LineError) (status : Status) (s : ScriptRun) → Halts (r.lines + 1) why a b status
      → s.text ≡ line_error_text (r.lines + 1) why → status_of s.ending ≡ line_error_status (r.lines + 1) why
      → IsStatusOf s a b status
  by_texts why status s h text ending =
      let G : List ℕ → Type 0 = λ t. GainsText a b t in
      let F : List ℕ → Type 0 = λ t. GainsPrefix a b t (status ≡ WriteFault) in
      record {
        ending = λ printed. h.same printed ∙ sym ending;
        text = λ printed. subst G (sym text) (h.text printed);
        prefix = subst F (sym text) h.prefix;
      }

  -- nothing was written
  by_nothing : (status : Status) (s : ScriptRun) → Halts (r.lines + 1) error.NoMemory a b status
      → IsStatusOf s a b status
  by_nothing status s h =
      let none : IsEndOfRun status → ⊥ = λ printed. subst IsEndOfRun (h.same printed) printed in
      record {
        ending = λ printed. absurd (none printed);
        text = λ printed. absurd (none printed);
        prefix = prefix_longer a b [] s.text h.prefix;
      }

  -- the line is refused or foreign, or memory ran out
  pub stops_halted : (why : LineError) (status : Status) → IsLineError (evaluated_next env r line) why
      → Halts (r.lines + 1) why a b status → Stops env r line a b status
  stops_halted (error.Refused why) status is h = record {
    stops = h.stops;
    tells = λ others. let t = stop_reports env r line (error.Refused why) is (λ e. cc) others in
        by_texts (error.Refused why) status (run_from env r (line ∷ others)) h t.0 t.1;
    at = halted_there (error.Refused why) status h;
  }
  stops_halted error.Foreign status is h = record {
    stops = h.stops;
    tells = λ others. let t = stop_reports env r line error.Foreign is (λ e. cc) others in
        by_texts error.Foreign status (run_from env r (line ∷ others)) h t.0 t.1;
    at = halted_there error.Foreign status h;
  }
  stops_halted error.NoMemory status is h = record {
    stops = h.stops;
    tells = λ others. by_nothing status (run_from env r (line ∷ others)) h;
    at = halted_there error.NoMemory status h;
  }
