-- One line of a run at a time.
use Rattle.std.proofs.Common.{◌≡◌, ◌≢◌, ℕ, ◌+◌, ◌-◌, ◌≤◌, true, false, not, eqb, leb, List, [], ◌∷◌, ◌++◌, length, take}
use Rattle.std.proofs.Common.{drop, get_or, Option, Err, refl, sym, ap, ◌∙◌, append_assoc, length-append, arith, ◌⊎◌}
use Rattle.std.proofs.Common.{inl, inr}
use Rattle.std.proofs.lemmas.Bool.{and_right, both_ways, cases_Bool, lt-leb}
use Rattle.std.proofs.lemmas.List.{append-nil, length-take, take-append-drop, take_all}
use Rattle.std.proofs.lemmas.List.Folds.{list_any_at}
use Rattle.script_lang.specs.declared.line_fault.LineFault.TheVariants as line_fault
use Rattle.script_lang.specs.Lines.{ends_with, line_of, without_last_octet}
use Rattle.script_story.specs.declared.ending.Ending.TheVariants.{Done, Refused}
use Rattle.script_report.specs.declared.refusal.Refusal.TheVariants.{Limit}
use Rattle.script_lines.specs.declared.error.LineError.{LineError}
use Rattle.script_lines.specs.declared.error.LineError.TheVariants as error
use Rattle.script_story.specs.Evaluation.{RunEnvironment, Verdict, evaluated, refused}
use Rattle.script_lines.specs.RunStates.{IsLineError}
use Rattle.script_report.specs.Refusals.{refusal_text}
use Rattle.script_story.specs.Answers.{status_of}
use Rattle.repo_io.specs.Lines.{IsWhole, has_feed, lines}
use Rattle.script_lines.specs.Reading.{HasLine, IsTooLong}
use Rattle.script_story.specs.ScriptRun.{Reached, ScriptRun, after_text, ended, is_within_script, evaluated_next}
use Rattle.script_story.specs.ScriptRun.{run_from}
use Rattle.script_story.specs.ScriptRun.{run_of_line}
use Rattle.script_lines.specs.LineErrors.{line_error_status, line_error_text}
use Rattle.repo_top.specs.Carrying.{Took}
use Rattle.repo_io.proofs.LineLaws.{long_line, whole_first}

pub after_after : (x y : List ℕ) (s : ScriptRun) → after_text x (after_text y s) ≡ after_text (x ++ y) s
after_after x y s =
    let with_text : List ℕ → ScriptRun = λ t. record s { text = t } in
    ap with_text (sym (append_assoc x y s.text))

module _ (env : RunEnvironment) (r : Reached) where
  pub no_lines : run_from env r [] ≡ ended r.state [] Done
  unfolding run_from
  no_lines = refl

  module _ (line : List ℕ) where
    run_line : (others : List (List ℕ)) → run_from env r (line ∷ others)
        ≡ run_of_line (λ next. run_from env next others) r line (evaluated_next env r line)
    unfolding run_from
    run_line others = refl

    -- a line that is taken
    pub goes_on : (next : Reached) (old new : Option (List ℕ)) (t : Took env r line next old new)
        (others : List (List ℕ)) → run_from env r (line ∷ others)
        ≡ after_text t.report (run_from env next others)
    goes_on next old new t others =
        let tell : Verdict → ScriptRun = λ v. run_of_line (λ n. run_from env n others) r line v in
        let then : Reached → ScriptRun = λ n. after_text t.report (run_from env n others) in
        run_line others ∙ ap tell t.verdict ∙ ap then (sym t.then)

    -- a line at which the run stops
    pub stop_reports : (s : LineError) → IsLineError (evaluated_next env r line) s → s ≢ error.NoMemory
        → (others : List (List ℕ))
        → ((run_from env r (line ∷ others)).text ≡ line_error_text (r.lines + 1) s)
        × (status_of (run_from env r (line ∷ others)).ending ≡ line_error_status (r.lines + 1) s)
    stop_reports (error.Refused why) is some others =
        let tell : Verdict → ScriptRun = λ v. run_of_line (λ n. run_from env n others) r line v in
        let script_run = run_line others ∙ ap tell is in
        (ap (λ (t : ScriptRun). t.text) script_run, ap (λ (t : ScriptRun). status_of t.ending) script_run)
    stop_reports error.Foreign is some others =
        let tell : Verdict → ScriptRun = λ v. run_of_line (λ n. run_from env n others) r line v in
        let script_run = run_line others ∙ ap tell is in
        (ap (λ (t : ScriptRun). t.text) script_run, ap (λ (t : ScriptRun). status_of t.ending) script_run)
    stop_reports error.NoMemory is some others = absurd (some refl)

    pub refused_run : (why : Verdict) (others : List (List ℕ)) → evaluated_next env r line ≡ why
        → run_from env r (line ∷ others) ≡ run_of_line (λ n. run_from env n others) r line why
    refused_run why others e =
        let tell : Verdict → ScriptRun = λ v. run_of_line (λ n. run_from env n others) r line v in
        run_line others ∙ ap tell e

-- ---- lines that are too long

-- octets without a line feed don't end with one
not_ended : (octets : List ℕ) → has_feed octets ≡ false → ends_with 10 octets ≡ false
not_ended [] free = refl
not_ended (b ∷ bs) free = elim (cases_Bool (eqb (get_or (b ∷ bs) (length (b ∷ bs) - 1) 0) 10)) [
  | inr other ↦ and_right (not (eqb (length (b ∷ bs)) 0)) (eqb (get_or (b ∷ bs) (length (b ∷ bs) - 1) 0) 10) other
  | inl feed ↦ absurd (both_ways (has_feed (b ∷ bs)) free
      (list_any_at (λ octet. eqb octet 10) (b ∷ bs) (length (b ∷ bs) - 1) 0 (omega arith) feed))
]

without_feed : (prefix rest : List ℕ) → has_feed prefix ≡ false → ends_with 10 (prefix ++ rest) ≡ true
    → length prefix ≤ length (without_last_octet (prefix ++ rest))
without_feed prefix [] free ends = absurd (both_ways (ends_with 10 prefix) (not_ended prefix free)
    (ap (ends_with 10) (sym (append-nil prefix)) ∙ ends))
without_feed prefix (b ∷ bs) free ends = omega (
  arith,
  length-take (length (prefix ++ b ∷ bs) - 1) (prefix ++ b ∷ bs),
  length-append prefix (b ∷ bs),
)

long_line_of : (prefix rest : List ℕ) → IsTooLong prefix → line_of (prefix ++ rest) ≡ Err line_fault.Limit
long_line_of prefix rest long = elim (cases_Bool (ends_with 10 (prefix ++ rest))) [
  | inl ended_so ↦
      let more = without_feed prefix rest long.free ended_so in
      let test : leb (length (without_last_octet (prefix ++ rest))) 32768 ≡ false =
      lt-leb (length (without_last_octet (prefix ++ rest))) 32768 (omega (arith, more, long.long)) in
      rw (ended_so, test) refl
  | inr open_ ↦
      let test : leb (length (prefix ++ rest)) 32768 ≡ false =
      lt-leb (length (prefix ++ rest)) 32768 (omega (arith, length-append prefix rest, long.long)) in
      rw (open_, test) refl
]

module _ (env : RunEnvironment) (r : Reached) where
  pub long_refused : (prefix rest : List ℕ) → IsTooLong prefix → evaluated_next env r (prefix ++ rest) ≡ refused Limit
  unfolding evaluated
  long_refused prefix rest long = elim (cases_Bool (is_within_script r (prefix ++ rest))) [
    | inl within ↦ rw (within, long_line_of prefix rest long) refl
    | inr beyond ↦ rw beyond refl
  ]

  -- such a line ends the run, whatever of it is known
  long_run : (prefix rest : List ℕ) (others : List (List ℕ)) → IsTooLong prefix
      → run_from env r ((prefix ++ rest) ∷ others) ≡ ended r.state (refusal_text (r.lines + 1) Limit)
      (Refused (r.lines + 1) 4)
  long_run prefix rest others long = refused_run env r (prefix ++ rest) (refused Limit) others
      (long_refused prefix rest long)

  not_nothing : (octets : List ℕ) → IsTooLong octets → octets ≢ []
  not_nothing octets long e = let none = ap length e in omega (arith, none, long.long)

  -- the run of octets begins with the line at their start
  pub first_line_run : (held rest : List ℕ) (count : ℕ) → HasLine count held
      → run_from env r (lines (held ++ rest)) ≡ run_from env r
      (take count held ∷ lines (drop count held ++ rest))
  first_line_run held rest count h = by_line h.line where
    by_line : (IsWhole (take count held) ⊎ (IsTooLong held × (count ≡ length held)))
        → run_from env r (lines (held ++ rest)) ≡ run_from env r
        (take count held ∷ lines (drop count held ++ rest))
    by_line (inl whole) =
        let parts : held ++ rest ≡ take count held ++ (drop count held ++ rest) =
        ap (λ (t : List ℕ). t ++ rest) (sym (take-append-drop count held))
        ∙ append_assoc (take count held) (drop count held) rest in
        ap (λ (t : List ℕ). run_from env r (lines t)) parts
        ∙ ap (run_from env r) (whole_first (take count held) (drop count held ++ rest) whole)
    by_line (inr long) =
        let b = long_line held rest (not_nothing held long.0) long.0.free in
        let all : take count held ≡ held = take_all count held (omega (arith, long.1)) in
        ap (run_from env r) b.is ∙ long_run held b.rest b.others long.0
        ∙ sym (rw all (ap (λ (t : List ℕ). run_from env r (t ∷ lines (drop count held ++ rest)))
        (sym (append-nil held)) ∙ long_run held [] (lines (drop count held ++ rest)) long.0))
