-- What lint writes of a script, beside how a run of it ends.
use Rattle.std.proofs.Common.{◌≡◌, ◌∙◌, ℕ, ◌+◌, Bool, true, false, ◌&&◌, nat_le, nat_lt, List, []}
use Rattle.std.proofs.Common.{◌∷◌, ◌++◌, length, Option, Some, None, Result, Ok, Err, refl, sym, ap, arith}
use Rattle.std.proofs.Common.{if◌then◌else◌}
use Rattle.std.specs.List.{list_any}
use Rattle.std.proofs.lemmas.Bool.{and_from, and_parts, le-leb, leb-true, lt-ltb, ltb-true, or_parts}
use Rattle.script_lang.specs.declared.verb.Verb.{Verb}
use Rattle.script_lang.specs.declared.verb.Verb.TheVariants as verb
use Rattle.script_lang.specs.declared.line_fault.LineFault.{LineFault}
use Rattle.script_lang.specs.declared.line_fault.LineFault.TheVariants as line_fault
use Rattle.script_lang.specs.declared.check_fault.CheckFault.{CheckFault}
use Rattle.script_lang.specs.declared.check_fault.CheckFault.TheVariants as check_fault
use Rattle.script_lang.specs.Kinds.{Value, Text, Named, Octets}
use Rattle.script_lang.specs.Forms.{Stated}
use Rattle.script_lang.specs.Limits.{line_octets}
use Rattle.script_lang.specs.Lines.{line_of}
use Rattle.script_lang.specs.Checking.{Declared, after_line}
use Rattle.script_report.specs.declared.refusal.Refusal.{Refusal}
use Rattle.script_report.specs.declared.refusal.Refusal.TheVariants.{Limit}
use Rattle.script_report.specs.Refusals.{refusal_number}
use Rattle.script_story.specs.declared.ending.Ending.TheVariants as ending
use Rattle.script_story.specs.StatedEvents.{stated_event}
use Rattle.script_story.specs.Evaluation as story
use Rattle.script_story.specs.Evaluation.{RunEnvironment, State, Verdict, accepted, acted_by, declaring_member}
use Rattle.script_story.specs.Evaluation.{declaring_mirror, taken_by, with_client, with_group}
use Rattle.script_story.specs.ScriptRun.{Reached, evaluated_next, is_within_script, nothing_reached, run_from}
use Rattle.script_story.specs.ScriptRun.{ScriptRun, run_of_line, within_report}
use Rattle.script_story.specs.Headline.{LineIsTaken, LinesAreTaken}
use Rattle.script_story.proofs.HeadlineLines.{begins}
use Rattle.script_story.proofs.HeadlineTaken.{accepted_state, fetched_so, heard_so, listed_so, reported_so, watched_so}
use Rattle.script_story.proofs.LinesTaken.{LineTaken, acted_stated, nothing, stating, taken_line}
use Rattle.script_story.proofs.Sayings.{is_evaluated}
use Rattle.lab_text.specs.LineTexts.{without_feed}
use Rattle.lab_text.specs.Notes.{is_note}
use Rattle.lab_lint.specs.Columns.{body_of}
use Rattle.lab_lint.specs.Findings.{Finding, check_finding, finding_text, script_finding}
use Rattle.lab_lint.specs.Linting.{Linted, Passed, after_note, after_refused, beyond, checked}
use Rattle.lab_lint.specs.Linting.{evaluated, fits, line_refused, line_taken, lint_from, linted_line}
use Rattle.lab_lint.specs.Linting.{read, with_text}
use Rattle.lab_top.specs.LintLaws as laws
use Rattle.lab_top.specs.LintLaws.{IsCarriedOut, OtherLinesAreCarriedOut, RefusedLinesEndRuns, TakenLinesAreClean}
use Rattle.lab_top.specs.LintLaws.{passed_at}

-- ---- what a line declares

module _ (env : RunEnvironment) (s : State) (stated : Stated) (d : Declared) (report : List ℕ) (new : State) where
  by_group : (values : List Value) → with_group s d values ≡ accepted report new → new.declared ≡ d
  by_group (Named name ∷ []) is = ap (λ (x : State). x.declared) (accepted_state report [] new _ is)
  by_group values is = cc

  by_member : (values : List Value) → declaring_member s d values ≡ accepted report new → new.declared ≡ d
  by_member (Text label ∷ Named node ∷ Octets key ∷ []) is =
      ap (λ (x : State). x.declared) (accepted_state report [] new _ is)
  by_member values is = cc

  by_client : (values : List Value) → with_client s d values ≡ accepted report new → new.declared ≡ d
  by_client (Text label ∷ Named node ∷ Octets key ∷ []) is =
      ap (λ (x : State). x.declared) (accepted_state report [] new _ is)
  by_client values is = cc

  by_mirror : (values : List Value) → declaring_mirror s d values ≡ accepted report new → new.declared ≡ d
  by_mirror (Text label ∷ publisher ∷ Named prefix ∷ []) is =
      ap (λ (x : State). x.declared) (accepted_state report [] new _ is)
  by_mirror values is = cc

  declares : (form : Verb) → taken_by form env s d stated ≡ accepted report new → new.declared ≡ d
  unfolding acted_by
  declares verb.Group is = by_group stated.values is
  declares verb.Member is = by_member stated.values is
  declares verb.Client is = by_client stated.values is
  declares verb.Mirror is = by_mirror stated.values is
  declares verb.Watch is = ap (λ (x : State). x.declared) (watched_so env s d stated.values report new is).next
  declares verb.Told is = ap (λ (x : State). x.declared) (reported_so env s d stated.values report new is).next
  declares verb.Mdeliver is = ap (λ (x : State). x.declared) (heard_so env s d stated.values report new is).next
  declares verb.Mfetch is = ap (λ (x : State). x.declared) (fetched_so env s d stated.values report new is).next
  declares verb.Mcatalogue is = ap (λ (x : State). x.declared) (listed_so env s d stated.values report new is).next
  declares verb is =
      ap (λ (x : State). x.declared) (acted_stated env s d stated report new (stated_event d stated) refl is).2.next

-- ---- one line

-- A line that is taken is within the limits of a script.
taken_within : (env : RunEnvironment) (r : Reached) (line report : List ℕ) (new : State)
    → evaluated_next env r line ≡ accepted report new → is_within_script r line ≡ true
taken_within env r line report new h = go (is_within_script r line) refl h where
  go : (b : Bool) → is_within_script r line ≡ b
      → (if b then within_report r (story.evaluated env r.state line) else story.refused Limit) ≡ accepted report new
      → is_within_script r line ≡ true
  go true is k = is
  go false is k = cc

module _ (r : Reached) (line : List ℕ) (within : is_within_script r line ≡ true) where
  -- What is within the limits of a script is within those of an input.
  within_input : fits (passed_at r) line ≡ true
  within_input =
      let parts = and_parts (nat_lt r.lines 100000) (nat_le (r.octets + length line) 16777216) within in
      and_from (nat_lt r.lines 1000000) (nat_le (r.octets + length line) 300000000)
      (lt-ltb r.lines 1000000 (omega (arith, ltb-true r.lines 100000 parts.0)))
      (le-leb (r.octets + length line) 300000000 (omega (arith, leb-true (r.octets + length line) 16777216 parts.1)))

  judged : evaluated (passed_at r) line ≡ read r.state.declared line (line_of line)
  judged =
      ap (λ (b : Bool). if b then read r.state.declared line (line_of line) else line_refused script_finding) within

-- A line that is taken is read, and declares the same in lint.
lint_takes : (env : RunEnvironment) (r : Reached) (line report : List ℕ) (new : Reached)
    → LineIsTaken env r line report new → evaluated (passed_at r) line ≡ line_taken new.state.declared
lint_takes env r line report new t =
    judged r line (taken_within env r line report new.state t.verdict) ∙ go (taken_line env r line report new t) where
      go : LineTaken env r.state line report new.state
          → read r.state.declared line (line_of line) ≡ line_taken new.state.declared
      go (nothing none same) =
          ap (read r.state.declared line) none ∙ ap (λ (x : State). line_taken x.declared) (sym same)
      go (stating stated d says after is) =
          ap (read r.state.declared line) says
          ∙ ap (checked r.state.declared stated (body_of line)) after
          ∙ ap line_taken (sym (declares env r.state stated d report new.state stated.verb is))

-- What lint writes of a line that is no note, and of those after it.
lint_next : (p : Passed) (line : List ℕ) (others : List (List ℕ)) → fits p line ≡ true → is_note line ≡ false
    → lint_from p (line ∷ others) ≡ linted_line (λ next. lint_from next others) p line (evaluated p line)
unfolding lint_from
lint_next p line others within plain = go (fits p line) (is_note line) within plain where
  note : Linted
  note = lint_from (after_note p line) others

  next : Linted
  next = linted_line (λ q. lint_from q others) p line (evaluated p line)

  go : (b c : Bool) → b ≡ true → c ≡ false
      → (if b then if c && nat_le (length (without_feed line)) line_octets then note else next else beyond p) ≡ next
  go true false k l = refl
  go b c k l = cc

-- ---- the lines that a run takes

clean_from : (env : RunEnvironment) (r : Reached) (first reports : List (List ℕ)) (last : Reached)
    → LinesAreTaken env r first reports last → list_any is_note first ≡ false → (others : List (List ℕ))
    → lint_from (passed_at r) (first ++ others) ≡ lint_from (passed_at last) others
clean_from env r [] [] last taken plain others = ap (λ (x : Reached). lint_from (passed_at x) others) (sym taken)
clean_from env r [] (report ∷ reports) last taken plain others = absurd taken
clean_from env r (line ∷ first) [] last taken plain others = absurd taken
clean_from env r (line ∷ first) (report ∷ reports) last taken plain others =
    let next : Reached = taken.0 in
    let t : LineIsTaken env r line report next = taken.1 in
    let no_note = or_parts (is_note line) (list_any is_note first) plain in
    lint_next (passed_at r) line (first ++ others)
    (within_input r line (taken_within env r line report next.state t.verdict)) no_note.0
    ∙ ap (linted_line (λ q. lint_from q (first ++ others)) (passed_at r) line) (lint_takes env r line report next t)
    ∙ ap (λ (x : Reached). lint_from (passed_at x) (first ++ others)) (sym t.reached)
    ∙ clean_from env next first reports last taken.2 no_note.1 others

pub taken_lines_are_clean : TakenLinesAreClean
taken_lines_are_clean env first reports r t others =
    clean_from env nothing_reached first reports r t.taken t.plain others

-- How many lines a run has taken.
many : (env : RunEnvironment) (r : Reached) (first reports : List (List ℕ)) (last : Reached)
    → LinesAreTaken env r first reports last → last.lines ≡ r.lines + length first
many env r [] [] last taken = let same = ap (λ (x : Reached). x.lines) taken in omega (arith, same)
many env r [] (report ∷ reports) last taken = absurd taken
many env r (line ∷ first) [] last taken = absurd taken
many env r (line ∷ first) (report ∷ reports) last taken =
    let next : Reached = taken.0 in
    let one : next.lines ≡ r.lines + 1 = ap (λ (x : Reached). x.lines) taken.1.reached in
    omega (arith, one, many env next first reports last taken.2)

-- ---- a line that lint refuses

refused_why : (f g : Finding) → line_refused f ≡ line_refused g → f.why ≡ g.why
refused_why f g h = cc

refused_so : (f : Finding) (d : Declared) → line_taken d ≡ line_refused f → ⊥
refused_so f d h = cc

module _ (env : RunEnvironment) (r : Reached) (line : List ℕ) where
  -- A line whose verdict isn't known is none.
  no_verdict : {P : Type 0} → story.evaluated env r.state line ≡ story.not_evaluated → P
  no_verdict is = absurd (is_evaluated env r.state line is)

  by_check : (f : Finding) (stated : Stated) → line_of line ≡ Ok (Some stated) → (c : Result Declared CheckFault)
      → after_line r.state.declared stated ≡ c
      → checked r.state.declared stated (body_of line) c ≡ line_refused f
      → story.evaluated env r.state line ≡ story.refused f.why
  unfolding story.evaluated story.evaluated_line
  by_check f stated says (Ok d) after h = absurd (refused_so f d h)
  by_check f stated says (Err fault) after h =
      by_fault fault (ap (story.read env r.state) says ∙ ap (story.checked env r.state stated) after) h where
        by_fault : (fault : CheckFault) → story.read env r.state (line_of line) ≡ story.check_refused fault
            → line_refused (check_finding fault r.state.declared stated (body_of line)) ≡ line_refused f
            → story.read env r.state (line_of line) ≡ story.refused f.why
        by_fault check_fault.NoGroup is k = is ∙ ap story.refused (refused_why _ f k)
        by_fault check_fault.Late is k = is ∙ ap story.refused (refused_why _ f k)
        by_fault check_fault.UnknownLabel is k = is ∙ ap story.refused (refused_why _ f k)
        by_fault check_fault.Duplicate is k = is ∙ ap story.refused (refused_why _ f k)
        by_fault check_fault.Limit is k = is ∙ ap story.refused (refused_why _ f k)
        by_fault check_fault.TooLarge is k = is ∙ ap story.refused (refused_why _ f k)
        by_fault check_fault.NoMemory is k = no_verdict is

  by_reading : (f : Finding) (c : Result (Option Stated) LineFault) → line_of line ≡ c
      → read r.state.declared line c ≡ line_refused f → story.evaluated env r.state line ≡ story.refused f.why
  unfolding story.evaluated
  by_reading f (Ok None) is h = absurd (refused_so f r.state.declared h)
  by_reading f (Ok (Some stated)) is h = by_check f stated is (after_line r.state.declared stated) refl h
  by_reading f (Err line_fault.Syntax) is h = ap (story.read env r.state) is ∙ ap story.refused (refused_why _ f h)
  by_reading f (Err line_fault.Limit) is h = ap (story.read env r.state) is ∙ ap story.refused (refused_why _ f h)
  by_reading f (Err line_fault.NoMemory) is h = no_verdict (ap (story.read env r.state) is)

  -- A line that lint refuses is refused by a run for the same reason.
  refused_too : (f : Finding) → evaluated (passed_at r) line ≡ line_refused f
      → evaluated_next env r line ≡ story.refused f.why
  refused_too f h = go (is_within_script r line) refl h where
    go : (b : Bool) → is_within_script r line ≡ b
        → (if b then read r.state.declared line (line_of line) else line_refused script_finding) ≡ line_refused f
        → (if b then within_report r (story.evaluated env r.state line) else story.refused Limit)
        ≡ story.refused f.why
    go true is k = ap (within_report r) (by_reading f (line_of line) refl k)
    go false is k = ap story.refused (refused_why script_finding f k)

-- A run ends at the line that is refused.
ends_there : (env : RunEnvironment) (r : Reached) (line : List ℕ) (others : List (List ℕ)) (why : Refusal)
    → evaluated_next env r line ≡ story.refused why
    → (run_from env r (line ∷ others)).ending ≡ ending.Refused (r.lines + 1) (refusal_number why)
unfolding run_from
ends_there env r line others why is =
    ap (λ (v : Verdict). (run_of_line (λ next. run_from env next others) r line v).ending) is

pub refused_lines_end_runs : RefusedLinesEndRuns
refused_lines_end_runs env first reports r t line others f plain within h =
    let count : r.lines ≡ length first = omega (arith, many env nothing_reached first reports r t.taken) in
    record {
      run = λ input is.
          ap (λ (ls : List (List ℕ)). (run_from env nothing_reached ls).ending) is
          ∙ ap (λ (s : ScriptRun). s.ending) (begins env first (line ∷ others) reports r t.taken)
          ∙ ends_there env r line others f.why (refused_too env r line f h)
          ∙ ap (λ (n : ℕ). ending.Refused (n + 1) (refusal_number f.why)) count;
      lint =
          taken_lines_are_clean env first reports r t (line ∷ others)
          ∙ lint_next (passed_at r) line others within plain
          ∙ ap (linted_line (λ next. lint_from next others) (passed_at r) line) h
          ∙ ap (λ (n : ℕ).
          with_text (finding_text (n + 1) f) (lint_from (after_refused (passed_at r) line) others)) count;
    }

-- ---- a line that lint doesn't refuse

taken_as : (c d : Declared) → line_taken c ≡ line_taken d → c ≡ d
taken_as c d h = cc

not_taken : (f : Finding) (d : Declared) → line_refused f ≡ line_taken d → ⊥
not_taken f d h = cc

module _ (env : RunEnvironment) (r : Reached) (line : List ℕ) (d : Declared) where
  -- Within the limits of a script a line has the verdict that the state gives it, unless the report is too long.
  verdict : is_within_script r line ≡ true
      → evaluated_next env r line ≡ within_report r (story.evaluated env r.state line)
  verdict within =
      ap (λ (b : Bool). if b then within_report r (story.evaluated env r.state line) else story.refused Limit) within

  carried_out : is_within_script r line ≡ true → (c : Result (Option Stated) LineFault) → line_of line ≡ c
      → read r.state.declared line c ≡ line_taken d → IsCarriedOut env r line d
  unfolding story.evaluated story.evaluated_line
  carried_out within (Ok None) is h =
      laws.nothing is (verdict within ∙ ap (within_report r) (ap (story.read env r.state) is))
  carried_out within (Ok (Some stated)) is h = go (after_line r.state.declared stated) refl h where
    go : (c : Result Declared CheckFault) → after_line r.state.declared stated ≡ c
        → checked r.state.declared stated (body_of line) c ≡ line_taken d → IsCarriedOut env r line d
    go (Ok after) allows k =
        let same : after_line r.state.declared stated ≡ Ok d = allows ∙ ap Ok (taken_as after d k) in
        laws.stating stated is same
        (verdict within ∙ ap (within_report r)
        (ap (story.read env r.state) is ∙ ap (story.checked env r.state stated) same))
    go (Err fault) allows k = absurd (not_taken _ d k)
  carried_out within (Err fault) is h = absurd (not_taken _ d h)

pub other_lines_are_carried_out : OtherLinesAreCarriedOut
other_lines_are_carried_out env r line d h = go (is_within_script r line) refl h where
  go : (b : Bool) → is_within_script r line ≡ b
      → (if b then read r.state.declared line (line_of line) else line_refused script_finding) ≡ line_taken d
      → IsCarriedOut env r line d
  go true is k = carried_out env r line d is (line_of line) refl k
  go false is k = absurd (not_taken script_finding d k)
