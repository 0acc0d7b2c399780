-- How a form is carried over the lines of an input, and how it ends.
use Rattle.std.specs.Prelude.{◌≡◌, ◌≢◌, ⊤, ◌⊎◌, ℕ, ◌+◌, Bool, true, false, List, [], ◌∷◌, ◌++◌, ◌==◌, length, Option}
use Rattle.std.specs.Prelude.{None, Result}
use Rattle.std.specs.Prelude.{Ok, Err, IsOk, ◌<◌, ◌≤◌, take, if◌then◌else◌}
use Rattle.std.specs.List.{concat, filter}
use Rattle.std.specs.Io.KnownBytes.{IsAtEnd}
use Rattle.repo_io.specs.declared.failed.Failed.{Failed}
use Rattle.repo_io.specs.Lines.{IsWhole, lines}
use Rattle.repo_io.specs.Outside.{GainsText, GainsPrefix, HasRisen}
use Rattle.script_lang.specs.Lines.{ends_with}
use Rattle.script_report.specs.Refusals.{refusal_number}
use Rattle.script_story.specs.declared.ending.Ending.{Ending}
use Rattle.script_story.specs.declared.ending.Ending.TheVariants as an_ending
use Rattle.script_story.specs.Evaluation.{RunEnvironment}
use Rattle.script_story.specs.ScriptRun.{Reached}
use Rattle.script_lines.specs.declared.script.Script.{Script}
use Rattle.script_lines.specs.declared.error.LineError.{LineError}
use Rattle.script_lines.specs.declared.error.LineError.TheVariants as error
use Rattle.script_lines.specs.Reading.{IsTooLong, LineIsBegun}
use Rattle.script_lines.specs.Scripts.{IsScript}
use Rattle.script_lines.specs.LineErrors.{line_error_text}
use Rattle.lab_text.specs.declared.status.LabStatus.{LabStatus}
use Rattle.lab_text.specs.declared.status.LabStatus.TheVariants.{Done, Usage, Refused, ReadFault, WriteFault, NoMemory}
use Rattle.lab_text.specs.declared.status.LabStatus.TheVariants.{Foreign, Differs}
use Rattle.lab_text.specs.Outcomes.{IsEnd, Outcome}
use Rattle.lab_text.specs.Transcripts.{shown_text}
use Rattle.lab_lines.specs.declared.totals.Totals.{Totals}
use Rattle.lab_lines.specs.declared.over.Over.{Over}
use Rattle.lab_lines.specs.declared.over.Over.TheVariants.{Stopped, Faulted}
use Rattle.lab_lines.specs.Folding.{FormOf, Lined, Passed, Ran, after_notes, after_stop, form_outcome, lined}
use Rattle.lab_text.specs.Limits.{most_lines, most_octets}
use Rattle.lab_lines.specs.Folding.{ran_from, ran_over, with_text}
use Rattle.lab_lines.specs.Written.{WritesLines, can_be_evaluated}

-- What was passed: the lines and octets of `totals`, and `reached`, the result of the script's lines among them.
abbrev pub passed : Totals → Reached → Passed
passed totals reached = record { lines = totals.lines; octets = totals.octets; reached = reached }

-- Another line can follow: `script` is sound, and no more lines and octets were passed than an input may have.
pub record CanGoOn (script : Script) (totals : Totals) : Type 0 where
  pub is : IsScript script
  pub lines : totals.lines ≤ most_lines
  pub octets : totals.octets ≤ most_octets

-- A sink's count of faults never falls, and where writing failed it rose.
pub record CountsFaults (WriteFailed : Type 0) (old new : ℕ) : Type 0 where
  pub risen : WriteFailed → HasRisen old new
  pub kept : old ≤ new

-- The result of a form: its text, what it keeps, the ending, and how many lines were read.
abbrev pub ran : {M : Type 0} → List ℕ → M → Ending → ℕ → Ran M
ran text form ending read = record { text = text; form = form; ending = ending; read = read }

-- The statuses of a form that didn't write its text to the end, where the source did not fail.
abbrev pub IsFailing : LabStatus → Type 0
IsFailing Done = ⊥
IsFailing Usage = ⊥
IsFailing Refused = ⊥
IsFailing ReadFault = ⊥
IsFailing WriteFault = ⊤
IsFailing NoMemory = ⊤
IsFailing Foreign = ⊥
IsFailing Differs = ⊥

-- ---- a line

-- A text was not written whole.
pub record FallsShort (text : List ℕ) (old new : Option (List ℕ)) (status : LabStatus) : Type 0 where
  pub failing : IsFailing status
  pub prefix : GainsPrefix old new text (status ≡ WriteFault)

-- A text was written, or not whole.
abbrev pub Writes : List ℕ → Option (List ℕ) → Option (List ℕ) → Result (Unit {0}) LabStatus → Type 0
Writes text old new (Ok x) = GainsText old new text
Writes text old new (Err status) = FallsShort text old new status

-- How a script ends that stops for this reason at the line of this number.
abbrev pub IsEndingOf : ℕ → LineError → Ending → Type 0
IsEndingOf line (error.Refused why) ending = ending ≡ an_ending.Refused line (refusal_number why)
IsEndingOf line error.Foreign ending = ending ≡ an_ending.Foreign line
IsEndingOf line error.NoMemory ending = ⊥

-- The line of this number at which the script stops, as a form gets it.
abbrev pub stopping_at : ℕ → List ℕ → LineError → Lined
stopping_at number line why = lined number (shown_text line) (line_error_text number why) None

-- A form took the line at which the script stops for the reason `why`, and the form's text of that line was written.
pub record TakesStop {M : Type 0} (f : FormOf M) (number : ℕ) (line : List ℕ) (why : LineError) (m n : M)
    (old new : Option (List ℕ)) (ending : Ending) : Type 0 where
  pub ends : IsEndingOf number why ending
  pub form : n ≡ f.line m (stopping_at number line why)
  pub gained : GainsText old new (f.text m (stopping_at number line why))

-- A form took the line at which the script stops for the reason `why`, and the form's text of that line was written, or
-- not whole.
abbrev pub IsStopWritten : {M : Type 0} → FormOf M → ℕ → List ℕ → LineError → M → M → Option (List ℕ) → Option (List ℕ)
    → Over → Type 0
IsStopWritten f number line why m n old new (Stopped ending) = TakesStop f number line why m n old new ending
IsStopWritten f number line why m n old new (Faulted status) =
    FallsShort (f.text m (stopping_at number line why)) old new status

-- The next line was passed.
pub record Passes {M : Type 0} (f : FormOf M) (env : RunEnvironment) (p : Passed) (m : M) (line : List ℕ)
    (next : Passed)
    (n : M) (old new : Option (List ℕ)) : Type 0 where
  pub text : List ℕ
  pub goes : (others : List (List ℕ))
      → ran_from f env p m (line ∷ others) ≡ with_text text (ran_from f env next n others)
  pub count : next.lines ≡ p.lines + 1
  pub gained : GainsText old new text

-- The script stops at the next line, and `totals` counts the lines and octets that were passed with it.
pub record Halts {M : Type 0} (f : FormOf M) (env : RunEnvironment) (p : Passed) (m : M) (line : List ℕ)
    (ending : Ending)
    (totals : Totals) (n : M) (old new : Option (List ℕ)) : Type 0 where
  pub text : List ℕ
  pub lines : totals.lines ≡ p.lines + 1
  pub octets : totals.octets ≡ p.octets + length line
  pub not_done : ending ≢ an_ending.Done
  pub goes : (others : List (List ℕ)) → ran_from f env p m (line ∷ others)
      ≡ ran text (after_stop f totals.lines totals.octets n others) ending totals.lines
  pub gained : GainsText old new text

-- Memory ran out, or the sink failed.
pub record Fails {M : Type 0} (f : FormOf M) (env : RunEnvironment) (p : Passed) (m : M) (line : List ℕ)
    (old new : Option (List ℕ)) (status : LabStatus) : Type 0 where
  pub failing : IsFailing status
  pub prefix : (others : List (List ℕ))
      → GainsPrefix old new (ran_from f env p m (line ∷ others)).text (status ≡ WriteFault)

-- Why no line follows.
abbrev pub IsOver : {M : Type 0} → FormOf M → RunEnvironment → Passed → M → List ℕ → Totals → M → Option (List ℕ)
    → Option (List ℕ) → Over → Type 0
IsOver f env p m line totals n old new (Stopped ending) = Halts f env p m line ending totals n old new
IsOver f env p m line totals n old new (Faulted status) = Fails f env p m line old new status

-- ---- the end

-- The statuses of a form other than `Usage` and `ReadFault`.
abbrev pub IsSettled : LabStatus → Type 0
IsSettled Done = ⊤
IsSettled Usage = ⊥
IsSettled Refused = ⊤
IsSettled ReadFault = ⊥
IsSettled WriteFault = ⊤
IsSettled NoMemory = ⊤
IsSettled Foreign = ⊤
IsSettled Differs = ⊤

-- The text of an outcome was written, or a prefix of it.
pub record Ends (o : Outcome) (old new : Option (List ℕ)) (status : LabStatus) : Type 0 where
  pub same : IsEnd status → status ≡ o.status
  pub text : IsEnd status → GainsText old new o.text
  pub prefix : GainsPrefix old new o.text (status ≡ WriteFault)

-- The octets up to the first line feed, which is among them.
unfoldable pub through_feed : List ℕ → List ℕ
through_feed [] = []
through_feed (octet ∷ octets) = if octet == 10 then octet ∷ [] else octet ∷ through_feed octets

-- The octets after the first line feed.
unfoldable pub after_feed : List ℕ → List ℕ
after_feed [] = []
after_feed (octet ∷ octets) = if octet == 10 then octets else after_feed octets

-- What a form keeps after the script stopped at a line that begins with `line`, where `passed` lines and `octets`
-- octets were passed, those of `line` among them, and the octets `more` follow.
abbrev pub after_stop_at : {M : Type 0} → FormOf M → ℕ → ℕ → M → List ℕ → List ℕ → M
after_stop_at f passed octets m line more =
    if ends_with 10 line then after_stop f passed octets m (lines more)
    else after_stop f passed (octets + length (through_feed more)) m (lines (after_feed more))

-- The first octets of `old` were read, and `new` are the others.
pub record HasRead (old new : List ℕ) : Type 0 where
  pub octets : List ℕ
  pub are : old ≡ octets ++ new

-- The statuses of a form that didn't read the notes to their end.
abbrev pub IsUnread : LabStatus → Type 0
IsUnread Done = ⊥
IsUnread Usage = ⊥
IsUnread Refused = ⊥
IsUnread ReadFault = ⊤
IsUnread WriteFault = ⊥
IsUnread NoMemory = ⊤
IsUnread Foreign = ⊥
IsUnread Differs = ⊥

-- The first `count` octets held are a piece of a line, and `ended` says whether the line ends with them: they are a
-- line with its line feed, they are more than a line may have and no line feed was read, or they are the last line.
pub record IsPiece (held : List ℕ) (left : Option (List ℕ)) (count : ℕ) (ended : Bool) : Type 0 where
  pub within : count ≤ length held
  pub kind : (IsWhole (take count held) × (ended ≡ true))
      ⊎ ((IsTooLong held × (count ≡ length held) × (ended ≡ false))
      ⊎ (LineIsBegun held × (count ≡ length held) × (ended ≡ true) × IsAtEnd left))

-- The rest of a line was passed, or so much of it that nothing after it is within the limits.
pub record RestIsPassed (old new : Totals) (held left : List ℕ) (result : Result (Unit {0}) Failed)
    (before now : List ℕ) : Type 0 where
  pub lines : new.lines ≡ old.lines
  pub read : HasRead (held ++ before) (left ++ now)
  pub passed : IsOk result
      → ((new.octets ≡ old.octets + length (through_feed (held ++ before)))
      × (left ++ now ≡ after_feed (held ++ before)))
      ⊎ ((most_octets < new.octets) × (new.octets ≤ old.octets + length (through_feed (held ++ before))))

-- A form took the notes at the beginning of the octets that were held or unread.
pub record NotesAreRead {M : Type 0} (f : FormOf M) (totals : Totals) (m n : M) (held : List ℕ)
    (result : Result (Unit {0}) LabStatus) (before now : List ℕ) : Type 0 where
  pub read : HasRead (held ++ before) now
  pub notes : IsOk result → n ≡ after_notes f totals.lines totals.octets m (lines (held ++ before))

-- A form took the notes right after a line, whose end was passed before where `ended` is true.
pub record RestIsRead {M : Type 0} (f : FormOf M) (ended : Bool) (totals : Totals) (m n : M) (held : List ℕ)
    (result : Result (Unit {0}) LabStatus) (before now : List ℕ) : Type 0 where
  pub read : HasRead (held ++ before) now
  pub notes : IsOk result → n ≡ (
      if ended then after_notes f totals.lines totals.octets m (lines (held ++ before))
      else after_notes f totals.lines (totals.octets + length (through_feed (held ++ before))) m
      (lines (after_feed (held ++ before))))

-- The script stopped at a line that begins with `line`, and the form ended.
pub record EndsAfter {M : Type 0} (f : FormOf M) (ending : Ending) (passed octets : ℕ) (m : M) (line held : List ℕ)
    (old new : Option (List ℕ)) (status : LabStatus) (before now : List ℕ) : Type 0 where
  pub ends : Ends (f.end (after_stop_at f passed octets m line (held ++ before)) ending) old new status
  pub unread : status ≡ ReadFault → GainsText old new []
  pub read : HasRead (held ++ before) now
  pub unread_rest : f.reads_on ≡ false → now ≡ before

-- ---- a run

-- Lines were passed, `p` is the result of them, and the octets `held` are read and not passed.
pub record Carried {M : Type 0} (f : FormOf M) (env : RunEnvironment) (begun : M) (held : List ℕ) (p : Passed) (m : M)
    (old new : Option (List ℕ)) (input rest : List ℕ) : Type 0 where
  pub done : List (List ℕ)
  pub octets : List ℕ
  pub text : List ℕ
  pub parts : input ≡ octets ++ (held ++ rest)
  pub cut : (more : List ℕ) → lines (octets ++ more) ≡ done ++ lines more
  pub joined : concat done ≡ octets
  pub count : p.lines ≡ length done
  pub evaluated : filter can_be_evaluated done ≡ done
  pub goes : (others : List (List ℕ))
      → ran_over f env begun (done ++ others) ≡ with_text text (ran_from f env p m others)
  pub gained : GainsText old new text

-- The result of a form over a known input.
pub record RunEnds {M : Type 0} (f : FormOf M) (env : RunEnvironment) (begun : M) (old new : Option (List ℕ))
    (status : LabStatus) (input rest : List ℕ) : Type 0 where
  pub ends : Ends (form_outcome f env begun input) old new status
  pub lines : WritesLines f env begun old new status input rest
