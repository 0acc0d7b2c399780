-- What holds of a transcript that is read again.
use Rattle.std.specs.Prelude.{◌≡◌, ◌≤◌, ◌||◌, ℕ, Bool, true, not, List, length, nat_le}
use Rattle.std.specs.List.{list_all}
use Rattle.script_lang.specs.Limits.{line_octets}
use Rattle.script_story.specs.Evaluation.{RunEnvironment}
use Rattle.repo_io.specs.Lines.{lines}
use Rattle.lab_text.specs.declared.status.LabStatus.TheVariants.{Done}
use Rattle.lab_text.specs.Cutting.{AreWholeLines}
use Rattle.lab_text.specs.Differences.{sum_text}
use Rattle.lab_text.specs.LineTexts.{without_feed}
use Rattle.lab_text.specs.Notes.{is_note}
use Rattle.lab_text.specs.Outcomes.{Outcome}
use Rattle.lab_text.specs.Limits.{most_lines, most_octets}
use Rattle.lab_lines.specs.Transcript.{transcript_of}

-- The text has no more lines and octets than an input may have, notes among them.
pub record IsWithin (text : List ℕ) : Type 0 where
  pub few_lines : length (lines text) ≤ most_lines
  pub few_octets : length text ≤ most_octets

-- Each note is within the length of a line.
abbrev pub notes_fit : List (List ℕ) → Bool
notes_fit ls = list_all (λ line. not (is_note line) || nat_le (length (without_feed line)) line_octets) ls

-- An input of whole lines, whose transcript is within the limits of an input, too, and has no note that is too long.
pub record CanBeReadAgain (env : RunEnvironment) (input : List ℕ) : Type 0 where
  pub whole : AreWholeLines input
  pub within : IsWithin input
  pub transcript : IsWithin (transcript_of env input).text
  pub notes : notes_fit (lines (transcript_of env input).text) ≡ true

-- A check found that no line differs.
pub record IsSame (outcome : Outcome) : Type 0 where
  pub lines : ℕ
  pub text : outcome.text ≡ sum_text 0 lines
  pub status : outcome.status ≡ Done
