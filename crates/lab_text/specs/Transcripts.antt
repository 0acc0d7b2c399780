-- What a transcript writes of a line and of its report.
use Rattle.std.specs.Prelude.{ℕ, ◌+◌, List, [], ◌∷◌, ◌++◌, take, codes}
use Rattle.script_lang.specs.Limits.{line_octets}
use Rattle.lab_text.specs.LineTexts.{without_feed, line_texts, marked_line, marked_lines}

-- A line without its line feed. Of a line that is too long come its first 32,769 octets, which are too long for a
-- line, too.
abbrev pub shown_text : List ℕ → List ℕ
shown_text line = take (line_octets + 1) (without_feed line)

-- A line as it stands, with a line feed, which is added where it lacks one.
abbrev pub shown_line : List ℕ → List ℕ
shown_line line = shown_text line ++ 10 ∷ []

-- A line of a report, without its line feed, as a note with one.
abbrev pub report_note : List ℕ → List ℕ
report_note text = marked_line (codes "#> ") text

-- A report as notes, line by line.
abbrev pub report_notes : List ℕ → List ℕ
report_notes report = marked_lines (codes "#> ") (line_texts report)

-- A line, and its report as notes.
abbrev pub line_with_report : List ℕ → List ℕ → List ℕ
line_with_report line report = shown_line line ++ report_notes report
