-- What is read of an input: the lines of a script without its notes, within limits.
use Rattle.std.specs.Prelude.{ℕ, ◌+◌, Bool, true, false, ◌&&◌, ◌||◌, nat_lt, nat_le, List, [], ◌∷◌, length}
use Rattle.std.specs.Prelude.{if◌then◌else◌}
use Rattle.repo_io.specs.Lines.{lines}
use Rattle.script_lang.specs.Limits.{line_octets, script_lines, script_octets}
use Rattle.lab_text.specs.Limits.{most_lines, most_octets}
use Rattle.lab_text.specs.LineTexts.{without_feed}
use Rattle.lab_text.specs.Notes.{is_note}
use Rattle.lab_seeds.specs.declared.input.Totals.{Totals}

-- The totals before the first line.
abbrev pub no_totals : Totals
no_totals = record { lines = 0; octets = 0; script_lines = 0; script_octets = 0 }

-- The totals with one more line.
abbrev pub with_line : Totals → List ℕ → Totals
with_line t line = record {
  lines = t.lines + 1;
  octets = t.octets + length line;
  script_lines = if is_note line then t.script_lines else t.script_lines + 1;
  script_octets = if is_note line then t.script_octets else t.script_octets + length line;
}

-- A line is no longer than a line may be, and within the limits of an input.
abbrev pub fits_input : Totals → List ℕ → Bool
fits_input t line = nat_le (length (without_feed line)) line_octets && nat_lt t.lines most_lines
    && nat_le (t.octets + length line) most_octets

-- One more line of the script is within the limits of a script.
abbrev pub fits_script : Totals → List ℕ → Bool
fits_script t line =
    nat_lt t.script_lines script_lines && nat_le (t.script_octets + length line) script_octets

-- One more line exceeds no limit. A note isn't counted for the script.
abbrev pub fits : Totals → List ℕ → Bool
fits t line = fits_input t line && (is_note line || fits_script t line)

-- The lines of a script, and whether another follows them that doesn't fit.
pub record ScriptLines : Type 0 where
  pub lines : List (List ℕ)
  pub cut : Bool

-- The lines of a script, cut off before a line that doesn't fit, or whole.
abbrev pub script_lines_are : List (List ℕ) → Bool → ScriptLines
script_lines_are lines cut = record { lines = lines; cut = cut }

-- The script `s` with `line` before its lines. A note is left out.
abbrev pub line_before : List ℕ → ScriptLines → ScriptLines
line_before line s = if is_note line then s else script_lines_are (line ∷ s.lines) s.cut

-- The script of lines, where `t` are the totals of the lines before them.
unfoldable pub script_from : Totals → List (List ℕ) → ScriptLines
script_from t [] = script_lines_are [] false
script_from t (line ∷ others) =
    if fits t line then line_before line (script_from (with_line t line) others) else script_lines_are [] true

-- The script of an input.
abbrev pub script_of : List ℕ → ScriptLines
script_of input = script_from no_totals (lines input)
