-- How a script is read, and what is kept of it.
use Rattle.std.specs.Prelude.{◌≡◌, ⊤, ◌≤◌, ℕ, true, false, List, [], ◌∷◌, ◌++◌, map, Option, Some, None, Vec}
use Rattle.std.specs.Prelude.{if◌then◌else◌}
use Rattle.script_lang.specs.Limits.{script_lines, script_octets}
use Rattle.lab_text.specs.Notes.{is_note}
use Rattle.lab_seeds.specs.declared.input.ScriptLines.{ScriptLines as Kept}
use Rattle.lab_seeds.specs.declared.input.SoFar.{SoFar}
use Rattle.lab_seeds.specs.declared.input.Totals.{Totals}
use Rattle.lab_text.specs.Limits.{most_lines, most_octets}
use Rattle.lab_seeds.specs.Inputs.{ScriptLines, fits, script_lines_are, script_of, with_line}

-- ---- what is kept

-- The octets of each of `lines`.
abbrev pub octets_of : {A : Type 0} → List (Vec ℕ A) → List (List ℕ)
octets_of lines = map (λ line. line.items) lines

-- The script that was read.
abbrev pub lines_read : Kept → ScriptLines
lines_read s = script_lines_are (octets_of s.lines.items) s.cut

-- ---- one line

-- The totals are within the limits.
pub record AreWithin (t : Totals) : Type 0 where
  pub lines : t.lines ≤ most_lines
  pub octets : t.octets ≤ most_octets
  pub script_lines : t.script_lines ≤ script_lines
  pub script_octets : t.script_octets ≤ script_octets

-- The line that is kept of `line`: none if it is a note.
abbrev pub kept_line : List ℕ → List (List ℕ)
kept_line line = if is_note line then [] else line ∷ []

-- The line `line` was taken, which exceeds no limit.
pub record Takes (old : SoFar) (line : List ℕ) (new : SoFar) : Type 0 where
  pub fits : fits old.totals line ≡ true
  pub totals : new.totals ≡ with_line old.totals line
  pub lines : octets_of new.lines.items ≡ octets_of old.lines.items ++ kept_line line

-- ---- an input

-- The script `s` with the lines `prefix` before its own.
abbrev pub lines_before : List (List ℕ) → ScriptLines → ScriptLines
lines_before prefix s = script_lines_are (prefix ++ s.lines) s.cut

-- If the input is known, so is the rest of it that is still unread, and `P` holds of the two.
abbrev pub Known : Option (List ℕ) → Option (List ℕ) → (List ℕ → List ℕ → Type 0) → Type 0
Known None now P = ⊤
Known (Some input) None P = ⊥
Known (Some input) (Some rest) P = P input rest

-- `script` is the script of the input. Unless a line exceeds a limit, the input was read to its end.
pub record IsRead (script : Kept) (input rest : List ℕ) : Type 0 where
  pub whole : script_of input ≡ lines_read script
  pub ended : script.cut ≡ false → rest ≡ []
