-- How one line after another is passed.
use Rattle.std.specs.Prelude.{◌≡◌, ℕ, ◌+◌, Bool, true, false, List, ◌++◌}
use Rattle.script_lang.specs.Checking.{Declared}
use Rattle.lab_lint.specs.Findings.{finding_text}
use Rattle.lab_lint.specs.Linting.{Evaluated, Passed, line_refused, line_taken, after_refused, after_taken}

-- Line `number` was treated as it is evaluated. Where it is refused, its finding is appended and nothing more is
-- declared; else `after` is what is declared after it, and nothing is appended.
abbrev pub EvaluatesSo : ℕ → Declared → Evaluated → Bool → Declared → (old new : List ℕ) → Type 0
EvaluatesSo number before (line_refused f) is_refused after old new =
    (is_refused ≡ true) × (after ≡ before) × (new ≡ old ++ finding_text number f)
EvaluatesSo number before (line_taken d) is_refused after old new =
    (is_refused ≡ false) × (after ≡ d) × (new ≡ old)

-- `next` is the result after one more line that is evaluated so. Where the line is refused, its finding is appended.
abbrev pub PassesSo : Passed → List ℕ → Evaluated → Passed → (old new : List ℕ) → Type 0
PassesSo p line (line_refused f) next old new =
    (next ≡ after_refused p line) × (new ≡ old ++ finding_text (p.number + 1) f)
PassesSo p line (line_taken d) next old new = (next ≡ after_taken p line d) × (new ≡ old)
