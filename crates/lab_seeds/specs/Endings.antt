-- How runs ended, and what is kept of that.
use Rattle.std.specs.Prelude.{◌≡◌, ⊤, ℕ, ◌+◌, Bool, true, false, List, [], ◌∷◌}
use Rattle.script_report.specs.declared.refusal.Refusal.TheVariants.{Limit}
use Rattle.script_report.specs.Refusals.{refusal_number}
use Rattle.script_lines.specs.declared.error.LineError.{LineError}
use Rattle.script_lines.specs.declared.error.LineError.TheVariants as error
use Rattle.script_story.specs.declared.ending.Ending.TheVariants as ending
use Rattle.script_story.specs.ScriptRun.{Reached, ScriptRun}
use Rattle.lab_seeds.specs.declared.end.SeedEnd.{SeedEnd}
use Rattle.lab_seeds.specs.declared.end.SeedEnd.TheVariants.{Done, Refused, Foreign}
use Rattle.lab_seeds.specs.declared.figures.Figures.{Figures}
use Rattle.lab_seeds.specs.Counted.{figures_at}

-- All lines of the run `s` were taken, and `f` is what was counted at its end.
pub record IsDoneWith (s : ScriptRun) (f : Figures) : Type 0 where
  pub ending : s.ending ≡ ending.Done
  pub figures : f ≡ figures_at s.world

-- The run `s` ended as the `SeedEnd` says.
abbrev pub IsEndOf : ScriptRun → SeedEnd → Type 0
IsEndOf s (Done f) = IsDoneWith s f
IsEndOf s (Refused line why) = s.ending ≡ ending.Refused line (refusal_number why)
IsEndOf s (Foreign line) = s.ending ≡ ending.Foreign line

-- ---- as a script is carried out

-- `end` is the end of a script that stops at line `line` with this error.
abbrev pub IsEndAt : ℕ → LineError → SeedEnd → Type 0
IsEndAt line (error.Refused why) end = end ≡ Refused line why
IsEndAt line error.Foreign end = end ≡ Foreign line
IsEndAt line error.NoMemory end = ⊥

-- `end` is the end of a script whose lines were all taken. `true` means that another line follows them, which exceeds a
-- limit.
abbrev pub EndsAfter : Reached → Bool → SeedEnd → Type 0
EndsAfter r true end = end ≡ Refused (r.lines + 1) Limit
EndsAfter r false end = end ≡ Done (figures_at r.state.world)

-- ---- seeds that follow one another

-- The run of the seed `seed` ended as `e` says.
abbrev pub HasEnd : (ℕ → ScriptRun) → ℕ → SeedEnd → Type 0
HasEnd script_run seed e = IsEndOf (script_run seed) e

-- The runs of the seeds from `first` on, one after the other, ended as the list of ends says.
abbrev pub AreEnds : (ℕ → ScriptRun) → ℕ → List SeedEnd → Type 0
AreEnds script_run first [] = ⊤
AreEnds script_run first (e ∷ ends) = IsEndOf (script_run first) e × AreEnds script_run (first + 1) ends
