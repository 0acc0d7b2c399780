-- A line that was evaluated is passed.
use Rattle.std.proofs.Common.{◌≡◌, ◌+◌, Bool, true, false, List, ℕ, refl}
use Rattle.script_lang.specs.Checking.{Declared}
use Rattle.script_lang.specs.Lines.{line_of}
use Rattle.lab_lint.specs.Carrying.{EvaluatesSo, PassesSo}
use Rattle.lab_lint.specs.Linting.{Evaluated, Passed, after_refused, after_taken, is_within_script, evaluated}
use Rattle.lab_lint.specs.Linting.{line_refused}
use Rattle.lab_lint.specs.Linting.{line_taken, read}

pub refused_passed : (p : Passed) (line : List ℕ) (j : Evaluated) (d : Declared) (old new : List ℕ)
    → EvaluatesSo (p.number + 1) p.declared j true d old new
    → PassesSo p line j (after_refused (record p { declared = d }) line) old new
refused_passed p line (line_refused f) d old new so = (rw so.1 refl, so.2)
refused_passed p line (line_taken e) d old new so = absurd cc

pub taken_passed : (p : Passed) (line : List ℕ) (j : Evaluated) (d : Declared) (old new : List ℕ)
    → EvaluatesSo (p.number + 1) p.declared j false d old new
    → PassesSo p line j (after_taken (record p { declared = d }) line d) old new
taken_passed p line (line_refused f) d old new so = absurd cc
taken_passed p line (line_taken e) d old new so = (rw so.1 refl, so.2)

pub refused_so : (p : Passed) (line : List ℕ) (d : Declared) (b : Bool) (old new : List ℕ) (next : Passed)
    → is_within_script p line ≡ true
    → EvaluatesSo (p.number + 1) p.declared (read p.declared line (line_of line)) b d old new → b ≡ true
    → next ≡ after_refused (record p { declared = d }) line → PassesSo p line (evaluated p line) next old new
refused_so p line d b old new next within so is same =
    let known = rw is at so in
    rw (within, same) (refused_passed p line (read p.declared line (line_of line)) d old new known)

pub taken_so : (p : Passed) (line : List ℕ) (d : Declared) (b : Bool) (old new : List ℕ) (next : Passed)
    → is_within_script p line ≡ true
    → EvaluatesSo (p.number + 1) p.declared (read p.declared line (line_of line)) b d old new → b ≡ false
    → next ≡ after_taken (record p { declared = d }) line d → PassesSo p line (evaluated p line) next old new
taken_so p line d b old new next within so is same =
    let known = rw is at so in
    rw (within, same) (taken_passed p line (read p.declared line (line_of line)) d old new known)
