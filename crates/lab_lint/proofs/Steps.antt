-- The lines of an input, one after another.
use Rattle.std.proofs.Common.{◌≡◌, ◌+◌, ℕ, true, false, List, [], ◌∷◌, ◌++◌, refl, sym, ap, append_assoc}
use Rattle.std.proofs.lemmas.List.{append-nil}
use Rattle.repo_io.specs.Lines.{lines}
use Rattle.lab_lint.specs.Carrying.{PassesSo}
use Rattle.lab_lint.specs.Findings.{finding_text, input_finding}
use Rattle.lab_lint.specs.Linting.{Evaluated, Linted, Passed, after_note, fits, is_short_note, evaluated, lint_from}
use Rattle.lab_lint.specs.Linting.{linted}
use Rattle.lab_lint.specs.Linting.{linted_line, line_refused, line_taken, with_text}

-- a text after another
joined : (old text : List ℕ) (l : Linted) → with_text (old ++ text) l ≡ with_text old (with_text text l)
joined old text l = ap (λ (t : List ℕ). linted t l.number l.taken) (append_assoc old text l.text)

-- no line follows
pub no_line : (old : List ℕ) (p : Passed) → with_text old (lint_from p []) ≡ linted old p.number p.taken
unfolding lint_from
no_line old p = ap (λ (t : List ℕ). linted t p.number p.taken) (append-nil old)

-- a line that is beyond the limits of the input
pub line_beyond : (old : List ℕ) (p : Passed) (line : List ℕ) (others : List (List ℕ)) → fits p line ≡ false
    → with_text old (lint_from p (line ∷ others))
    ≡ linted (old ++ finding_text (p.number + 1) input_finding) (p.number + 1) p.taken
unfolding lint_from
line_beyond old p line others out = rw out refl

-- a note
pub note_passed : (old : List ℕ) (p : Passed) (line : List ℕ) (others : List (List ℕ)) → fits p line ≡ true
    → is_short_note line ≡ true
    → with_text old (lint_from p (line ∷ others)) ≡ with_text old (lint_from (after_note p line) others)
unfolding lint_from
note_passed old p line others within note = rw (within, note) refl

-- a line of the script
judged_passed : (old new : List ℕ) (p q : Passed) (line : List ℕ) (others : List (List ℕ)) (j : Evaluated)
    → PassesSo p line j q old new
    → with_text old (linted_line (λ next. lint_from next others) p line j) ≡ with_text new (lint_from q others)
judged_passed old new p q line others (line_refused f) passes =
    rw (passes.0, passes.1) (sym (joined old (finding_text (p.number + 1) f) _))
judged_passed old new p q line others (line_taken d) passes = rw (passes.0, passes.1) refl

pub line_passed : (old new : List ℕ) (p q : Passed) (line : List ℕ) (others : List (List ℕ)) → fits p line ≡ true
    → is_short_note line ≡ false → PassesSo p line (evaluated p line) q old new
    → with_text old (lint_from p (line ∷ others)) ≡ with_text new (lint_from q others)
unfolding lint_from
line_passed old new p q line others within other passes =
    rw (within, other) (judged_passed old new p q line others (evaluated p line) passes)

-- ---- the lines of octets

pub beyond_so : (old new : List ℕ) (p : Passed) (line rest others : List ℕ) (number count : ℕ)
    → lines rest ≡ line ∷ lines others → fits p line ≡ false
    → new ≡ old ++ finding_text (p.number + 1) input_finding → number ≡ p.number → count ≡ p.taken
    → linted new (number + 1) count ≡ with_text old (lint_from p (lines rest))
beyond_so old new p line rest others number count cut out gained same_number same_count =
    rw (cut, gained, same_number, same_count) (sym (line_beyond old p line (lines others) out))

pub note_so : (old : List ℕ) (p next : Passed) (line rest others : List ℕ) → lines rest ≡ line ∷ lines others
    → fits p line ≡ true → is_short_note line ≡ true → next ≡ after_note p line
    → with_text old (lint_from next (lines others)) ≡ with_text old (lint_from p (lines rest))
note_so old p next line rest others cut within note same =
    rw (cut, same) (sym (note_passed old p line (lines others) within note))

pub line_so : (old new : List ℕ) (p next : Passed) (line rest others : List ℕ) → lines rest ≡ line ∷ lines others
    → fits p line ≡ true → is_short_note line ≡ false → PassesSo p line (evaluated p line) next old new
    → with_text new (lint_from next (lines others)) ≡ with_text old (lint_from p (lines rest))
line_so old new p next line rest others cut within other passes =
    rw cut (sym (line_passed old new p next line (lines others) within other passes))

pub end_so : (old : List ℕ) (p : Passed) (rest : List ℕ) (number count : ℕ) → rest ≡ [] → number ≡ p.number
    → count ≡ p.taken → linted old number count ≡ with_text old (lint_from p (lines rest))
unfolding lines
end_so old p rest number count none same_number same_count =
    rw (none, same_number, same_count) (sym (no_line old p))
