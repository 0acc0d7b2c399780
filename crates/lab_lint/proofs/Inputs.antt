-- What was read of an input decides what is written of the whole.
use Rattle.std.proofs.Common.{◌≡◌, ℕ, ◌<◌, ◌≤◌, List, [], ◌++◌, length, take, Option, Some, None, inl, inr, sym, ap}
use Rattle.std.proofs.Common.{subst, arith, IfSome, ◌∙◌}
use Rattle.std.specs.Option.{option_map}
use Rattle.std.proofs.lemmas.List.{append-nil, take_all}
use Rattle.std.proofs.lemmas.Bool.Decides.{leb_tells}
use Rattle.std.proofs.Math.Seq.{take-append_seam}
use Rattle.std.specs.Io.KnownBytes.{IsAtEnd, Keeps, prepend_known}
use Rattle.lab_text.specs.Outcomes.{Outcome}
use Rattle.lab_lint.specs.Linting.{lint_of, most_read, outcome_in}

-- where fewer octets were read than are read at most, the source is at its end
abbrev pub IsWhole : List ℕ → Option (List ℕ) → Type 0
IsWhole read left = length read < 300000001 → IsAtEnd left

pub read_of_both : (read rest : List ℕ) → length read ≤ 300000001 → (length read < 300000001 → rest ≡ [])
    → take most_read (read ++ rest) ≡ read
read_of_both read rest most whole =
    elim (leb_tells (length read) 300000000) [
      | inl few ↦ rw (whole (omega (arith, few.1)), append-nil read) (take_all most_read read most)
      | inr
          more ↦
          let all : most_read ≡ length read = omega (arith, most, more.1) in
          rw all (take-append_seam read rest)
    ]

-- what holds of the outcome of the octets that were read holds of the outcome of the input
pub by_outcome : (Q : Outcome → Type 0) (before left : Option (List ℕ)) (read : List ℕ)
    → Keeps before (prepend_known read left) → length read ≤ 300000001 → IsWhole read left → Q (outcome_in read)
    → IfSome (option_map lint_of before) Q
by_outcome Q None left read e most whole q = tt
by_outcome Q (Some input) None read e most whole q = absurd e
by_outcome Q (Some input) (Some rest) read e most whole q =
    subst Q (ap outcome_in (sym (read_of_both read rest most whole)) ∙ ap lint_of e) q
