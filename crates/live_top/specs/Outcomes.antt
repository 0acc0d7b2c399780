-- How an input of a live group ends.
use Rattle.std.specs.Prelude.{ℕ, ◌+◌, List, [], ◌∷◌, map, length}
use Rattle.live_settle.specs.Rans.{numbers_below}
use Rattle.live_member.specs.Meanings.{Meaning, meaning_of}
use Rattle.script_lang.specs.Checking.{party_label}
use Rattle.repo_io.specs.Lines.{lines}
use Rattle.script_report.specs.declared.refusal.Refusal.{Refusal}
use Rattle.live_script.specs.Evaluation.{Reached, Verdict, nothing_reached, evaluated, refused, takes, not_evaluated}

-- The first line that is refused, and why; or the result of all lines. `Unjudged` stands for a line that no row
-- evaluates. There is no such line.
pub data Outcome : Type 0 where
  Refused : (line : ℕ) → Refusal → Outcome
  Taken : Reached → Outcome
  Unjudged : Outcome

-- The outcome of a line with this verdict, and of the lines after it.
abbrev pub outcome_after : (Reached → Outcome) → ℕ → Verdict → Outcome
outcome_after others line (refused why) = Refused line why
outcome_after others line (takes next) = others next
outcome_after others line not_evaluated = Unjudged

-- The outcome of lines, where `r` is the result of the lines before them.
unfoldable pub outcome_from : Reached → List (List ℕ) → Outcome
outcome_from r [] = Taken r
outcome_from r (line ∷ others) = outcome_after (λ next. outcome_from next others) (r.lines + 1) (evaluated r line)

-- The outcome of an input.
abbrev pub outcome_of : List ℕ → Outcome
outcome_of input = outcome_from nothing_reached (lines input)

-- ---- the group of an input

-- The first draw of each member in a group of `members` members.
abbrev pub first_draws : (ℕ → ℕ → ℕ) → ℕ → List ℕ
first_draws draw members = map (λ m. draw m 0) (numbers_below members)

-- What runs: the group and the lists of the input, where every draw of a member is its first.
abbrev pub meaning_at : (ℕ → ℕ → ℕ) → Reached → Meaning
meaning_at draw r = meaning_of r.keys r.lists (first_draws draw (length r.lists))

-- The labels of the members, in order.
abbrev pub labels_at : Reached → List (List ℕ)
labels_at r = map party_label r.declared.members
