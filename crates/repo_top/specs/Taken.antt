-- What was taken of an input when a run ended, and what was written by then.
use Rattle.std.specs.Prelude.{◌≡◌, ◌<◌, ◌≤◌, ℕ, ◌+◌, ◌-◌, Bool, ◌||◌, List, [], ◌∷◌, length, take, Option, Some, None}
use Rattle.std.specs.Prelude.{nat_lt}
use Rattle.std.specs.List.{concat, filter}
use Rattle.script_lang.specs.Limits.{line_octets}
use Rattle.repo_io.specs.declared.status.Status.{Status}
use Rattle.repo_io.specs.declared.status.Status.TheVariants.{Done, Usage, Refused, ReadFault, WriteFault, NoMemory}
use Rattle.repo_io.specs.declared.status.Status.TheVariants.{Foreign}
use Rattle.script_story.specs.Evaluation.{RunEnvironment}
use Rattle.repo_io.specs.Lines.{has_feed, lines}
use Rattle.script_story.specs.ScriptRun.{nothing_reached, run_from}

-- ---- lines

-- The octets that were taken of `input`, of which `rest` is unread.
abbrev pub taken : List ℕ → List ℕ → List ℕ
taken input rest = take (length input - length rest) input

-- A line that can be evaluated: its line feed is there, or it is too long, whatever follows.
abbrev pub can_be_evaluated : List ℕ → Bool
can_be_evaluated line = has_feed line || nat_lt line_octets (length line)

-- The lines of these octets that can be evaluated.
abbrev pub lines_so_far : List ℕ → List (List ℕ)
lines_so_far octets = filter can_be_evaluated (lines octets)

-- The lines that were taken of `input`, of which `rest` is unread. Where nothing is unread, the last line needs no line
-- feed.
abbrev pub lines_taken : List ℕ → List ℕ → List (List ℕ)
lines_taken input [] = lines input
lines_taken input (octet ∷ rest) = lines_so_far (taken input (octet ∷ rest))

-- ---- texts

-- The report of the first lines of a script.
abbrev pub report_of : RunEnvironment → List (List ℕ) → List ℕ
report_of env prefix = (run_from env nothing_reached prefix).text

-- The report of an input up to and with the line of this number.
abbrev pub report_through : RunEnvironment → ℕ → List ℕ → List ℕ
report_through env line input = report_of env (take line (lines input))

-- An output lacks octets of a text that it was to gain.
abbrev pub LacksText : Option (List ℕ) → Option (List ℕ) → List ℕ → Type 0
LacksText (Some old) (Some new) text = length new < length old + length text
LacksText (Some old) None text = ⊥
LacksText None new text = ⊥

-- ---- bounds

-- Where the line of this number ends, as a number of octets.
abbrev pub end_of_line : ℕ → List ℕ → ℕ
end_of_line line input = length (concat (take line (lines input)))

-- At most 65,536 octets past the end of the line were taken.
abbrev pub IsTakenNear : ℕ → List ℕ → List ℕ → Type 0
IsTakenNear line input rest = length input ≤ length rest + (end_of_line line input + 65536)

-- An output has the report of the first `before` lines and lacks octets of the report of the line after them, and at
-- most 65,536 octets past the end of that line were taken.
pub record FallsShortNear (env : RunEnvironment) (old new : Option (List ℕ)) (input rest : List ℕ) : Type 0 where
  pub before : ℕ
  pub there : LacksText old new (report_through env before input) → ⊥
  pub lacks : LacksText old new (report_through env (before + 1) input)
  pub near : IsTakenNear (before + 1) input rest

-- The line is refused or foreign.
abbrev pub IsStoppedAt : Status → ℕ → Type 0
IsStoppedAt Done line = ⊥
IsStoppedAt Usage line = ⊥
IsStoppedAt (Refused at number) line = at ≡ line
IsStoppedAt ReadFault line = ⊥
IsStoppedAt WriteFault line = ⊥
IsStoppedAt NoMemory line = ⊥
IsStoppedAt (Foreign at) line = at ≡ line
