-- What is known of members and mirrors to a reader of a trace who keeps what the last note of each says.
use Rattle.std.specs.Prelude.{◌≡◌, ℕ, true, false, List, [], ◌∷◌, drop, map, slice_get, Option, Some, None}
use Rattle.lab_text.specs.Notes.{is_report_note, is_state_note}
use Rattle.lab_trace.specs.declared.values.Values.{Values}
use Rattle.lab_trace.specs.Changes.{changes}

-- What the last note of a member or a mirror says after a line: `now` if the line wrote a note of it, else `last`.
abbrev pub latest : Option Values → Option Values → Option Values
latest last None = last
latest last (Some now) = Some now

-- What the last note of each member or each mirror says after a line, in order of their numbers.
unfoldable pub latest_of_each : List Values → List (Option Values) → List (Option Values)
latest_of_each last [] = []
latest_of_each last (change ∷ others) = latest (slice_get last 0) change ∷ latest_of_each (drop 1 last) others

-- `now` is what the last notes say after the new notes were written, where they said `last` before.
abbrev pub IsKnownBy : List Values → List Values → Type 0
IsKnownBy last now = latest_of_each last (changes last now) ≡ map Some now

-- A note of a state, which is no note of a report.
pub record IsStateNote (note : List ℕ) : Type 0 where
  pub state : is_state_note note ≡ true
  pub no_report : is_report_note note ≡ false
