-- What is new of members or of mirrors, and the notes that say so.
use Rattle.std.specs.Prelude.{ℕ, ◌+◌, List, [], ◌∷◌, ◌++◌, drop, slice_get, Option, Some, None, if◌then◌else◌}
use Rattle.lab_trace.specs.declared.values.Values.{Values}
use Rattle.lab_trace.specs.NoteTexts.{note_text}
use Rattle.lab_trace.specs.SameValues.{are_same}

-- What a new note says: `now`, or nothing where the last note says the same.
abbrev pub changed : Option Values → Values → Option Values
changed None now = Some now
changed (Some last) now = if are_same last now then None else Some now

-- What the new notes of members or of mirrors say, in order of their numbers.
unfoldable pub changes : List Values → List Values → List (Option Values)
changes last [] = []
changes last (now ∷ others) = changed (slice_get last 0) now ∷ changes (drop 1 last) others

-- A note, where one is written.
abbrev pub change_text : List (List ℕ) → List ℕ → Option Values → List ℕ
change_text labels label None = []
change_text labels label (Some v) = note_text labels label v

-- The notes of the members or mirrors from the number `n` on. `labels` are those of the group's members, and `label`
-- gives the label of each number.
unfoldable pub notes_from : List (List ℕ) → (ℕ → List ℕ) → ℕ → List (Option Values) → List ℕ
notes_from labels label n [] = []
notes_from labels label n (change ∷ others) =
    change_text labels (label n) change ++ notes_from labels label (n + 1) others
