-- What the notes of a trace say of a member and of a mirror.
use Rattle.std.specs.Prelude.{ℕ, List, [], ◌∷◌, ◌++◌, Option, Some, None, codes}
use Rattle.std.specs.Fmt.{decimal}
use Rattle.svs_sync.specs.declared.mode.Mode.{Mode}
use Rattle.svs_sync.specs.declared.mode.Mode.TheVariants.{Steady, Suppressed}
use Rattle.script_report.specs.Texts.{after_spaces, labelled_numbers}
use Rattle.lab_trace.specs.declared.values.Timer.{Timer}
use Rattle.lab_trace.specs.declared.values.Counts.{Counts}
use Rattle.lab_trace.specs.declared.values.Values.{Values}

-- A word and a number, each after a space.
abbrev pub field_text : List ℕ → ℕ → List ℕ
field_text word n = 32 ∷ (word ++ 32 ∷ decimal n)

-- ` knows alice=1 bob=0`: a vector, as a `vector` line has it.
abbrev pub knows_text : List (List ℕ) → List ℕ → List ℕ
knows_text labels numbers = codes " knows" ++ after_spaces (labelled_numbers labels numbers)

-- ` holds 1 wants 1 lists 0`
abbrev pub counts_text : Counts → List ℕ
counts_text c =
    field_text (codes "holds") c.holds ++ (field_text (codes "wants") c.wants ++ field_text (codes "lists") c.lists)

-- ` steady` or ` suppressed`
abbrev pub mode_text : Mode → List ℕ
mode_text Steady = codes " steady"
mode_text Suppressed = codes " suppressed"

-- ` steady until 27100`, of a member; nothing of a mirror.
abbrev pub timer_text : Option Timer → List ℕ
timer_text None = []
timer_text (Some t) = mode_text t.mode ++ field_text (codes "until") t.deadline

-- `#= bob`
abbrev pub begun_note : List ℕ → List ℕ
begun_note label = codes "#= " ++ label

-- `#= bob steady until 27100 knows alice=1 bob=0 holds 1 wants 1 lists 0`, or of a mirror
-- `#= mia knows alice=1 bob=0 holds 1 wants 1 lists 0`: with the labels of the group's members and its own, and with a
-- line feed.
abbrev pub note_text : List (List ℕ) → List ℕ → Values → List ℕ
note_text labels label v =
    begun_note label ++ (timer_text v.figures.timer ++ (knows_text labels v.known
    ++ (counts_text v.figures.counts ++ 10 ∷ [])))
