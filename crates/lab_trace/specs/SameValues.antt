-- What a note says of a member or a mirror, and whether that is the same as before.
use Rattle.std.specs.Prelude.{ℕ, Bool, true, false, ◌&&◌, ◌==◌, List, length, Option, Some, None}
use Rattle.svs_sync.specs.declared.mode.Mode.{Mode}
use Rattle.svs_sync.specs.declared.mode.Mode.TheVariants.{Steady, Suppressed}
use Rattle.svs_vector.specs.Vectors.{covers}
use Rattle.lab_trace.specs.declared.values.Timer.{Timer}
use Rattle.lab_trace.specs.declared.values.Figures.{Figures}
use Rattle.lab_trace.specs.declared.values.Values.{Values}

-- A vector, and what a note says besides.
abbrev pub values_of : List ℕ → Figures → Values
values_of known figures = record { known = known; figures = figures }

-- Both are steady, or both suppressed.
abbrev pub is_same_mode : Mode → Mode → Bool
is_same_mode Steady Steady = true
is_same_mode Suppressed Suppressed = true
is_same_mode _ _ = false

-- Both timers are in the same mode and have the same deadline, or both are missing.
abbrev pub is_same_timer : Option Timer → Option Timer → Bool
is_same_timer None None = true
is_same_timer (Some a) (Some b) = is_same_mode a.mode b.mode && a.deadline == b.deadline
is_same_timer _ _ = false

-- The figures `a` and `b` have the same timer and the same counts.
abbrev pub are_same_figures : Figures → Figures → Bool
are_same_figures a b =
    is_same_timer a.timer b.timer && (a.counts.holds == b.counts.holds && (a.counts.wants == b.counts.wants
    && a.counts.lists == b.counts.lists))

-- The vectors `v` and `w` have the same number of members, and each covers the other.
abbrev pub is_same_vector : List ℕ → List ℕ → Bool
is_same_vector v w = length v == length w && (covers v w && covers w v)

-- The values `a` and `b` have the same figures and the same vector.
abbrev pub are_same : Values → Values → Bool
are_same a b = are_same_figures a.figures b.figures && is_same_vector a.known b.known
