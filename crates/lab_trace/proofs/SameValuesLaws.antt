-- Values that are the same are equal, so a reader who keeps the last ones knows what each is now; and how notes begin.
use Rattle.std.proofs.Common.{◌≡◌, ℕ, Bool, true, false, ◌==◌, cond, List, [], ◌∷◌, Option, Some, None, drop, length}
use Rattle.std.proofs.Common.{refl, ap}
use Rattle.std.specs.Prelude.{slice_get}
use Rattle.std.specs.Cmp.{unsigned_Decides}
use Rattle.std.proofs.lemmas.Bool.{and_parts}
use Rattle.svs_sync.specs.declared.mode.Mode.{Mode}
use Rattle.svs_sync.specs.declared.mode.Mode.TheVariants.{Steady, Suppressed}
use Rattle.svs_vector.specs.Vectors.{covers}
use Rattle.svs_vector.proofs.JoinLemmas.{covers_Covers, covers_both_ways}
use Rattle.lab_text.specs.Notes.{after_spaces}
use Rattle.lab_trace.specs.declared.values.Timer.{Timer}
use Rattle.lab_trace.specs.declared.values.Figures.{Figures}
use Rattle.lab_trace.specs.declared.values.Values.{Values}
use Rattle.lab_trace.specs.Laws.{IsKnownBy, IsStateNote, latest, latest_of_each}
use Rattle.lab_trace.specs.NoteTexts.{note_text}
use Rattle.lab_trace.specs.SameValues.{are_same, are_same_figures, is_same_mode, is_same_timer, is_same_vector}
use Rattle.lab_trace.specs.Changes.{changed, changes}

same_mode : (a b : Mode) → is_same_mode a b ≡ true → a ≡ b
same_mode Steady Steady h = refl
same_mode Suppressed Suppressed h = refl
same_mode Steady Suppressed h = absurd cc
same_mode Suppressed Steady h = absurd cc

same_timer : (a b : Option Timer) → is_same_timer a b ≡ true → a ≡ b
same_timer None None h = refl
same_timer (Some a) (Some b) h =
    let both = and_parts (is_same_mode a.mode b.mode) (a.deadline == b.deadline) h in
    let mode = same_mode a.mode b.mode both.0 in
    let deadline = (unsigned_Decides a.deadline b.deadline).0 both.1 in
    λ i. Some (record { mode = mode i; deadline = deadline i })
same_timer None (Some b) h = absurd cc
same_timer (Some a) None h = absurd cc

same_figures : (a b : Figures) → are_same_figures a b ≡ true → a ≡ b
same_figures a b h =
    let all = and_parts (is_same_timer a.timer b.timer) _ h in
    let numbers = and_parts (a.counts.holds == b.counts.holds) _ all.1 in
    let others = and_parts (a.counts.wants == b.counts.wants) (a.counts.lists == b.counts.lists) numbers.1 in
    let timer = same_timer a.timer b.timer all.0 in
    let holds = (unsigned_Decides a.counts.holds b.counts.holds).0 numbers.0 in
    let wants = (unsigned_Decides a.counts.wants b.counts.wants).0 others.0 in
    let lists = (unsigned_Decides a.counts.lists b.counts.lists).0 others.1 in
    λ i. record { timer = timer i; counts = record { holds = holds i; wants = wants i; lists = lists i } }

same_vector : (v w : List ℕ) → is_same_vector v w ≡ true → v ≡ w
same_vector v w h =
    let both = and_parts (covers v w) (covers w v) (and_parts (length v == length w) _ h).1 in
    covers_both_ways v w (covers_Covers v w both.0) (covers_Covers w v both.1)

pub same_values : (a b : Values) → are_same a b ≡ true → a ≡ b
same_values a b h =
    let both = and_parts (are_same_figures a.figures b.figures) _ h in
    let known = same_vector a.known b.known both.1 in
    let figures = same_figures a.figures b.figures both.0 in
    λ i. record { known = known i; figures = figures i }

one_known : (last : Option Values) (now : Values) → latest last (changed last now) ≡ Some now
one_known None now = refl
one_known (Some last) now = go (are_same last now) refl where
  go : (b : Bool) → are_same last now ≡ b → latest (Some last) (cond b None (Some now)) ≡ Some now
  go true e = ap (λ (v : Values). Some v) (same_values last now e)
  go false e = refl

pub known_by : (last now : List Values) → IsKnownBy last now
unfolding changes latest_of_each
known_by last [] = refl
known_by last (now ∷ others) = λ i. one_known (slice_get last 0) now i ∷ known_by (drop 1 last) others i

pub begins_so : (labels : List (List ℕ)) (label : List ℕ) (v : Values) → IsStateNote (note_text labels label v)
unfolding after_spaces
begins_so labels label v = record { state = refl; no_report = refl }
