-- How runs end, line by line.
use Rattle.std.proofs.Common.{◌≡◌, ℕ, ◌+◌, Bool, true, false, List, [], ◌∷◌, length, Result, Ok, Err, IfOk, refl, sym}
use Rattle.std.proofs.Common.{ap}
use Rattle.std.proofs.Common.{subst, ◌∙◌, arith}
use Rattle.std.proofs.Common.{◌<◌, drop, get_or, Vec, Global}
use Rattle.std.specs.Bool.{⊤}
use Rattle.std.proofs.lemmas.List.{drop_more}
use Rattle.script_story.specs.Evaluation.{RunEnvironment, Verdict, accepted}
use Rattle.script_story.specs.ScriptRun.{Reached, ScriptRun, after_text, evaluated_next, nothing_reached, reached_after}
use Rattle.script_story.specs.ScriptRun.{run_from}
use Rattle.script_story.specs.ScriptRun.{run_of_line}
use Rattle.script_lines.specs.declared.error.LineError.{LineError}
use Rattle.script_lines.specs.declared.error.LineError.TheVariants as error
use Rattle.script_lines.specs.RunStates.{IsLineError}
use Rattle.lab_seeds.specs.declared.end.SeedEnd.{SeedEnd}
use Rattle.lab_seeds.specs.declared.end.SeedEnd.TheVariants.{Done, Refused, Foreign}
use Rattle.lab_seeds.specs.Counted.{figures_at}
use Rattle.lab_seeds.specs.Endings.{EndsAfter, IsEndAt, IsEndOf}
use Rattle.lab_seeds.specs.Inputs.{ScriptLines}
use Rattle.lab_seeds.specs.Reading.{octets_of}
use Rattle.lab_seeds.specs.ScriptRuns.{cut_at, ending_at, script_story}

pub if_ok : {A E : Type 0} (P Q : A → Type 0) → ((a : A) → P a → Q a) → (r : Result A E) → IfOk r P → IfOk r Q
if_ok P Q f (Ok a) p = f a p
if_ok P Q f (Err e) p = tt

-- The runs `s` and `t` end alike.
pub record EndsAlike (s t : ScriptRun) : Type 0 where
  pub ending : s.ending ≡ t.ending
  pub world : s.world ≡ t.world

alike_then : (s t u : ScriptRun) → EndsAlike s t → EndsAlike t u → EndsAlike s u
alike_then s t u a b = record { ending = a.ending ∙ b.ending; world = a.world ∙ b.world }

alike_end : (s t : ScriptRun) (e : SeedEnd) → EndsAlike s t → IsEndOf t e → IsEndOf s e
alike_end s t (Done f) a is = record {
  ending = a.ending ∙ is.ending;
  figures = is.figures ∙ ap figures_at (sym a.world);
}
alike_end s t (Refused line why) a is = a.ending ∙ is
alike_end s t (Foreign line) a is = a.ending ∙ is

alike_cut : (cut : Bool) (n : ℕ) (s t : ScriptRun) → EndsAlike s t → EndsAlike (cut_at cut n s) (cut_at cut n t)
alike_cut false n s t a = a
alike_cut true n s t a = record { ending = ap (ending_at n) a.ending; world = a.world }

-- ---- a line

module _ (env : RunEnvironment) (r : Reached) (line : List ℕ) (others : List (List ℕ)) where
  run_line : run_from env r (line ∷ others)
      ≡ run_of_line (λ next. run_from env next others) r line (evaluated_next env r line)
  unfolding run_from
  run_line = refl

  -- it is taken
  goes_on : (report : List ℕ) (next : Reached) → evaluated_next env r line ≡ accepted report next.state
      → next ≡ reached_after r line report next.state
      → EndsAlike (run_from env r (line ∷ others)) (run_from env next others)
  goes_on report next verdict then =
      let tell : Verdict → ScriptRun = λ v. run_of_line (λ n. run_from env n others) r line v in
      let follow : Reached → ScriptRun = λ n. after_text report (run_from env n others) in
      let is : run_from env r (line ∷ others) ≡ after_text report (run_from env next others) =
      run_line ∙ ap tell verdict ∙ ap follow (sym then) in
      record { ending = ap (λ (s : ScriptRun). s.ending) is; world = ap (λ (s : ScriptRun). s.world) is }

-- An end before the last line.
abbrev IsEarly : SeedEnd → Type 0
IsEarly (Done f) = ⊥
IsEarly (Refused line why) = ⊤
IsEarly (Foreign line) = ⊤

early_cut : (cut : Bool) (n : ℕ) (s : ScriptRun) (e : SeedEnd) → IsEarly e → IsEndOf s e → IsEndOf (cut_at cut n s) e
early_cut false n s e early is = is
early_cut true n s (Done f) early is = absurd early
early_cut true n s (Refused line why) early is = ap (ending_at n) is
early_cut true n s (Foreign line) early is = ap (ending_at n) is

module _ (env : RunEnvironment) (r : Reached) (line : List ℕ) (others : List (List ℕ)) where
  -- the script stops at it
  stops : (why : LineError) (e : SeedEnd) → IsLineError (evaluated_next env r line) why → IsEndAt (r.lines + 1) why e
      → IsEarly e × IsEndOf (run_from env r (line ∷ others)) e
  stops (error.Refused why) e is end =
      let tell : Verdict → ScriptRun = λ v. run_of_line (λ n. run_from env n others) r line v in
      let script_run = run_line env r line others ∙ ap tell is in (
        subst IsEarly (sym end) tt,
        subst (IsEndOf (run_from env r (line ∷ others))) (sym end) (ap (λ (s : ScriptRun). s.ending) script_run),
      )
  stops error.Foreign e is end =
      let tell : Verdict → ScriptRun = λ v. run_of_line (λ n. run_from env n others) r line v in
      let script_run = run_line env r line others ∙ ap tell is in (
        subst IsEarly (sym end) tt,
        subst (IsEndOf (run_from env r (line ∷ others))) (sym end) (ap (λ (s : ScriptRun). s.ending) script_run),
      )
  stops error.NoMemory e is end = absurd end

-- no line follows
last : (env : RunEnvironment) (r : Reached) (cut : Bool) (e : SeedEnd) → EndsAfter r cut e
    → IsEndOf (cut_at cut (r.lines + 1) (run_from env r [])) e
unfolding run_from
last env r true e is = subst (IsEndOf (cut_at true (r.lines + 1) (run_from env r []))) (sym is) refl
last env r false e is = subst (IsEndOf (run_from env r [])) (sym is) (record { ending = refl; figures = refl })

-- ---- a script

-- The lines of the script before `left` were carried out.
pub record Carries (env : RunEnvironment) (s : ScriptLines) (left : List (List ℕ)) (r : Reached) : Type 0 where
  pub alike : EndsAlike (run_from env nothing_reached s.lines) (run_from env r left)
  pub count : r.lines + length left ≡ length s.lines

module _ (env : RunEnvironment) (s : ScriptLines) (r : Reached) where
  pub carries_more : (line : List ℕ) (others : List (List ℕ)) (report : List ℕ) (next : Reached)
      → evaluated_next env r line ≡ accepted report next.state → next ≡ reached_after r line report next.state
      → Carries env s (line ∷ others) r → Carries env s others next
  carries_more line others report next verdict then so_far = record {
    alike = alike_then (run_from env nothing_reached s.lines) (run_from env r (line ∷ others))
        (run_from env next others) so_far.alike (goes_on env r line others report next verdict then);
    count =
        let lines : next.lines ≡ r.lines + 1 = ap (λ (n : Reached). n.lines) then in
        let count = so_far.count in
        omega arith;
  }

  pub carries_stopped : (line : List ℕ) (others : List (List ℕ)) (number : ℕ) (why : LineError)
      → number ≡ r.lines + 1 → IsLineError (evaluated_next env r line) why → Carries env s (line ∷ others) r
      → (e : SeedEnd) → IsEndAt number why e → IsEndOf (script_story env s) e
  carries_stopped line others number why at is so_far e end =
      let here : IsEndAt (r.lines + 1) why e = subst (λ (n : ℕ). IsEndAt n why e) at end in
      let h = stops env r line others why e is here in
      early_cut s.cut (length s.lines + 1) (run_from env nothing_reached s.lines) e h.0
      (alike_end (run_from env nothing_reached s.lines) (run_from env r (line ∷ others)) e so_far.alike h.1)

  pub carries_none : Carries env s [] r → (e : SeedEnd) → EndsAfter r s.cut e → IsEndOf (script_story env s) e
  carries_none so_far e end =
      let count = so_far.count in
      let number : r.lines + 1 ≡ length s.lines + 1 = omega arith in
      alike_end (script_story env s) (cut_at s.cut (length s.lines + 1) (run_from env r [])) e
      (alike_cut s.cut (length s.lines + 1) (run_from env nothing_reached s.lines) (run_from env r [])
      so_far.alike)
      (subst (λ (n : ℕ). IsEndOf (cut_at s.cut n (run_from env r [])) e) number (last env r s.cut e end))

-- the next line of those that are kept
pub next_line : (env : RunEnvironment) (s : ScriptLines) (items : List (Vec ℕ Global)) (i : ℕ) (item : Vec ℕ Global)
    (r : Reached) → i < length items → item ≡ get_or items i item → Carries env s (octets_of (drop i items)) r
    → Carries env s (item.items ∷ octets_of (drop (i + 1) items)) r
next_line env s items i item r lt is so_far =
    let left : octets_of (drop i items) ≡ item.items ∷ octets_of (drop (i + 1) items) =
    ap octets_of (drop_more items i item lt)
    ∙ ap (λ (v : Vec ℕ Global). v.items ∷ octets_of (drop (i + 1) items)) (sym is) in
    subst (λ (ls : List (List ℕ)). Carries env s ls r) left so_far
