-- The number of workers makes no difference to a run.
use Rattle.std.proofs.Common.{◌≡◌, ◌∙◌, ℕ, ◌+◌, ◌≤◌, Bool, true, nat_le, nat_lt, ◌&&◌, List, [], ◌∷◌, length}
use Rattle.std.proofs.Common.{length-append, Option, Some, None, Result, Ok, Err, refl, sym, ap, arith}
use Rattle.std.proofs.Common.{if◌then◌else◌}
use Rattle.std.specs.List.{concat}
use Rattle.script_lang.specs.declared.line_fault.LineFault.{LineFault}
use Rattle.script_lang.specs.declared.verb.Verb.{Verb}
use Rattle.script_lang.specs.declared.verb.Verb.TheVariants as verb
use Rattle.script_lang.specs.Kinds.{Value, Text, Number}
use Rattle.script_lang.specs.Forms.{Stated, statement}
use Rattle.script_lang.specs.Lines.{line_of}
use Rattle.script_lang.specs.Limits.{script_lines}
use Rattle.script_lang.proofs.Conditions.{le_test}
use Rattle.script_report.specs.declared.refusal.Refusal.TheVariants.{Limit}
use Rattle.repo_io.specs.Lines.{lines}
use Rattle.script_story.specs.Evaluation.{RunEnvironment, State, Verdict, acted, acted_by, foreign, evaluated}
use Rattle.script_story.specs.Evaluation.{evaluated_line}
use Rattle.script_story.specs.Evaluation.{line_taken, initial_state, read, accepted, not_evaluated}
use Rattle.script_story.specs.Evaluation as verdict
use Rattle.script_story.specs.ScriptRun.{Reached, after_text, is_within_script, evaluated_next}
use Rattle.script_story.specs.ScriptRun.{run_from, run_of_line, within_report}
use Rattle.script_story.specs.Workers.{DifferInWorkers, WorkersMakeNoDifference, but_for_workers, with_one_worker}
use Rattle.repo_io.proofs.LineLaws.{lines_joined}

-- ---- one line

line_alike : (env : RunEnvironment) (s : State) (form : Verb) (values : List Value)
    → evaluated_line env s (statement form values) ≡ evaluated_line env s (statement form (with_one_worker form values))
unfolding evaluated_line line_taken acted_by acted
line_alike env s verb.Fetch (Text m ∷ Number workers ∷ Number tries ∷ Number loss ∷ []) = refl
line_alike env s verb.Mfetch (Text l ∷ Number workers ∷ Number tries ∷ Number loss ∷ []) = refl
line_alike env s verb.Settle (Number workers ∷ []) = refl
line_alike env s form values = refl

read_alike : (env : RunEnvironment) (s : State) (r : Result (Option Stated) LineFault)
    → read env s r ≡ read env s (but_for_workers r)
read_alike env s (Ok (Some line)) = line_alike env s line.verb line.values
read_alike env s (Ok None) = refl
read_alike env s (Err fault) = refl

judged_alike : (env : RunEnvironment) (s : State) (a b : List ℕ)
    → but_for_workers (line_of a) ≡ but_for_workers (line_of b) → evaluated env s a ≡ evaluated env s b
unfolding evaluated
judged_alike env s a b same =
    read_alike env s (line_of a) ∙ ap (read env s) same ∙ sym (read_alike env s (line_of b))

-- ---- runs

abbrev reached_at : (lines octets printed : ℕ) → State → Reached
reached_at n octets m s = record { lines = n; octets = octets; printed = m; state = s }

within_alike : (n m : ℕ) (s : State) (o u : ℕ) (v : Verdict)
    → within_report (reached_at n o m s) v ≡ within_report (reached_at n u m s) v
within_alike n m s o u (accepted report next) = refl
within_alike n m s o u (verdict.refused why) = refl
within_alike n m s o u foreign = refl
within_alike n m s o u not_evaluated = refl

test_within : (octets : ℕ) (line : List ℕ) (others : List (List ℕ))
    → octets + length (concat (line ∷ others)) ≤ 16777216 → nat_le (octets + length line) 16777216 ≡ true
test_within octets line others h =
    le_test (octets + length line) 16777216 (omega (arith, h, length-append line (concat others)))

left_within : (octets : ℕ) (line : List ℕ) (others : List (List ℕ))
    → octets + length (concat (line ∷ others)) ≤ 16777216 → (octets + length line) + length (concat others) ≤ 16777216
left_within octets line others h = omega (arith, h, length-append line (concat others))

first_alike : {A : Type 0} (x y : A) (xs ys : List A) → x ∷ xs ≡ y ∷ ys → x ≡ y
first_alike x y xs ys h = cc

others_alike : {A : Type 0} (x y : A) (xs ys : List A) → x ∷ xs ≡ y ∷ ys → xs ≡ ys
others_alike x y xs ys h = cc

module _ (env : RunEnvironment) where
  next_alike : (n m : ℕ) (s : State) (o u : ℕ) (a b : List ℕ) (cs bs : List (List ℕ))
      → o + length (concat (a ∷ cs)) ≤ 16777216 → u + length (concat (b ∷ bs)) ≤ 16777216
      → but_for_workers (line_of a) ≡ but_for_workers (line_of b)
      → evaluated_next env (reached_at n o m s) a ≡ evaluated_next env (reached_at n u m s) b
  next_alike n m s o u a b cs bs small_a small_b same =
      let within : is_within_script (reached_at n o m s) a ≡ is_within_script (reached_at n u m s) b =
      ap (λ (t : Bool). nat_lt n script_lines && t) (test_within o a cs small_a ∙ sym (test_within u b bs small_b)) in
      ap (λ (t : Bool). if t then within_report (reached_at n o m s) (evaluated env s a) else verdict.refused Limit)
      within
      ∙ ap (λ (v : Verdict). if is_within_script (reached_at n u m s) b then v else verdict.refused Limit)
      (ap (within_report (reached_at n o m s)) (judged_alike env s a b same)
      ∙ within_alike n m s o u (evaluated env s b))

  -- After lines that differ in workers alone the same is reached, except how many octets were taken.
  runs_alike : (a b : List (List ℕ)) (n m : ℕ) (s : State) (o u : ℕ)
      → o + length (concat a) ≤ 16777216 → u + length (concat b) ≤ 16777216 → DifferInWorkers a b
      → run_from env (reached_at n o m s) a ≡ run_from env (reached_at n u m s) b
  unfolding run_from
  runs_alike [] [] n m s o u small_a small_b same = refl
  runs_alike [] (b ∷ bs) n m s o u small_a small_b same = cc
  runs_alike (a ∷ cs) [] n m s o u small_a small_b same = cc
  runs_alike (a ∷ cs) (b ∷ bs) n m s o u small_a small_b same =
      let first = first_alike (but_for_workers (line_of a)) (but_for_workers (line_of b)) _ _ same in
      let others : DifferInWorkers cs bs = others_alike (but_for_workers (line_of a)) (but_for_workers (line_of b)) _ _
      same in
      ap (run_of_line (λ next. run_from env next cs) (reached_at n o m s) a)
      (next_alike n m s o u a b cs bs small_a small_b first)
      ∙ go (evaluated_next env (reached_at n u m s) b) (λ report next.
      runs_alike cs bs (n + 1) (m + length report) next (o + length a) (u + length b)
      (left_within o a cs small_a) (left_within u b bs small_b) others) where
        go : (v : Verdict)
            → ((report : List ℕ) (next : State)
            → run_from env (reached_at (n + 1) (o + length a) (m + length report) next) cs
            ≡ run_from env (reached_at (n + 1) (u + length b) (m + length report) next) bs)
            → run_of_line (λ next. run_from env next cs) (reached_at n o m s) a v
            ≡ run_of_line (λ next. run_from env next bs) (reached_at n u m s) b v
        go (accepted report next) rest = ap (after_text report) (rest report next)
        go (verdict.refused why) rest = refl
        go foreign rest = refl
        go not_evaluated rest = refl

pub workers_make_no_difference : WorkersMakeNoDifference
workers_make_no_difference env a b small_a small_b same =
    runs_alike env (lines a) (lines b) 0 0 initial_state 0 0
    (omega (arith, ap length (lines_joined a), small_a)) (omega (arith, ap length (lines_joined b), small_b)) same
