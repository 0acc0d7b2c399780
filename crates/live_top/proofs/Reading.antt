-- The result of reading an input, by the octets that were read of it.
use Rattle.std.proofs.Common.{◌≡◌, ◌∙◌, ℕ, ◌+◌, ◌<◌, ◌≤◌, true, ltb, List, [], ◌∷◌, ◌++◌, length, Option, Some, None}
use Rattle.std.proofs.Common.{Result, Ok, Err}
use Rattle.std.proofs.Common.{refl, sym, ap, subst, arith, inl, inr}
use Rattle.std.specs.Prelude.{IfErr, IfOk, IfSome}
use Rattle.std.specs.Result.{IsErrAnd}
use Rattle.std.specs.Io.KnownBytes.{IsAtEnd, Keeps, prepend_known}
use Rattle.std.proofs.lemmas.Bool.{cases_Bool, ltb-false, ltb-true}
use Rattle.std.proofs.lemmas.List.{append-nil}
use Rattle.repo_io.specs.Outside.{HasRisen}
use Rattle.repo_io.specs.declared.read_fault.ReadFault.{ReadFault}
use Rattle.repo_io.specs.declared.read_fault.ReadFault.TheVariants as fault
use Rattle.repo_io.specs.Lines.{lines}
use Rattle.live_script.specs.Evaluation.{IsEvaluated, Reached, Verdict, is_of_live, evaluated, refused, takes}
use Rattle.live_script.specs.Evaluation.{not_evaluated}
use Rattle.live_script.proofs.Evaluated.{each_line_is_evaluated}
use Rattle.script_report.specs.declared.refusal.Refusal.{Refusal}
use Rattle.live_top.specs.declared.input.InputError.{InputError}
use Rattle.live_top.specs.declared.input.InputError.TheVariants as halt
use Rattle.live_top.specs.Inputs.{IsHaltedAt, IsRead, Stops, halt_of}
use Rattle.live_top.specs.Outcomes.{Refused, Taken, outcome_after, outcome_from, outcome_of}
use Rattle.live_top.proofs.Counting.{input_within, refused_whole}

-- An input whose lines are all taken is shorter than what was asked for, so it was read to its end.
pub read_whole : (left rest : Option (List ℕ)) (input : List ℕ) (r : Result Reached InputError)
    → Keeps left (prepend_known input rest) → (length input < 16777217 → IsAtEnd rest)
    → IfOk r (λ script. outcome_of input ≡ Taken script) → IfOk r (IsRead left rest)
read_whole left rest input (Err error) read ended taken = tt
read_whole left rest input (Ok script) read ended taken =
    let few = input_within input script taken in
    record { input = input; read = read; ended = ended (omega (arith, few)); taken = taken }

-- The first line that is refused of the octets that were read is the first that is refused of the whole input.
refused_of : (left rest : Option (List ℕ)) (input : List ℕ) (n : ℕ) (why : Refusal)
    → Keeps left (prepend_known input rest) → (length input < 16777217 → IsAtEnd rest)
    → outcome_of input ≡ Refused n why → IfSome left (λ whole. outcome_of whole ≡ Refused n why)
refused_of None rest input n why read ended is = tt
refused_of (Some whole) None input n why read ended is = absurd read
refused_of (Some whole) (Some more) input n why read ended is =
    subst (λ (octets : List ℕ). outcome_of octets ≡ Refused n why) (read)
    (elim (cases_Bool (ltb (length input) 16777217)) [
      | inl short ↦
          let none : more ≡ [] = ended (ltb-true (length input) 16777217 short) in
          subst (λ (octets : List ℕ). outcome_of octets ≡ Refused n why)
          (sym (ap (λ (m : List ℕ). input ++ m) none ∙ append-nil input)) is
      | inr long ↦
          refused_whole input more n why (omega (arith, ltb-false (length input) 16777217 long)) is
    ])

-- A line of an input is refused for a reason that such an input has.
refused_among : (r : Reached) (ls : List (List ℕ)) (n : ℕ) (why : Refusal) → outcome_from r ls ≡ Refused n why
    → is_of_live why ≡ true
unfolding outcome_from
refused_among r [] n why is = absurd cc
refused_among r (line ∷ ls) n why is =
    go (evaluated r line) (each_line_is_evaluated r line) is (λ next h. refused_among next ls n why h) where
      go : (v : Verdict) → IsEvaluated v
          → outcome_after (λ next. outcome_from next ls) (r.lines + 1) v ≡ Refused n why
          → ((next : Reached) → outcome_from next ls ≡ Refused n why → is_of_live why ≡ true)
          → is_of_live why ≡ true
      go (refused w) is_evaluated h others =
          let same : w ≡ why = cc in
          subst (λ (reason : Refusal). is_of_live reason ≡ true) same is_evaluated
      go (takes next) is_evaluated h others = others next h
      go not_evaluated is_evaluated h others = absurd is_evaluated

pub halted_at : (left rest : Option (List ℕ)) (old new : ℕ) (input : List ℕ) (r : Result Reached InputError)
    → Keeps left (prepend_known input rest) → length input ≤ 16777217 → (length input < 16777217 → IsAtEnd rest)
    → IfErr r (Stops (outcome_of input)) → IfErr r (IsHaltedAt left old new)
halted_at left rest old new input (Ok script) read most ended stops = tt
halted_at left rest old new input (Err halt.Failed) read most ended stops = absurd stops
halted_at left rest old new input (Err (halt.Refused n why)) read most ended stops =
    (refused_among _ (lines input) n why stops, refused_of left rest input n why read ended stops)
halted_at left rest old new input (Err halt.NoMemory) read most ended stops = tt

-- Why reading halts where the input could not be read to its end.
pub halts_unread : {A : Type 0} (left : Option (List ℕ)) (old new : ℕ) (r : Result A InputError) (f : ReadFault)
    → (f ≡ fault.Failed → HasRisen old new) → IsErrAnd r (λ h. h ≡ halt_of f) → IfErr r (IsHaltedAt left old new)
halts_unread left old new (Ok x) f risen is = tt
halts_unread left old new (Err h) fault.Failed risen is = subst (IsHaltedAt left old new) (sym is) (risen refl)
halts_unread left old new (Err h) fault.NoMemory risen is = subst (IsHaltedAt left old new) (sym is) tt
