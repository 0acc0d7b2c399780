-- What a run wrote, beside what it may write over its input.
use Rattle.std.proofs.Common.{◌≡◌, ◌∙◌, ◌⊎◌, inl, inr, ℕ, true, List, [], ◌++◌, Option, Some, None, refl, sym, ap}
use Rattle.std.proofs.Common.{subst, Vec}
use Rattle.std.specs.Prelude.{IfSome}
use Rattle.std.specs.Global.{Global}
use Rattle.std.proofs.lemmas.List.{append-nil}
use Rattle.live_settle.specs.declared.ran.Ran.{Ran}
use Rattle.repo_io.specs.declared.status.Status.{Status}
use Rattle.repo_io.specs.declared.status.Status.TheVariants as status
use Rattle.repo_io.specs.Outside.{GainsText}
use Rattle.repo_io.proofs.Outputs.{prefix_as, prefix_whole}
use Rattle.script_report.specs.declared.refusal.Refusal.{Refusal}
use Rattle.live_script.specs.Evaluation.{Reached, is_of_live}
use Rattle.script_report.specs.Refusals.{refusal_text}
use Rattle.live_top.specs.Answers.{Refuses, Runs, SaysRefused, WritesPrefix}
use Rattle.live_top.specs.Inputs.{IsRead}
use Rattle.live_top.specs.Journals.{live_text}
use Rattle.live_top.specs.Outcomes.{Outcome, Refused, Taken, labels_at, outcome_of}

-- The text that was written for a refused line says why the line is refused.
pub says_refused : (left a b : Option (List ℕ)) (line : ℕ) (why : Refusal) (s : Status) → Refuses line why a b s
    → (is_of_live why ≡ true) × IfSome left (λ input. outcome_of input ≡ Refused line why)
    → (at number : ℕ) → s ≡ status.Refused at number → SaysRefused at number a b
says_refused left a b line why s is halted at number answered =
    let reported = subst (Refuses line why a b) answered is in
    record {
      why = why;
      among = halted.0;
      number_is = reported.1;
      text = subst (λ (n : ℕ). GainsText a b (refusal_text n why)) (sym reported.0) reported.2;
    }

-- The outcome of an input that was read to its end is the result of its lines.
read_outcome : (left rest : Option (List ℕ)) (r : Reached) → IsRead left rest r
    → IfSome left (λ input. outcome_of input ≡ Taken r)
read_outcome None rest r is = tt
read_outcome (Some whole) None r is = absurd is.read
read_outcome (Some whole) (Some more) r is =
    let none : more ≡ [] = is.ended in
    subst (λ (octets : List ℕ). outcome_of octets ≡ Taken r)
    (sym (ap (λ (m : List ℕ). is.input ++ m) none ∙ append-nil is.input) ∙ is.read) is.taken

module _ (draw : ℕ → ℕ → ℕ) (a b : Option (List ℕ)) where
  runs_prefix : (r : Reached) (end : Option (Vec Ran Global)) (s : Status) → Runs draw r a b end s
      → (s ≡ status.NoMemory) ⊎ WritesPrefix draw (Taken r) a b (s ≡ status.WriteFault)
  runs_prefix r (Some rans) status.Done ran = inr (record {
    text = live_text (labels_at r) rans.items;
    may = record { rans = rans.items; ran = ran.ran; is = refl };
    prefix = prefix_whole a b (live_text (labels_at r) rans.items) (λ e. cc) ran.text;
  })
  runs_prefix r (Some rans) status.Usage ran = absurd ran
  runs_prefix r (Some rans) (status.Refused line number) ran = absurd ran
  runs_prefix r (Some rans) status.ReadFault ran = absurd ran
  runs_prefix r (Some rans) status.WriteFault ran = absurd ran
  runs_prefix r (Some rans) status.NoMemory ran = absurd ran
  runs_prefix r (Some rans) (status.Foreign line) ran = absurd ran
  runs_prefix r None status.Done ran = absurd ran
  runs_prefix r None status.Usage ran = absurd ran
  runs_prefix r None (status.Refused line number) ran = absurd ran
  runs_prefix r None status.ReadFault ran = absurd ran
  runs_prefix r None status.WriteFault ran =
      inr (record { text = ran.text; may = ran.may; prefix = prefix_as a b ran.text (λ e. tt) ran.prefix })
  runs_prefix r None status.NoMemory ran = inl refl
  runs_prefix r None (status.Foreign line) ran = absurd ran

  refuses_prefix : (line : ℕ) (why : Refusal) (s : Status) → Refuses line why a b s
      → (s ≡ status.NoMemory) ⊎ WritesPrefix draw (Refused line why) a b (s ≡ status.WriteFault)
  refuses_prefix line why status.Done is = absurd is
  refuses_prefix line why status.Usage is = absurd is
  refuses_prefix line why (status.Refused at number) is = inr (record {
    text = refusal_text line why;
    may = refl;
    prefix = prefix_whole a b (refusal_text line why) (λ e. cc) is.2;
  })
  refuses_prefix line why status.ReadFault is = absurd is
  refuses_prefix line why status.WriteFault is = inr (record {
    text = refusal_text line why;
    may = refl;
    prefix = prefix_as a b (refusal_text line why) (λ e. tt) is;
  })
  refuses_prefix line why status.NoMemory is = inl refl
  refuses_prefix line why (status.Foreign at) is = absurd is

  -- what was written, by the outcome of the whole input
  module _ (Same : Type 0) (s : Status) (same : s ≡ status.NoMemory → Same) where
    over_input : (left : Option (List ℕ)) (o : Outcome)
        → (s ≡ status.NoMemory) ⊎ WritesPrefix draw o a b (s ≡ status.WriteFault)
        → IfSome left (λ input. outcome_of input ≡ o)
        → IfSome left (λ input. Same ⊎ WritesPrefix draw (outcome_of input) a b (s ≡ status.WriteFault))
    over_input None o wrote is = tt
    over_input (Some input) o wrote is = elim wrote [
      | inl e ↦ inl (same e)
      | inr prefix ↦ inr (subst (λ (p : Outcome). WritesPrefix draw p a b (s ≡ status.WriteFault)) (sym is) prefix)
    ]

    pub prefix_of_run : (left rest : Option (List ℕ)) (r : Reached) (end : Option (Vec Ran Global)) → IsRead left rest r
        → Runs draw r a b end s
        → IfSome left (λ input. Same ⊎ WritesPrefix draw (outcome_of input) a b (s ≡ status.WriteFault))
    prefix_of_run left rest r end read ran =
        over_input left (Taken r) (runs_prefix r end s ran) (read_outcome left rest r read)

    pub prefix_of_refusal : (left : Option (List ℕ)) (line : ℕ) (why : Refusal) → Refuses line why a b s
        → (is_of_live why ≡ true) × IfSome left (λ input. outcome_of input ≡ Refused line why)
        → IfSome left (λ input. Same ⊎ WritesPrefix draw (outcome_of input) a b (s ≡ status.WriteFault))
    prefix_of_refusal left line why is halted =
        over_input left (Refused line why) (refuses_prefix line why s is) halted.1
