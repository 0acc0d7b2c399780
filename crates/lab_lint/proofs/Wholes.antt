-- What was written of the octets that were read is written of the whole input.
use Rattle.std.proofs.Common.{◌≡◌, ◌≢◌, ◌<◌, ◌≤◌, ◌⊎◌, eqb, ℕ, Bool, true, false, List, length, take, Option, Some}
use Rattle.std.proofs.Common.{None, sym, ap, subst}
use Rattle.std.proofs.Common.{◌∙◌, if◌then◌else◌}
use Rattle.std.specs.Option.{option_map}
use Rattle.std.specs.Io.KnownBytes.{Keeps, prepend_known}
use Rattle.repo_io.specs.Outside.{GainsPrefix, GainsText}
use Rattle.repo_io.proofs.Outputs.{prefix_taken, prefix_whole}
use Rattle.lab_text.specs.declared.status.LabStatus.{LabStatus}
use Rattle.lab_text.specs.declared.status.LabStatus.TheVariants.{Done, NoMemory, Refused, WriteFault}
use Rattle.lab_text.specs.Outcomes.{HasCause, IsEnd, Outcome, WritesOutcome}
use Rattle.lab_lint.specs.Linting.{end_of, lint_of, outcome_in}
use Rattle.lab_lint.proofs.Inputs.{IsWhole, read_of_both}

-- a script that was read to its end has no failed sink
pub end_is_sound : (refused : ℕ) → end_of refused ≢ WriteFault
end_is_sound refused = go (eqb refused 0) where
  go : (t : Bool) → (if t then Done else Refused) ≢ WriteFault
  go true = λ e. absurd (subst IsEnd e tt)
  go false = λ e. absurd (subst IsEnd e tt)

-- the whole text was written
pub written_whole : (o : Outcome) (status : LabStatus) (a b : Option (List ℕ)) (text : List ℕ) → text ≡ o.text
    → status ≡ o.status → status ≢ WriteFault → GainsText a b text → WritesOutcome (Some o) a b status
written_whole o status a b text same ended sound gained =
    let all : GainsText a b o.text = subst (GainsText a b) same gained in
    record { end = λ e. ended; text = λ e. all; prefix = prefix_whole a b o.text sound all }

-- the sink failed
pub written_short : (o : Outcome) (a b : Option (List ℕ)) (text : List ℕ) (n : ℕ) → text ≡ o.text
    → n < length text → GainsText a b (take n text) → WritesOutcome (Some o) a b WriteFault
written_short o a b text n same less gained =
    let P : List ℕ → Type 0 = λ t. GainsPrefix a b t (WriteFault ≡ WriteFault) in
    record {
      end = λ e. absurd e;
      text = λ e. absurd e;
      prefix = subst P same (prefix_taken a b n text less gained);
    }

outcome_is : (read rest input : List ℕ) → Keeps (Some input) (prepend_known read (Some rest))
    → length read ≤ 300000001 → IsWhole read (Some rest) → outcome_in read ≡ lint_of input
outcome_is read rest input e most whole =
    ap outcome_in (sym (read_of_both read rest most whole)) ∙ ap lint_of e

pub whole_writes : (before left : Option (List ℕ)) (read : List ℕ) (a b : Option (List ℕ)) (status : LabStatus)
    → Keeps before (prepend_known read left) → length read ≤ 300000001 → IsWhole read left
    → WritesOutcome (Some (outcome_in read)) a b status → WritesOutcome (option_map lint_of before) a b status
whole_writes None left read a b status e most whole w = record { end = λ x. tt; text = λ x. tt; prefix = tt }
whole_writes (Some input) None read a b status e most whole w = absurd e
whole_writes (Some input) (Some rest) read a b status e most whole w =
    let P : Outcome → Type 0 = λ o. WritesOutcome (Some o) a b status in
    subst P (outcome_is read rest input e most whole) w

pub whole_causes : (Source Sink : Type 0) (before left : Option (List ℕ)) (read : List ℕ) (status : LabStatus)
    → Keeps before (prepend_known read left) → length read ≤ 300000001 → IsWhole read left
    → HasCause (Some (outcome_in read)) status ⊥ Sink → HasCause (option_map lint_of before) status Source Sink
whole_causes Source Sink None left read status e most whole w =
    record { read_fault = λ x. absurd (w.read_fault x); write_fault = w.write_fault; complete = λ x y. tt }
whole_causes Source Sink (Some input) None read status e most whole w = absurd e
whole_causes Source Sink (Some input) (Some rest) read status e most whole w =
    let P : Outcome → Type 0 = λ o. (status ≡ o.status) ⊎ (status ≡ NoMemory) in
    record {
      read_fault = λ x. absurd (w.read_fault x);
      write_fault = w.write_fault;
      complete = λ x y. subst P (outcome_is read rest input e most whole) (w.complete (λ z. z) y);
    }
