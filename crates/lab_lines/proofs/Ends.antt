-- What was written at the end.
use Rattle.std.proofs.Common.{◌≡◌, ◌≢◌, ℕ, List, [], ◌++◌, Option, Some, None, IfSome, refl, sym, subst, ◌∙◌, inl}
use Rattle.std.proofs.Common.{inr}
use Rattle.std.proofs.Common.{◌⊎◌}
use Rattle.std.specs.Option.{option_map}
use Rattle.std.proofs.KnownBytes.{Appends-trans}
use Rattle.repo_io.specs.Outside.{GainsText, GainsPrefix}
use Rattle.repo_io.proofs.Outputs.{prefix_after, prefix_longer, prefix_so_far, prefix_whole, nothing_gained}
use Rattle.lab_text.specs.declared.status.LabStatus.{LabStatus}
use Rattle.lab_text.specs.declared.status.LabStatus.TheVariants.{Done, Usage, Refused, ReadFault, WriteFault, NoMemory}
use Rattle.lab_text.specs.declared.status.LabStatus.TheVariants.{Foreign, Differs}
use Rattle.lab_text.specs.Outcomes.{HasCause, IsEnd, Outcome, WritesOutcome}
use Rattle.lab_lines.specs.Carrying.{Ends, IsFailing, IsSettled, IsUnread}
use Rattle.lab_lines.specs.Written.{Known}

-- ---- statuses

pub failing_no_end : (status : LabStatus) → IsFailing status → IsEnd status → ⊥
failing_no_end Done failing end = failing
failing_no_end Usage failing end = end
failing_no_end Refused failing end = failing
failing_no_end ReadFault failing end = end
failing_no_end WriteFault failing end = end
failing_no_end NoMemory failing end = end
failing_no_end Foreign failing end = failing
failing_no_end Differs failing end = failing

pub unread_no_end : (status : LabStatus) → IsUnread status → IsEnd status → ⊥
unread_no_end Done unread end = unread
unread_no_end Usage unread end = end
unread_no_end Refused unread end = unread
unread_no_end ReadFault unread end = end
unread_no_end WriteFault unread end = end
unread_no_end NoMemory unread end = end
unread_no_end Foreign unread end = unread
unread_no_end Differs unread end = unread

pub end_settled : (status : LabStatus) → IsEnd status → IsSettled status
end_settled Done end = tt
end_settled Usage end = absurd end
end_settled Refused end = tt
end_settled ReadFault end = absurd end
end_settled WriteFault end = absurd end
end_settled NoMemory end = absurd end
end_settled Foreign end = tt
end_settled Differs end = tt

pub failing_settled : (status : LabStatus) → IsFailing status → IsSettled status
failing_settled Done failing = tt
failing_settled Usage failing = failing
failing_settled Refused failing = tt
failing_settled ReadFault failing = failing
failing_settled WriteFault failing = tt
failing_settled NoMemory failing = tt
failing_settled Foreign failing = tt
failing_settled Differs failing = tt

-- ---- ends

-- a text, and then the end
pub ends_after : (o whole : Outcome) (a b d : Option (List ℕ)) (text : List ℕ) (status : LabStatus)
    → whole.text ≡ text ++ o.text → whole.status ≡ o.status → GainsText a b text → Ends o b d status
    → Ends whole a d status
ends_after o whole a b d text status texts same gained ends = record {
  same = λ end. ends.same end ∙ sym same;
  text = λ end. subst (GainsText a d) (sym texts) (Appends-trans a b d text o.text gained (ends.text end));
  prefix = let P : List ℕ → Type 0 = λ t. GainsPrefix a d t (status ≡ WriteFault) in
      subst P (sym texts) (prefix_after a b d text o.text gained ends.prefix);
}

-- a text was gained, and then no more, with no end
pub ends_so_far : (whole : Outcome) (a b : Option (List ℕ)) (text more : List ℕ) (status : LabStatus)
    → whole.text ≡ text ++ more → (IsEnd status → ⊥) → status ≢ WriteFault → GainsText a b text
    → Ends whole a b status
ends_so_far whole a b text more status texts no_end whole_text gained = record {
  same = λ end. absurd (no_end end);
  text = λ end. absurd (no_end end);
  prefix = prefix_so_far a b text more whole.text texts (λ e. absurd (whole_text e)) gained;
}

-- no more than a prefix was gained
pub ends_short : (whole : Outcome) (a b : Option (List ℕ)) (status : LabStatus) → IsFailing status
    → GainsPrefix a b whole.text (status ≡ WriteFault) → Ends whole a b status
ends_short whole a b status failing prefix = record {
  same = λ end. absurd (failing_no_end status failing end);
  text = λ end. absurd (failing_no_end status failing end);
  prefix = prefix;
}

-- ---- where the input is known

pub known_map : (P Q : List ℕ → List ℕ → Type 0) → ((input rest : List ℕ) → P input rest → Q input rest)
    → (before now : Option (List ℕ)) → Known before now P → Known before now Q
known_map P Q g None now h = tt
known_map P Q g (Some input) None h = absurd h
known_map P Q g (Some input) (Some rest) h = g input rest h

pub known_same : (P : List ℕ → List ℕ → Type 0) → ((input : List ℕ) → P input input) → (a : Option (List ℕ))
    → Known a a P
known_same P g None = tt
known_same P g (Some input) = g input

pub outcome_written : (of : List ℕ → Outcome) (P : List ℕ → List ℕ → Type 0) (before now a b : Option (List ℕ))
    (status : LabStatus) → ((input rest : List ℕ) → P input rest → Ends (of input) a b status) → Known before now P
    → WritesOutcome (option_map of before) a b status
outcome_written of P None now a b status g h = record { end = λ e. tt; text = λ e. tt; prefix = tt }
outcome_written of P (Some input) None a b status g h = absurd h
outcome_written of P (Some input) (Some rest) a b status g h =
    let ends = g input rest h in
    record { end = ends.same; text = ends.text; prefix = ends.prefix }

caused : {SourceFailed SinkFailed : Type 0} (o : Option Outcome) (status : LabStatus)
    → (status ≡ ReadFault → SourceFailed) → (status ≡ WriteFault → SinkFailed) → status ≢ Usage
    → (IsEnd status → IfSome o (λ it. status ≡ it.status)) → (SourceFailed → ⊥) → (SinkFailed → ⊥)
    → IfSome o (λ it. (status ≡ it.status) ⊎ (status ≡ NoMemory))
caused None status source sink usage ends sound whole = tt
caused (Some it) Done source sink usage ends sound whole = inl (ends tt)
caused (Some it) Usage source sink usage ends sound whole = absurd (usage refl)
caused (Some it) Refused source sink usage ends sound whole = inl (ends tt)
caused (Some it) ReadFault source sink usage ends sound whole = absurd (sound (source refl))
caused (Some it) WriteFault source sink usage ends sound whole = absurd (whole (sink refl))
caused (Some it) NoMemory source sink usage ends sound whole = inr refl
caused (Some it) Foreign source sink usage ends sound whole = inl (ends tt)
caused (Some it) Differs source sink usage ends sound whole = inl (ends tt)

pub has_cause : {SourceFailed SinkFailed : Type 0} (o : Option Outcome) (a b : Option (List ℕ)) (status : LabStatus)
    → (status ≡ ReadFault → SourceFailed) → (status ≡ WriteFault → SinkFailed) → status ≢ Usage
    → WritesOutcome o a b status → HasCause o status SourceFailed SinkFailed
has_cause o a b status source sink usage writes = record {
  read_fault = source;
  write_fault = sink;
  complete = caused o status source sink usage writes.end;
}

-- nothing was written, since memory ran out
pub unwritten : (o : Option Outcome) (a : Option (List ℕ)) → WritesOutcome o a a NoMemory
unwritten None a = record { end = λ e. tt; text = λ e. tt; prefix = tt }
unwritten (Some it) a = record {
  end = λ e. absurd e;
  text = λ e. absurd e;
  prefix = prefix_longer a a [] it.text (prefix_whole a a [] (λ e. cc) (nothing_gained a));
}
