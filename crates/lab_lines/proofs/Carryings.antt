-- Lines that were passed, and how a form ends after them.
use Rattle.std.proofs.Common.{◌≡◌, ◌≢◌, ℕ, ◌+◌, ◌-◌, ◌≤◌, false, ltb, List, [], ◌∷◌, ◌++◌, length, take}
use Rattle.std.proofs.Common.{drop}
use Rattle.std.proofs.Common.{Option, Some, None, refl, sym, ap, subst, ◌∙◌, append_assoc, length-append, arith}
use Rattle.std.proofs.Common.{inl, inr}
use Rattle.std.specs.List.{concat, filter}
use Rattle.std.specs.Io.KnownBytes.{IsAtEnd, Keeps, prepend_known}
use Rattle.std.proofs.KnownBytes.{Appends-trans}
use Rattle.std.proofs.lemmas.Bool.{le-ltb, or_from}
use Rattle.std.proofs.lemmas.List.{append-nil}
use Rattle.std.proofs.lemmas.List.Elements.{filter-append}
use Rattle.std.proofs.lemmas.List.Folds.{concat-append}
use Rattle.std.proofs.Math.Seq.{take-append_seam, take-append-add}
use Rattle.repo_io.specs.Lines.{IsWhole, has_feed, lines}
use Rattle.repo_io.specs.Outside.{GainsText, GainsPrefix}
use Rattle.repo_io.proofs.LineLaws.{open_line, whole_first}
use Rattle.repo_io.proofs.Outputs.{prefix_after, prefix_longer, nothing_gained}
use Rattle.script_story.specs.declared.ending.Ending.{Ending}
use Rattle.script_story.specs.Evaluation.{RunEnvironment}
use Rattle.script_lines.specs.Reading.{HasLine, LineIsBegun}
use Rattle.lab_text.specs.declared.status.LabStatus.{LabStatus}
use Rattle.lab_text.specs.declared.status.LabStatus.TheVariants.{ReadFault, WriteFault}
use Rattle.lab_text.specs.Outcomes.{IsEnd}
use Rattle.lab_lines.specs.declared.totals.Totals.{Totals}
use Rattle.lab_lines.specs.Carrying.{Carried, Ends, EndsAfter, Fails, Halts, IsFailing, IsSettled, Passes, RunEnds}
use Rattle.lab_lines.specs.Carrying.{after_stop_at, ran}
use Rattle.lab_lines.specs.Folding.{FormOf, Passed, Ran, form_outcome, nothing_passed, outcome_of, ran_from, ran_over}
use Rattle.lab_lines.specs.Folding.{with_text}
use Rattle.lab_lines.specs.Written.{IsTakenNear, Known, WritesLines, can_be_evaluated, end_of_lines, lines_so_far}
use Rattle.lab_lines.specs.Written.{taken}
use Rattle.lab_lines.proofs.Ends.{ends_after, ends_short, ends_so_far, failing_no_end, known_map}
use Rattle.lab_lines.proofs.Folds.{no_lines}
use Rattle.lab_lines.proofs.LongLines.{whole_judged}
use Rattle.lab_lines.proofs.Runs.{fails_real, halts_real, halts_text, held_parts, line_kind, long_not_passed}
use Rattle.lab_lines.proofs.Runs.{read_grows}
use Rattle.lab_lines.proofs.Runs.{with_with}

-- what was taken of an input, of which `rest` is unread
taken_is : (input prefix rest : List ℕ) → input ≡ prefix ++ rest → taken input rest ≡ prefix
taken_is input prefix rest whole =
    let size : length input - length rest ≡ length prefix = omega (arith, ap length whole, length-append prefix rest) in
    rw (size, whole) (take-append_seam prefix rest)

-- a form that failed says nothing of lines
pub failing_lines : {M : Type 0} (f : FormOf M) (env : RunEnvironment) (m : M) (a b : Option (List ℕ))
    (status : LabStatus)
    (input rest : List ℕ) → status ≢ ReadFault → (IsEnd status → ⊥) → WritesLines f env m a b status input rest
failing_lines f env m a b status input rest read no_end = record {
  exact_after_read_fault = λ e. absurd (read e);
  read_to_end = λ end. absurd (no_end end);
  bounded = λ end. absurd (no_end end);
}

-- a line that is only begun can't be evaluated yet
begun_judged : (held : List ℕ) → LineIsBegun held → filter can_be_evaluated (lines held) ≡ []
unfolding lines
begun_judged [] begun = refl
begun_judged (octet ∷ octets) begun =
    let one : lines (octet ∷ octets) ≡ (octet ∷ octets) ∷ [] = open_line (octet ∷ octets) (λ e. cc) begun.free in
    let not_yet : can_be_evaluated (octet ∷ octets) ≡ false =
    or_from (has_feed (octet ∷ octets)) (ltb 32768 (length (octet ∷ octets))) begun.free
    (le-ltb 32768 (length (octet ∷ octets)) begun.short) in
    ap (filter can_be_evaluated) one ∙ rw not_yet refl

-- nothing was passed yet
pub nothing_carried : {M : Type 0} (f : FormOf M) (env : RunEnvironment) (m : M) (p : Passed) (held : List ℕ)
    (a : Option (List ℕ)) (input : List ℕ) → held ≡ [] → p ≡ nothing_passed → Carried f env m held p m a a input input
nothing_carried {M} f env m p held a input none begun = record {
  done = [];
  octets = [];
  text = [];
  parts = ap (λ (t : List ℕ). t ++ input) (sym none);
  cut = λ more. refl;
  joined = refl;
  count = ap (λ (x : Passed). x.lines) begun;
  evaluated = refl;
  goes = λ others. ap (λ (x : Passed). ran_from f env x m others) (sym begun);
  gained = nothing_gained a;
}

module _ {M : Type 0} (f : FormOf M) (env : RunEnvironment) (begun : M) (held : List ℕ) (p : Passed) (m : M)
    (a b : Option (List ℕ)) (input rest : List ℕ) (so_far : Carried f env begun held p m a b input rest) where
  -- octets were read
  pub carried_read : (held' rest' : List ℕ) → held' ++ rest' ≡ held ++ rest
      → Carried f env begun held' p m a b input rest'
  carried_read held' rest' e = record {
    done = so_far.done;
    octets = so_far.octets;
    text = so_far.text;
    parts = so_far.parts ∙ ap (λ (t : List ℕ). so_far.octets ++ t) (sym e);
    cut = so_far.cut;
    joined = so_far.joined;
    count = so_far.count;
    evaluated = so_far.evaluated;
    goes = so_far.goes;
    gained = so_far.gained;
  }

  -- the result of the whole run, by that of the lines that were not passed
  run_is : (more : List ℕ) → input ≡ so_far.octets ++ more → ran_over f env begun (lines input)
      ≡ with_text so_far.text (ran_from f env p m (lines more))
  run_is more parts = ap (λ (t : List ℕ). ran_over f env begun (lines t)) parts
      ∙ ap (ran_over f env begun) (so_far.cut more) ∙ so_far.goes (lines more)

  -- the lines so far, where the octets `more` were taken after the lines that were passed
  so_far_is : (more now : List ℕ) → input ≡ (so_far.octets ++ more) ++ now
      → lines_so_far (taken input now) ≡ so_far.done ++ filter can_be_evaluated (lines more)
  so_far_is more now parts = rw (taken_is input (so_far.octets ++ more) now parts)
      (ap (filter can_be_evaluated) (so_far.cut more) ∙ filter-append can_be_evaluated so_far.done (lines more)
      ∙ ap (λ (t : List (List ℕ)). t ++ filter can_be_evaluated (lines more)) so_far.evaluated)

  octets_within : (n : ℕ) → p.lines ≤ n → length so_far.octets ≤ end_of_lines n input
  octets_within n le =
      let count : length so_far.done ≤ n = omega (arith, le, so_far.count) in
      let more = take (n - length so_far.done) (lines (held ++ rest)) in
      let size : n ≡ length so_far.done + (n - length so_far.done) = omega arith in
      let first : take n (lines input) ≡ so_far.done ++ more =
      ap (take n) (ap lines so_far.parts ∙ so_far.cut (held ++ rest))
      ∙ ap (λ (i : ℕ). take i (so_far.done ++ lines (held ++ rest))) size
      ∙ take-append-add so_far.done (lines (held ++ rest)) (n - length so_far.done) in
      let all : concat (take n (lines input)) ≡ so_far.octets ++ concat more = ap concat first
      ∙ concat-append so_far.done more ∙ ap (λ (t : List ℕ). t ++ concat more) so_far.joined in
      omega (arith, ap length all, length-append so_far.octets (concat more))

  near : (n : ℕ) → p.lines ≤ n → length held ≤ 65536 → IsTakenNear n input rest
  near n le few =
      omega (
        arith,
        octets_within n le,
        few,
        ap length so_far.parts,
        length-append so_far.octets (held ++ rest),
        length-append held rest,
      )

  -- ---- a line is passed

  module _ (q : Passed) (n : M) (d : Option (List ℕ)) (count : ℕ)
      (passes : Passes f env p m (take count held) q n b d) where
    with_line : IsWhole (take count held) → Carried f env begun (drop count held) q n a d input rest
    with_line whole =
        let line = take count held in
        record {
          done = so_far.done ++ line ∷ [];
          octets = so_far.octets ++ line;
          text = so_far.text ++ passes.text;
          parts = so_far.parts ∙ ap (λ (t : List ℕ). so_far.octets ++ t) (held_parts held rest count)
              ∙ sym (append_assoc so_far.octets line (drop count held ++ rest));
          cut = λ more. ap lines (append_assoc so_far.octets line more) ∙ so_far.cut (line ++ more)
              ∙ ap (λ (t : List (List ℕ)). so_far.done ++ t) (whole_first line more whole)
              ∙ sym (append_assoc so_far.done (line ∷ []) (lines more));
          joined = concat-append so_far.done (line ∷ []) ∙ ap (λ (t : List ℕ). t ++ (line ++ [])) so_far.joined
              ∙ ap (λ (t : List ℕ). so_far.octets ++ t) (append-nil line);
          count = omega (arith, passes.count, so_far.count, length-append so_far.done (line ∷ []));
          evaluated = filter-append can_be_evaluated so_far.done (line ∷ [])
              ∙ rw (so_far.evaluated, whole_judged line whole) refl;
          goes = λ others. ap (ran_over f env begun) (append_assoc so_far.done (line ∷ []) others)
              ∙ so_far.goes (line ∷ others) ∙ ap (with_text so_far.text) (passes.goes others)
              ∙ with_with so_far.text passes.text (ran_from f env q n others);
          gained = Appends-trans a b d so_far.text passes.text so_far.gained passes.gained;
        }

    pub carried_line : HasLine count held → Carried f env begun (drop count held) q n a d input rest
    carried_line h = elim (line_kind held count h) [
      | inl whole ↦ with_line whole
      | inr long ↦ absurd (long_not_passed f env p m (take count held) q n b d long passes)
    ]

  -- ---- how it ends

  -- the source failed
  pub run_unread : LineIsBegun held → RunEnds f env begun a b ReadFault input rest
  run_unread begun_line =
      let whole = form_outcome f env begun input in
      let is = run_is (held ++ rest) so_far.parts in
      let last = ran_from f env p m (lines (held ++ rest)) in
      let all = ran_over f env begun (lines input) in
      let last_text = (f.end all.form all.ending).text in
      let texts : whole.text ≡ so_far.text ++ (last.text ++ last_text) =
      ap (λ (r : Ran M). r.text ++ last_text) is ∙ append_assoc so_far.text last.text last_text in
      record {
        ends = ends_so_far whole a b so_far.text (last.text ++ last_text) ReadFault texts (λ end. end) (λ e. cc)
            so_far.gained;
        lines = record {
          exact_after_read_fault = λ e. exact;
          read_to_end = λ end. absurd end;
          bounded = λ end. absurd end;
        };
      } where
        none_judged : filter can_be_evaluated (lines held) ≡ []
        none_judged = begun_judged held begun_line

        exact : GainsText a b (ran_over f env begun (lines_so_far (taken input rest))).text
        exact =
            let parts : input ≡ (so_far.octets ++ held) ++ rest =
            so_far.parts ∙ sym (append_assoc so_far.octets held rest) in
            let ls : lines_so_far (taken input rest) ≡ so_far.done ++ [] =
            so_far_is held rest parts ∙ ap (λ (t : List (List ℕ)). so_far.done ++ t) none_judged in
            let text : (ran_over f env begun (lines_so_far (taken input rest))).text ≡ so_far.text =
            ap (λ (t : List (List ℕ)). (ran_over f env begun t).text) ls
            ∙ ap (λ (r : Ran M). r.text) (so_far.goes [] ∙ ap (with_text so_far.text) (no_lines f env p m))
            ∙ append-nil so_far.text in
            subst (GainsText a b) (sym text) so_far.gained

  -- the run failed at a line
  pub run_failed : (d : Option (List ℕ)) (count : ℕ) (status : LabStatus) → HasLine count held
      → Fails f env p m (take count held) b d status → RunEnds f env begun a d status input rest
  run_failed d count status h fails =
      let whole = form_outcome f env begun input in
      let more = drop count held ++ rest in
      let parts : input ≡ so_far.octets ++ (take count held ++ more) =
      so_far.parts ∙ ap (λ (t : List ℕ). so_far.octets ++ t) (held_parts held rest count) in
      let is = run_is (take count held ++ more) parts in
      let last = ran_from f env p m (lines (take count held ++ more)) in
      let all = ran_over f env begun (lines input) in
      let last_text = (f.end all.form all.ending).text in
      let texts : whole.text ≡ so_far.text ++ (last.text ++ last_text) =
      ap (λ (r : Ran M). r.text ++ last_text) is ∙ append_assoc so_far.text last.text last_text in
      let short = fails_real f env p m (take count held) b d status (line_kind held count h) fails more in
      let P : List ℕ → Type 0 = λ t. GainsPrefix a d t (status ≡ WriteFault) in
      record {
        ends = ends_short whole a d status fails.failing (subst P (sym texts)
            (prefix_after a b d so_far.text (last.text ++ last_text) so_far.gained
            (prefix_longer b d last.text last_text short)));
        lines = failing_lines f env begun a d status input rest
            (λ e. subst IsFailing e fails.failing) (failing_no_end status fails.failing);
      }

  -- the script stopped at a line
  pub run_halted : (d e : Option (List ℕ)) (count : ℕ) (status : LabStatus) (ending : Ending) (totals : Totals) (n : M)
      (now : List ℕ) → HasLine count held → length held ≤ 65536
      → Halts f env p m (take count held) ending totals n b d
      → EndsAfter f ending totals.lines totals.octets n (take count held) (drop count held) d e status rest now
      → RunEnds f env begun a e status input now
  run_halted d e count status ending totals n now h few halts after =
      let line = take count held in
      let more = drop count held ++ rest in
      let kind = line_kind held count h in
      let kept = after_stop_at f totals.lines totals.octets n line more in
      let parts : input ≡ so_far.octets ++ (line ++ more) =
      so_far.parts ∙ ap (λ (t : List ℕ). so_far.octets ++ t) (held_parts held rest count) in
      let is : ran_over f env begun (lines input) ≡ ran (so_far.text ++ halts.text) kept ending totals.lines =
      run_is (line ++ more) parts
      ∙ ap (with_text so_far.text) (halts_real f env p m line ending totals n b d halts kind more) in
      let whole = form_outcome f env begun input in
      let o = f.end kept ending in
      let both = Appends-trans a b d so_far.text halts.text so_far.gained halts.gained in
      let texts : whole.text ≡ (so_far.text ++ halts.text) ++ o.text = ap (λ (r : Ran M). (outcome_of f r).text) is in
      let same : whole.status ≡ o.status = ap (λ (r : Ran M). (outcome_of f r).status) is in
      record {
        ends = ends_after o whole a d e (so_far.text ++ halts.text) status texts same both after.ends;
        lines = record {
          exact_after_read_fault = λ fault.
              let octets = after.read.octets in
              let parts_now : input ≡ (so_far.octets ++ (line ++ octets)) ++ now =
              parts ∙ ap (λ (t : List ℕ). so_far.octets ++ (line ++ t)) after.read.are
              ∙ sym (append_assoc so_far.octets (line ++ octets) now
              ∙ ap (λ (t : List ℕ). so_far.octets ++ t) (append_assoc line octets now)) in
              let ls = so_far_is (line ++ octets) now parts_now in
              let text : (ran_over f env begun (lines_so_far (taken input now))).text ≡ so_far.text ++ halts.text =
              ap (λ (t : List (List ℕ)). (ran_over f env begun t).text) ls
              ∙ ap (λ (r : Ran M). r.text) (so_far.goes (filter can_be_evaluated (lines (line ++ octets))))
              ∙ ap (λ (t : List ℕ). so_far.text ++ t)
              (halts_text f env p m line ending totals n b d halts kind octets) in
              let all : GainsText a e ((so_far.text ++ halts.text) ++ []) =
              Appends-trans a d e (so_far.text ++ halts.text) [] both (after.unread fault) in
              subst (GainsText a e) (append-nil (so_far.text ++ halts.text) ∙ sym text) all;
          read_to_end = λ end done. absurd (halts.not_done (sym (ap (λ (r : Ran M). r.ending) is) ∙ done));
          bounded = λ end off.
              let here : IsTakenNear totals.lines input rest = near totals.lines (omega (arith, halts.lines)) few in
              let by_read = subst (λ (k : ℕ). IsTakenNear k input rest) (sym (ap (λ (r : Ran M). r.read) is)) here in
              subst (IsTakenNear (ran_over f env begun (lines input)).read input) (sym (after.unread_rest off))
              by_read;
        };
      }

  -- the run reached the end of its input
  pub run_finished : (d : Option (List ℕ)) (status : LabStatus) → rest ≡ [] → length held ≤ 65536 → IsSettled status
      → Ends (outcome_of f (ran_from f env p m (lines held))) b d status
      → RunEnds f env begun a d status input rest
  run_finished d status none few settled ends =
      let parts : input ≡ so_far.octets ++ held =
      so_far.parts ∙ ap (λ (t : List ℕ). so_far.octets ++ t)
      (ap (λ (t : List ℕ). held ++ t) none ∙ append-nil held) in
      let is = run_is held parts in
      let whole = form_outcome f env begun input in
      let last = ran_from f env p m (lines held) in
      let o = outcome_of f last in
      let texts : whole.text ≡ so_far.text ++ o.text = ap (λ (r : Ran M). (outcome_of f r).text) is
      ∙ append_assoc so_far.text last.text (f.end last.form last.ending).text in
      let same : whole.status ≡ o.status = ap (λ (r : Ran M). (outcome_of f r).status) is in
      record {
        ends = ends_after o whole a b d so_far.text status texts same so_far.gained ends;
        lines = record {
          exact_after_read_fault = λ e. absurd (subst IsSettled e settled);
          read_to_end = λ end done. none;
          bounded = λ end off.
              let here : IsTakenNear last.read input rest =
              near last.read (read_grows f env p m (lines held)) few in
              subst (λ (k : ℕ). IsTakenNear k input rest) (sym (ap (λ (r : Ran M). r.read) is)) here;
        };
      }

-- ---- the same where the input may not be known

module _ {M : Type 0} (f : FormOf M) (env : RunEnvironment) (begun : M) (a : Option (List ℕ)) where
  pub known_begun : (p : Passed) (held : List ℕ) (before : Option (List ℕ)) → held ≡ [] → p ≡ nothing_passed
      → Known before before (Carried f env begun held p begun a a)
  known_begun p held None none begins = tt
  known_begun p held (Some input) none begins = nothing_carried f env begun p held a input none begins

  pub known_read : (held held' : List ℕ) (p : Passed) (m : M) (b before now now' : Option (List ℕ))
      → Keeps (prepend_known held now) (prepend_known held' now')
      → Known before now (Carried f env begun held p m a b) → Known before now' (Carried f env begun held' p m a b)
  known_read held held' p m b None now now' k h = tt
  known_read held held' p m b (Some input) None now' k h = absurd h
  known_read held held' p m b (Some input) (Some rest) None k h = absurd k
  known_read held held' p m b (Some input) (Some rest) (Some rest') k h =
      carried_read f env begun held p m a b input rest h held' rest' k

  module _ (held : List ℕ) (p : Passed) (m : M) (b d before now : Option (List ℕ)) where
    pub known_line : (count : ℕ) (q : Passed) (n : M) → HasLine count held
        → Passes f env p m (take count held) q n b d → Known before now (Carried f env begun held p m a b)
        → Known before now (Carried f env begun (drop count held) q n a d)
    known_line count q n h passes = known_map (Carried f env begun held p m a b)
        (Carried f env begun (drop count held) q n a d)
        (λ input rest so_far. carried_line f env begun held p m a b input rest so_far q n d count passes h) before now

    pub known_failed : (count : ℕ) (status : LabStatus) → HasLine count held
        → Fails f env p m (take count held) b d status → Known before now (Carried f env begun held p m a b)
        → Known before now (RunEnds f env begun a d status)
    known_failed count status h fails = known_map (Carried f env begun held p m a b)
        (RunEnds f env begun a d status)
        (λ input rest so_far. run_failed f env begun held p m a b input rest so_far d count status h fails) before now

    pub known_finished : (status : LabStatus) → IsAtEnd now → length held ≤ 65536 → IsSettled status
        → Ends (outcome_of f (ran_from f env p m (lines held))) b d status
        → Known before now (Carried f env begun held p m a b) → Known before now (RunEnds f env begun a d status)
    known_finished status ended few settled ends h = by_input before now ended h where
      by_input : (before now : Option (List ℕ)) → IsAtEnd now → Known before now (Carried f env begun held p m a b)
          → Known before now (RunEnds f env begun a d status)
      by_input None now ended h = tt
      by_input (Some input) None ended h = absurd h
      by_input (Some input) (Some rest) ended h =
          run_finished f env begun held p m a b input rest h d status ended few settled ends

  pub known_unread : (held : List ℕ) (p : Passed) (m : M) (b before now : Option (List ℕ)) → LineIsBegun held
      → Known before now (Carried f env begun held p m a b) → Known before now (RunEnds f env begun a b ReadFault)
  known_unread held p m b before now line = known_map (Carried f env begun held p m a b)
      (RunEnds f env begun a b ReadFault)
      (λ input rest so_far. run_unread f env begun held p m a b input rest so_far line) before now

  pub known_halted : (held : List ℕ) (p : Passed) (m : M) (b d e before now now' : Option (List ℕ)) (count : ℕ)
      (status : LabStatus) (ending : Ending) (totals : Totals) (n : M) → HasLine count held → length held ≤ 65536
      → Halts f env p m (take count held) ending totals n b d
      → Known now now' (EndsAfter f ending totals.lines totals.octets n (take count held) (drop count held) d e status)
      → Known before now (Carried f env begun held p m a b) → Known before now' (RunEnds f env begun a e status)
  known_halted held p m b d e None now now' count status ending totals n h few halts after so_far = tt
  known_halted held p m b d e (Some input) None now' count status ending totals n h few halts after so_far =
      absurd so_far
  known_halted held p m b d e (Some input) (Some rest) None count status ending totals n h few halts after so_far =
      absurd after
  known_halted held p m b d e (Some input) (Some rest) (Some rest') count status ending totals n h few halts after
      so_far =
      run_halted f env begun held p m a b input rest so_far d e count status ending totals n rest' h few halts after
