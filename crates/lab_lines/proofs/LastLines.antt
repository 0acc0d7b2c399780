-- The last line of an input, or none.
use Rattle.std.proofs.Common.{◌≡◌, ◌≢◌, ℕ, List, [], ◌∷◌, ◌++◌, Option, sym, ap, subst, ◌∙◌}
use Rattle.std.proofs.lemmas.List.{append-nil}
use Rattle.repo_io.specs.Lines.{lines}
use Rattle.repo_io.specs.Outside.{GainsText}
use Rattle.repo_io.proofs.LineLaws.{open_line}
use Rattle.repo_io.proofs.Outputs.{prefix_longer}
use Rattle.script_story.specs.declared.ending.Ending.{Ending}
use Rattle.script_story.specs.declared.ending.Ending.TheVariants as an_ending
use Rattle.script_story.specs.Evaluation.{RunEnvironment}
use Rattle.script_lines.specs.Reading.{LineIsBegun}
use Rattle.lab_text.specs.declared.status.LabStatus.{LabStatus}
use Rattle.lab_lines.specs.declared.totals.Totals.{Totals}
use Rattle.lab_lines.specs.Carrying.{Ends, Fails, Halts, Passes, ran}
use Rattle.lab_lines.specs.Folding.{FormOf, Passed, Ran, outcome_of, ran_from, with_text}
use Rattle.lab_lines.proofs.Ends.{ends_after, ends_short}
use Rattle.lab_lines.proofs.Folds.{no_lines}
use Rattle.lab_lines.proofs.Runs.{nothing_after}

module _ {M : Type 0} (f : FormOf M) (env : RunEnvironment) (p : Passed) (m : M) (line : List ℕ) where
  pub last_none : line ≡ [] → (a b : Option (List ℕ)) (status : LabStatus) → Ends (f.end m an_ending.Done) a b status
      → Ends (outcome_of f (ran_from f env p m (lines line))) a b status
  unfolding lines
  last_none none a b status ends =
      let P : List ℕ → Type 0 = λ x. Ends (outcome_of f (ran_from f env p m (lines x))) a b status in
      let Q : Ran M → Type 0 = λ r. Ends (outcome_of f r) a b status in
      subst P (sym none) (subst Q (sym (no_lines f env p m))
      (record { same = ends.same; text = ends.text; prefix = ends.prefix }))

  module _ (some : line ≢ []) (begun : LineIsBegun line) (a b d : Option (List ℕ)) (status : LabStatus) where
    one_line : lines line ≡ line ∷ []
    one_line = open_line line some begun.free

    last_is : (r : Ran M) → ran_from f env p m (line ∷ []) ≡ r → ran_from f env p m (lines line) ≡ r
    last_is r e = ap (ran_from f env p m) one_line ∙ e

    ended_so : (text : List ℕ) (n : M) (ending : Ending) (read : ℕ)
        → ran_from f env p m (lines line) ≡ ran text n ending read → Ends (f.end n ending) b d status
        → GainsText a b text → Ends (outcome_of f (ran_from f env p m (lines line))) a d status
    ended_so text n ending read is ends gained =
        let whole = outcome_of f (ran_from f env p m (lines line)) in
        ends_after (f.end n ending) whole a b d text status (ap (λ (r : Ran M). (outcome_of f r).text) is)
        (ap (λ (r : Ran M). (outcome_of f r).status) is) gained ends

    pub last_passed : (q : Passed) (n : M) → Passes f env p m line q n a b → Ends (f.end n an_ending.Done) b d status
        → Ends (outcome_of f (ran_from f env p m (lines line))) a d status
    last_passed q n passes ends =
        let is = last_is (ran (passes.text ++ []) n an_ending.Done q.lines)
        (passes.goes [] ∙ ap (with_text passes.text) (no_lines f env q n)) in
        ended_so (passes.text ++ []) n an_ending.Done q.lines is ends
        (subst (GainsText a b) (sym (append-nil passes.text)) passes.gained)

    pub last_halted : (ending : Ending) (totals : Totals) (n : M) → Halts f env p m line ending totals n a b
        → Ends (f.end n ending) b d status → Ends (outcome_of f (ran_from f env p m (lines line))) a d status
    last_halted ending totals n halts ends =
        let kept : M → Ran M = λ x. ran halts.text x ending totals.lines in
        let is = last_is (kept n) (halts.goes [] ∙ ap kept (nothing_after f env p m totals.lines totals.octets n)) in
        ended_so halts.text n ending totals.lines is ends halts.gained

  pub last_failed : line ≢ [] → LineIsBegun line → (a b : Option (List ℕ)) (status : LabStatus)
      → Fails f env p m line a b status → Ends (outcome_of f (ran_from f env p m (lines line))) a b status
  last_failed some begun a b status fails =
      let one : lines line ≡ line ∷ [] = open_line line some begun.free in
      let r = ran_from f env p m (line ∷ []) in
      let Q : List (List ℕ) → Type 0 = λ ls. Ends (outcome_of f (ran_from f env p m ls)) a b status in
      subst Q (sym one) (ends_short (outcome_of f r) a b status fails.failing
      (prefix_longer a b r.text (f.end r.form r.ending).text (fails.prefix [])))
