use Rattle.std.proofs.Common.{ℕ, List, ◌++◌, drop, ap, sym, ◌∙◌}
use Rattle.std.proofs.lemmas.List.{take-append-drop}
use Rattle.lab_capture.proofs.reading.take_number.Goals as goal

pub returns-clause-spelled : goal.returns-clause-spelled
returns-clause-spelled c =
    sym (take-append-drop 4 c.args.octets.now)
    ∙ ap (λ (xs : List ℕ). xs ++ drop 4 c.args.octets.now) (sym c.in_ok-number.ensures.cases.0)
    ∙ ap (λ (xs : List ℕ). c.in_ok-number.number.now ++ xs) (sym c.in_ok-number.ensures.cases.1)
    ∙ ap (λ (xs : List ℕ). xs ++ c.in_ok-number.rest.now) c.number_of.ensures.spelled
