use Rattle.std.proofs.Common.{List, ℕ, ◌++◌, sym, ap, ◌∙◌}
use Rattle.std.proofs.lemmas.List.{append-nil}
use Rattle.lab_text.proofs.LineCuts.{nothing_marked}
use Rattle.lab_text.proofs.writing.write_marked.Goals as goal

pub returns-clause-ok : goal.returns-clause-ok
returns-clause-ok c =
    sym (append-nil c.loop-line.out.items)
    ∙ ap (λ (t : List ℕ). c.loop-line.out.items ++ t)
    (sym (nothing_marked c.args.mark.now c.loop-line.rest.now c.in_default.ensures.lines))
    ∙ c.loop-line.invariant.written
