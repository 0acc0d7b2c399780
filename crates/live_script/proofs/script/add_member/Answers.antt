use Rattle.std.proofs.Common.{◌∙◌, Err, sym, ap, arith}
use Rattle.std.proofs.lemmas.Bool.{false≢true}
use Rattle.live_script.proofs.Taking.{memory_alone}
use Rattle.live_script.proofs.script.add_member.Goals as goal

pub returns-in_err-add_member-clause-err : goal.returns-in_err-add_member-clause-err
returns-in_err-add_member-clause-err c =
    memory_alone c.from_residual.result c.in_err-add_member.field-0.0
    (λ e. false≢true (sym c.requires.apart ∙ c.in_err-add_member.ensures.duplicate.0 (ap Err e)))
    (λ e.
    let many = (c.in_err-add_member.ensures.full.0 (ap Err e)).1 in
    omega (arith, many, c.requires.few))
    c.from_residual.ensures.1
