use Rattle.std.proofs.Common.{ℕ}
use Rattle.std.proofs.lemmas.Result.{err_from_is_err_and}
use Rattle.ndn_name.specs.declared.uri_form.PartValue.{PartValue}
use Rattle.ndn_name.specs.Names.{Component}
use Rattle.ndn_name.specs.UriReading.{value_octets}
use Rattle.ndn_name.proofs.ComponentTexts.{plain-fails, reads-headed}
use Rattle.ndn_name.proofs.uri_component.read_component.Goals as goal

pub returns-in_err-value-in-None : goal.returns-in_err-value-in-None
returns-in_err-value-in-None c =
    let p = err_from_is_err_and c.from_residual.result c.from_residual.ensures.1 in
    rw (p.1, p.2)
    (plain-fails c.args.at c.args.text.now c.in_err-value-in-None.field-0.0 c.in-None.ensures.none
    c.in_err-value-in-None.ensures)

pub returns-in-Some : goal.returns-in-Some
returns-in-Some c =
    let view : ℕ × PartValue → Component = λ x. (x.0, value_octets x.1) in
    reads-headed view c.in-Some.form c.args.at c.in-Some.head.now c.in-Some.tail.now c.args.text.now c.read_tail.result
    c.in-Some.ensures.some.0 c.in-Some.ensures.some.1 c.read_tail.ensures
