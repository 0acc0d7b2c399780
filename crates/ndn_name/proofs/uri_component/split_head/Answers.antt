use Rattle.std.proofs.Common.{ℕ, List, sym, subst}
use Rattle.ndn_name.specs.UriReading.{LacksOctet}
use Rattle.ndn_name.proofs.Heads.{lacks_head, other_head}
use Rattle.ndn_name.proofs.uri_component.split_head.Goals as goal

pub returns-in_err-tail-clause-none : goal.returns-in_err-tail-clause-none
returns-in_err-tail-clause-none c =
    let none = c.in_err-tail.was in
    let s = rw none at c.split_once.ensures in
    let P : List ℕ → Type 0 = λ t. LacksOctet 61 t in
    rw c.from_residual.ensures (lacks_head c.args.text.now (subst P (sym s.0) s.1))

pub returns-in_err-form-clause-none : goal.returns-in_err-form-clause-none
returns-in_err-form-clause-none c =
    let some = c.in_ok-tail.was in
    let s = rw some at c.split_once.ensures in
    rw c.from_residual-in_err-form.ensures
    (other_head c.args.text.now c.split_once.result.0.now c.in_ok-tail.tail.now s.0 s.1 c.in_err-form.ensures.none)
