use Rattle.std.proofs.Common.{sym, ◌∙◌, arith}
use Rattle.ndn_name.proofs.Decimals.{decimal-same}
use Rattle.ndn_name.proofs.Heads.{no_head}
use Rattle.ndn_name.proofs.uri_component.form_of.Goals as goal

pub returns-then-typ-eq0-clause-none : goal.returns-then-typ-eq0-clause-none
returns-then-typ-eq0-clause-none c =
    no_head c.args.head.now (sym c.keyword.ensures ∙ c.in_default.is) (λ typ some h.
    let same = decimal-same 65535 typ c.in-Ok.typ c.args.head.now (omega arith) h c.in-Ok.ensures.read in
    absurd (omega (arith, same, c.if-typ-eq0.true)))
