use Rattle.std.proofs.Common.{ℕ, length, sym, ap, subst, ◌∙◌, arith}
use Rattle.ndn_name.specs.Names.{IsName, IsValue, components}
use Rattle.ndn_name.proofs.Encodings.{components-encoding, IsValue-encoding}
use Rattle.ndn_name.proofs.name.Name.from_short.Goals as goal

pub invariant_of-result : goal.invariant_of-result
invariant_of-result c =
    let spelled = c.in_ok-from_slice.ensures.items ∙ c.octets-octets.ensures.spelled in
    let P : ℕ → Type 0 = λ n. IsValue c.in_ok-from_slice.field-0.items n in (
      subst P (sym c.len.ensures)
          (IsValue-encoding c.in_ok-from_slice.field-0.items c.args.view.now c.octets-octets.ensures.name spelled),
      omega (arith, ap length spelled, c.requires),
    )

pub returns-clause-same : goal.returns-clause-same
returns-clause-same c =
    ap components (c.in_ok-from_slice.ensures.items ∙ c.octets-octets.ensures.spelled)
    ∙ components-encoding c.args.view.now c.octets-octets.ensures.name

pub returns-clause-valid : goal.returns-clause-valid
returns-clause-valid c =
    let same =
    ap components (c.in_ok-from_slice.ensures.items ∙ c.octets-octets.ensures.spelled)
    ∙ components-encoding c.args.view.now c.octets-octets.ensures.name in
    subst IsName (sym same) c.octets-octets.ensures.name
