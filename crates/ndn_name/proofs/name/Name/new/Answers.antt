use Rattle.std.proofs.Common.{[], ap, ◌∙◌, sym, length, arith}
use Rattle.ndn_name.specs.Names.{components}
use Rattle.ndn_name.proofs.Encodings.{encoding-nil, components-encoding, IsValue-encoding}
use Rattle.ndn_name.proofs.name.Name.new.Goals as goal

pub invariant_of-result : goal.invariant_of-result
invariant_of-result c = (
  IsValue-encoding c.new.result.items [] tt (c.new.ensures.items ∙ sym encoding-nil),
  omega (arith, ap length c.new.ensures.items),
)

pub returns : goal.returns
returns c = ap components (c.new.ensures.items ∙ sym encoding-nil) ∙ components-encoding [] tt
