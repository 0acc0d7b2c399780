use Rattle.std.proofs.Common.{arith}
use Rattle.ndn_packet.proofs.Outers.{first_alone}
use Rattle.ndn_packet.proofs.outer.outer_element.Goals as goal

pub returns-clause-whole : goal.returns-clause-whole
returns-clause-whole c =
    (first_alone _ c.args.typ c.args.octets.now _ (λ i. omega (arith, c.type_inv.octets i)) c.in_ok-outer.ensures.read
    (omega arith) (omega arith)).whole

pub returns-clause-placed : goal.returns-clause-placed
returns-clause-placed c =
    (first_alone _ c.args.typ c.args.octets.now _ (λ i. omega (arith, c.type_inv.octets i)) c.in_ok-outer.ensures.read
    (omega arith) (omega arith)).is_placed
