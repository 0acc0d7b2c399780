use Rattle.std.proofs.Common.{◌+◌, length, subst, arith}
use Rattle.ndn_tlv.specs.Listing.{Listing}
use Rattle.ndn_tlv.specs.Elements.{AreWithin, Item}
use Rattle.ndn_tlv.specs.declared.tlv_fault.TlvFault.{TlvFault}
use Rattle.ndn_tlv.proofs.Fields.{AreWithin-ends}
use Rattle.ndn_packet.proofs.contents.first_element.Goals as goal

pub returns-clause-within : goal.returns-clause-within
returns-clause-within c =
    let seen = rw c.in-Some.is at c.in_ok-first.ensures.ok in
    let P : Listing Item TlvFault → Type 0 =
    λ read. AreWithin c.args.base (c.args.base + length c.args.octets.now) read.items in
    let within = subst P seen c.new.ensures.within in
    omega (arith, within.2, AreWithin-ends _ _ _ within.3)
