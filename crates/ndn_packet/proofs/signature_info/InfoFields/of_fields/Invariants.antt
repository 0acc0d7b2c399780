use Rattle.std.proofs.Common.{◌≡◌, ℕ, ◌+◌, length, map}
use Rattle.ndn_tlv.specs.Elements.{AreWithin, item}
use Rattle.ndn_tlv.specs.Listing.{gathered}
use Rattle.ndn_name.specs.Faults.{packet_fault}
use Rattle.ndn_packet.specs.SignatureInfo.{with_info_field, info_fields, info_so_far}
use Rattle.ndn_packet.proofs.signature_info.InfoFields.of_fields.Given as goal

abbrev pub invariant-loop-next : goal.invariant-loop-next
invariant-loop-next l = record {
  so_far : gathered with_info_field packet_fault (info_so_far l.gathered) l.fields ≡ info_fields (item l.element);
  low : ℕ;
  within : AreWithin low (l.element.value_start + length l.element.value.now) (map (λ f. f.1) l.fields.items);
}

abbrev pub decreases-loop-next : goal.decreases-loop-next
decreases-loop-next l = length l.fields.items
