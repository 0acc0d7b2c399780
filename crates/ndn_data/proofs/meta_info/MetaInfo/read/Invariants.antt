use Rattle.std.proofs.Common.{◌≡◌, ℕ, ◌+◌, length, map}
use Rattle.ndn_tlv.specs.Elements.{AreWithin, item}
use Rattle.ndn_tlv.specs.Listing.{gathered}
use Rattle.ndn_name.specs.Faults.{packet_fault}
use Rattle.ndn_data.specs.MetaInfo.{with_meta_field, meta_in, meta}
use Rattle.ndn_data.proofs.meta_info.MetaInfo.read.Given as goal

abbrev pub invariant-loop-next : goal.invariant-loop-next
invariant-loop-next l = record {
  so_far : gathered with_meta_field packet_fault (meta l.gathered) l.fields ≡ meta_in (item l.element);
  low : ℕ;
  within : AreWithin low (l.element.value_start + length l.element.value.now) (map (λ f. f.1) l.fields.items);
}

abbrev pub decreases-loop-next : goal.decreases-loop-next
decreases-loop-next l = length l.fields.items
