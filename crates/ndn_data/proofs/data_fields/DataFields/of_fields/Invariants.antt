use Rattle.std.proofs.Common.{◌≡◌, ℕ, ◌+◌, length, map}
use Rattle.ndn_tlv.specs.Elements.{AreWithin, item}
use Rattle.ndn_tlv.specs.Listing.{gathered}
use Rattle.ndn_name.specs.Faults.{packet_fault}
use Rattle.ndn_data.specs.Data.{with_data_field, data_fields, data_so_far, NameStartsBy}
use Rattle.ndn_data.proofs.data_fields.DataFields.of_fields.Given as goal

abbrev pub invariant-loop-next : goal.invariant-loop-next
invariant-loop-next l = record {
  so_far : gathered (with_data_field l.octets) packet_fault (data_so_far l.gathered) l.fields
      ≡ data_fields l.octets (item l.outer);
  low : ℕ;
  starts : NameStartsBy low l.gathered;
  within : AreWithin low (l.outer.value_start + length l.outer.value.now) (map (λ f. f.1) l.fields.items);
}

abbrev pub decreases-loop-next : goal.decreases-loop-next
decreases-loop-next l = length l.fields.items
