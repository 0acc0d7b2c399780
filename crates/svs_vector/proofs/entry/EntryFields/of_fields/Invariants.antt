use Rattle.std.proofs.Common.{◌≡◌, ℕ, ◌+◌, length, map}
use Rattle.ndn_tlv.specs.Elements.{AreWithin, item}
use Rattle.ndn_tlv.specs.Listing.{gathered}
use Rattle.svs_vector.specs.StateVector.{fault_in, with_entry_field, entry_fields, entry_so_far}
use Rattle.svs_vector.proofs.entry.EntryFields.of_fields.Given as goal

abbrev pub invariant-loop-next : goal.invariant-loop-next
invariant-loop-next l = record {
  so_far : gathered with_entry_field (fault_in (item l.element)) (entry_so_far l.gathered) l.fields
      ≡ entry_fields (item l.element);
  low : ℕ;
  within : AreWithin low (l.element.value_start + length l.element.value.now) (map (λ f. f.1) l.fields.items);
}

abbrev pub decreases-loop-next : goal.decreases-loop-next
decreases-loop-next l = length l.fields.items
