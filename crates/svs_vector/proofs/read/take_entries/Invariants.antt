use Rattle.std.proofs.Common.{◌≡◌, ℕ, ◌+◌, length, map}
use Rattle.ndn_tlv.specs.Elements.{AreWithin, item}
use Rattle.ndn_tlv.specs.Listing.{gathered}
use Rattle.svs_vector.specs.StateVector.{fault_in, with_vector_entry, vector_in}
use Rattle.svs_vector.proofs.read.take_entries.Given as goal

abbrev pub invariant-loop-next : goal.invariant-loop-next
invariant-loop-next l = record {
  so_far : gathered (with_vector_entry l.roster) (fault_in (item l.element)) l.numbers l.fields
      ≡ vector_in l.roster (item l.element);
  low : ℕ;
  within : AreWithin low (l.element.value_start + length l.element.value.now) (map (λ f. f.1) l.fields.items);
  width : length l.numbers ≡ length l.roster;
}

abbrev pub decreases-loop-next : goal.decreases-loop-next
decreases-loop-next l = length l.fields.items
