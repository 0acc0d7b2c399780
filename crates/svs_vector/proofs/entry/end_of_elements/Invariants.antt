use Rattle.std.proofs.Common.{◌≡◌, length}
use Rattle.ndn_tlv.specs.Elements.{elements}
use Rattle.svs_vector.specs.StateVector.{end_of}
use Rattle.svs_vector.proofs.entry.end_of_elements.Given as goal

abbrev pub invariant-loop-next : goal.invariant-loop-next
invariant-loop-next l =
    end_of l.end l.elements.items
    ≡ end_of l.element.value_start (elements l.element.value_start l.element.value.now).items

abbrev pub decreases-loop-next : goal.decreases-loop-next
decreases-loop-next l = length l.elements.items
