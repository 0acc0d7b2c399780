use Rattle.std.proofs.Common.{◌≡◌, ◌<◌, length}
use Rattle.std.specs.Prelude.{slice_get}
use Rattle.ndn_name.specs.Names.{IsName, components}
use Rattle.ndn_name.proofs.Encodings.{pairs}
use Rattle.ndn_name.proofs.components.component_at.Given as goal

abbrev pub invariant-loop-element : goal.invariant-loop-element
invariant-loop-element l = record {
  name : IsName (pairs l.elements.items);
  in_range : l.left < length (pairs l.elements.items);
  same : slice_get (pairs l.elements.items) l.left ≡ slice_get (components l.octets) l.i;
}

abbrev pub decreases-loop-element : goal.decreases-loop-element
decreases-loop-element l = length l.elements.items
