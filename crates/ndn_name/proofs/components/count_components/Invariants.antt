use Rattle.std.proofs.Common.{◌≡◌, ◌+◌, ◌≤◌, ℕ, List, length}
use Rattle.ndn_tlv.specs.Listing.{gathered}
use Rattle.ndn_tlv.specs.Elements.{AreWithin}
use Rattle.ndn_name.specs.declared.name_fault.NameFault.TheVariants.{Tlv}
use Rattle.ndn_name.specs.Names.{Component, with_component, name_of}
use Rattle.ndn_name.proofs.components.count_components.Given as goal

abbrev pub invariant-loop-element : goal.invariant-loop-element
invariant-loop-element l = record {
  prefix : List Component;
  counted : l.len ≡ length prefix;
  so_far : gathered with_component Tlv prefix l.elements ≡ name_of l.base l.value;
  low : ℕ;
  passed : l.base + l.len ≤ low;
  within : AreWithin low (l.base + length l.value) l.elements.items;
}

abbrev pub decreases-loop-element : goal.decreases-loop-element
decreases-loop-element l = length l.elements.items
