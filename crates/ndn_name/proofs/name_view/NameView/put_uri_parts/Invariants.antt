use Rattle.std.proofs.Common.{◌≡◌, ◌++◌, length, take, None}
use Rattle.ndn_name.specs.Names.{IsName}
use Rattle.ndn_name.specs.Uri.{path_text}
use Rattle.ndn_name.proofs.Encodings.{pairs}
use Rattle.ndn_name.proofs.name_view.NameView.put_uri_parts.Given as goal

abbrev pub invariant-loop-element : goal.invariant-loop-element
invariant-loop-element l = record {
  prefix : take (length l.fn.out.items) l.out.items ≡ l.fn.out.items;
  so_far : l.out.items ++ path_text (pairs l.elements.items) ≡ l.fn.out.items ++ path_text l.self;
  name : IsName (pairs l.elements.items);
  fault : l.elements.fault ≡ None;
}

abbrev pub decreases-loop-element : goal.decreases-loop-element
decreases-loop-element l = length l.elements.items
