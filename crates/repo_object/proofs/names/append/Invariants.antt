use Rattle.std.proofs.Common.{◌≡◌, ◌++◌, None, length}
use Rattle.ndn_name.specs.Names.{IsName}
use Rattle.ndn_name.proofs.Encodings.{pairs}
use Rattle.repo_object.proofs.names.append.Given as goal

abbrev pub invariant-loop-component : goal.invariant-loop-component
invariant-loop-component l = record {
  whole : l.name ++ pairs l.components.items ≡ l.initial.name ++ l.more;
  valid : IsName (pairs l.components.items);
  no_fault : l.components.fault ≡ None;
}

abbrev pub decreases-loop-component : goal.decreases-loop-component
decreases-loop-component l = length l.components.items
