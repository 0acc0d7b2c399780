use Rattle.std.proofs.Common.{◌≡◌, ◌≤◌, length, take}
use Rattle.svs_vector.specs.WrittenVector.{in_canonical_order, known_entries, lent_entries}
use Rattle.svs_vector.proofs.vector.Vector.known_entries.Given as goal

abbrev pub invariant-loop-member : goal.invariant-loop-member
invariant-loop-member l = record {
  known : lent_entries l.entries ≡ in_canonical_order (known_entries (take l.member l.roster) (take l.member l.self));
  few : length l.entries.entries ≤ l.member;
}
