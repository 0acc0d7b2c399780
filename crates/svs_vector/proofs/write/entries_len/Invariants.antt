use Rattle.std.proofs.Common.{◌≡◌, ◌+◌, ◌*◌, ◌≤◌, length, map}
use Rattle.std.specs.List.{flat_map}
use Rattle.svs_vector.specs.WrittenVector.{lent_entries, written_entry}
use Rattle.svs_vector.proofs.write.entries_len.Given as goal

abbrev pub invariant-loop-name : goal.invariant-loop-name
invariant-loop-name l = record {
  can_next : (goal.iterator-loop-name).can_next l.name-iterator;
  is_finite : (goal.iterator-loop-name).is_finite l.name-iterator;
  so_far : l.len + length (flat_map written_entry (map (λ entry. (entry.0.now, entry.1)) l.name-iterator))
      ≡ length (flat_map written_entry (lent_entries l.entries));
  small : l.len + 1100 * length l.name-iterator ≤ 1100 * length l.entries.entries;
}
