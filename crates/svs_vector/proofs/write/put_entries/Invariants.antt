use Rattle.std.proofs.Common.{◌≡◌, ◌++◌, map}
use Rattle.std.specs.List.{flat_map}
use Rattle.svs_vector.specs.WrittenVector.{lent_entries, written_entry}
use Rattle.svs_vector.proofs.write.put_entries.Given as goal

abbrev pub invariant-loop-name : goal.invariant-loop-name
invariant-loop-name l = record {
  can_next : (goal.iterator-loop-name).can_next l.name-iterator;
  is_finite : (goal.iterator-loop-name).is_finite l.name-iterator;
  so_far : l.writer ++ flat_map written_entry (map (λ entry. (entry.0.now, entry.1)) l.name-iterator)
      ≡ l.fn.writer ++ flat_map written_entry (lent_entries l.entries);
}
