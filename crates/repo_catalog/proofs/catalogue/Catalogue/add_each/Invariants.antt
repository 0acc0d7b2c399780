use Rattle.std.proofs.Common.{◌≡◌, ◌+◌, ◌≤◌, length, reverse, vec_len, vec_capacity}
use Rattle.repo_catalog.specs.Entries.{with_entries}
use Rattle.repo_catalog.proofs.catalogue.Catalogue.add_each.Given as goal

abbrev pub invariant-loop-entry : goal.invariant-loop-entry
invariant-loop-entry l = record {
  entries : with_entries (reverse l.fresh.items) l.self.entries
      ≡ with_entries (reverse l.initial.fresh.items) l.initial.self.entries;
  spare : l.self.spare + length l.initial.fresh.items ≡ l.initial.self.spare + length l.fresh.items;
  room : length l.fresh.items ≤ l.self.spare;
  capacity : vec_capacity l.initial.fresh ≤ vec_capacity l.fresh;
}

abbrev pub decreases-loop-entry : goal.decreases-loop-entry
decreases-loop-entry l = vec_len l.fresh
