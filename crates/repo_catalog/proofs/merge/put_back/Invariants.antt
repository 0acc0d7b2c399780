use Rattle.std.proofs.Common.{◌≡◌, ◌+◌, ◌≤◌, ◌++◌, reverse, vec_len, vec_capacity}
use Rattle.repo_catalog.proofs.merge.put_back.Given as goal

abbrev pub invariant-loop-entry : goal.invariant-loop-entry
invariant-loop-entry l = record {
  all : l.entries.items ++ reverse l.aside.items ≡ l.initial.entries.items ++ reverse l.initial.aside.items;
  room : vec_len l.entries + vec_len l.aside ≤ vec_capacity l.entries;
  kept : vec_capacity l.initial.entries ≤ vec_capacity l.entries;
  kept_aside : vec_capacity l.initial.aside ≤ vec_capacity l.aside;
}

abbrev pub decreases-loop-entry : goal.decreases-loop-entry
decreases-loop-entry l = vec_len l.aside
