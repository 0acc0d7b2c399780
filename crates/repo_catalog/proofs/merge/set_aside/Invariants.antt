use Rattle.std.proofs.Common.{◌≡◌, ◌+◌, ◌≤◌, ◌++◌, reverse, take, vec_len, vec_capacity}
use Rattle.repo_catalog.proofs.merge.set_aside.Given as goal

abbrev pub invariant-loop-entries : goal.invariant-loop-entries
invariant-loop-entries l = record {
  all : l.entries.items ++ reverse l.aside.items ≡ l.initial.entries.items ++ reverse l.initial.aside.items;
  len : vec_len l.entries + vec_len l.aside ≡ vec_len l.initial.entries + vec_len l.initial.aside;
  from : l.place ≤ vec_len l.entries;
  kept : l.entries.items ≡ take (vec_len l.entries) l.initial.entries.items;
  room : vec_len l.entries + vec_len l.aside ≤ vec_capacity l.aside + l.place;
  capacity : vec_capacity l.initial.entries ≤ vec_capacity l.entries;
  capacity_aside : vec_capacity l.initial.aside ≤ vec_capacity l.aside;
}

abbrev pub decreases-loop-entries : goal.decreases-loop-entries
decreases-loop-entries l = vec_len l.entries
