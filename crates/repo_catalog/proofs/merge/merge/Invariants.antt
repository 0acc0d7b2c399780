use Rattle.std.proofs.Common.{◌≡◌, ◌+◌, ◌≤◌, ◌++◌, reverse, vec_len, vec_capacity}
use Rattle.std.specs.Option.{option_or}
use Rattle.repo_plan.specs.Parts.{Pair}
use Rattle.repo_catalog.specs.Entries.{entry_of, with_entries, IsCatalogue}
use Rattle.repo_catalog.specs.NameKeys.{IsIndexOf}
use Rattle.repo_catalog.specs.EntryTotals.{totals_of}
use Rattle.repo_catalog.proofs.merge.merge.Given as goal

abbrev pub invariant-loop-entry : goal.invariant-loop-entry
invariant-loop-entry l =
    let now = l.entries.items ++ reverse l.aside.items in record {
      in_order : IsCatalogue now;
      ahead : IsCatalogue (l.fresh.items ++ reverse l.aside.items);
      all : (k : Pair) → option_or (entry_of k now) (entry_of k l.fresh.items)
          ≡ entry_of k (with_entries l.initial.fresh.items l.initial.entries.items);
      indexed : IsIndexOf now l.names.keys l.names.waiting;
      summed : l.entry_totals ≡ totals_of now;
      len : vec_len l.entries + vec_len l.aside + vec_len l.fresh
          ≤ vec_len l.initial.entries + vec_len l.initial.fresh;
      room : vec_capacity l.initial.entries ≤ vec_capacity l.entries;
      room_aside : vec_capacity l.initial.aside ≤ vec_capacity l.aside;
      room_fresh : vec_capacity l.initial.fresh ≤ vec_capacity l.fresh;
      names : l.initial.names.spare + vec_len l.fresh ≤ l.names.spare + vec_len l.initial.fresh;
    }

abbrev pub decreases-loop-entry : goal.decreases-loop-entry
decreases-loop-entry l = vec_len l.fresh
