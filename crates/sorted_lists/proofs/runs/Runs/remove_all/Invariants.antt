use Rattle.std.proofs.Common.{◌≡◌, ◌≤◌, false, length}
use Rattle.std.specs.Ordering.{eq_by_cmp}
use Rattle.sorted_lists.specs.Runs.{Number, IsRuns, has, number_cmp}
use Rattle.sorted_lists.proofs.runs.Runs.remove_all.Given as goal

abbrev pub invariant-loop-first : goal.invariant-loop-first
invariant-loop-first g l = record {
  set : IsRuns g.P.Ord.cmp l.self-inside.map.entries;
  kept : (q : Number g.row.P.Denot) → eq_by_cmp g.P.Ord.cmp l.thing q.0 ≡ false
      → has (number_cmp g.P.Ord.cmp) l.self-inside.map.entries q
      ≡ has (number_cmp g.P.Ord.cmp) l.initial.self-inside.map.entries q;
  spare : l.initial.self-inside.map.spare ≤ l.self-inside.map.spare;
}

abbrev pub decreases-loop-first : goal.decreases-loop-first
decreases-loop-first g l = length l.self-inside.map.entries
