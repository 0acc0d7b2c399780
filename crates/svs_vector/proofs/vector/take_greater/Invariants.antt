use Rattle.std.proofs.Common.{◌≡◌, ◌++◌, take, drop, not, ◌||◌}
use Rattle.svs_vector.specs.Vectors.{join, covers}
use Rattle.svs_vector.proofs.vector.take_greater.Given as goal

abbrev pub invariant-loop-i : goal.invariant-loop-i
invariant-loop-i l = record {
  joined : take l.i l.numbers ++ join (drop l.i l.numbers) (drop l.i l.others) ≡ join l.fn.numbers l.others;
  changed : (l.changed || not (covers (drop l.i l.numbers) (drop l.i l.others))) ≡ not (covers l.fn.numbers l.others);
}
