use Rattle.std.proofs.Common.{◌≡◌, drop}
use Rattle.svs_vector.specs.Vectors.{covers}
use Rattle.svs_vector.proofs.vector.has_none_greater.Given as goal

abbrev pub invariant-loop-i : goal.invariant-loop-i
invariant-loop-i l = covers (drop l.i l.numbers) (drop l.i l.others) ≡ covers l.numbers l.others
