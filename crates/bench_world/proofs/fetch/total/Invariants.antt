use Rattle.std.proofs.Common.{◌≡◌, ◌≤◌, ◌*◌, take}
use Rattle.std.specs.Prelude.{sum}
use Rattle.bench_world.proofs.fetch.total.Given as goal

abbrev pub invariant-loop-n : goal.invariant-loop-n
invariant-loop-n l = record {
  sum : l.total ≡ sum (take l.n-index l.numbers);
  small : l.total ≤ l.n-index * 4294967296;
}
