use Rattle.std.proofs.Common.{◌≡◌, ℕ, ◌≤◌, ◌<◌, length}
use Rattle.std.specs.Prelude.{slice_index}
use Rattle.bench_world.proofs.numbers.vector_of.Given as goal

abbrev pub invariant-loop-member : goal.invariant-loop-member
invariant-loop-member l = record {
  width : length l.vector ≡ length l.numbers;
  copied : (k : ℕ) → k < l.member → slice_index l.vector k ≡ slice_index l.numbers k;
  none : (k : ℕ) → l.member ≤ k → k < length l.numbers → slice_index l.vector k ≡ 0;
}
