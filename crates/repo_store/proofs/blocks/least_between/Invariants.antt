use Rattle.std.proofs.Common.{◌≤◌, true}
use Rattle.repo_store.specs.Indexes.{IsFirstOf}
use Rattle.repo_store.specs.Blocks.{piece}
use Rattle.repo_store.proofs.blocks.least_between.Given as goal

abbrev pub invariant-loop-block : goal.invariant-loop-block
invariant-loop-block l = record {
  low : l.fn.start ≤ l.from;
  high : l.from ≤ l.end;
  least : IsFirstOf (piece l.fn.start l.from l.held) (λ h. true) l.least;
}
