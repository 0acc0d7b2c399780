use Rattle.std.proofs.Common.{◌≡◌, ◌≤◌, ◌+◌, ◌*◌, length}
use Rattle.repo_holdings.specs.Listed.{contents_from}
use Rattle.repo_holdings.specs.Taking.{with_fetched_for}
use Rattle.repo_holdings.specs.WholeContents.{joined}
use Rattle.repo_holdings.proofs.holdings.Holdings.contents_with.Given as goal

abbrev pub invariant-loop-x : goal.invariant-loop-x
invariant-loop-x l = record {
  contents : joined l.contents.items
      ≡ contents_from (with_fetched_for l.jobs l.parts l.self.store) (l.publisher, l.seq) (l.shape.index + 1) l.x;
  few : length (joined l.contents.items) ≤ 8800 * l.x;
}
