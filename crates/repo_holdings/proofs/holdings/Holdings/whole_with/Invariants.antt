use Rattle.std.specs.List.{All}
use Rattle.repo_holdings.specs.Taking.{with_fetched_for}
use Rattle.repo_holdings.specs.WholeContents.{IsWholeIn}
use Rattle.repo_holdings.proofs.holdings.Holdings.whole_with.Given as goal

abbrev pub invariant-loop-place : goal.invariant-loop-place
invariant-loop-place l = All (IsWholeIn (with_fetched_for l.jobs l.parts l.self.store)) l.whole.items
