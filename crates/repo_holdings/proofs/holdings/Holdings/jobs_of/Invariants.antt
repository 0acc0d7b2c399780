use Rattle.std.proofs.Common.{◌≡◌, map, take}
use Rattle.std.specs.Prelude.{IfSome}
use Rattle.repo_holdings.specs.StoredParents.{IsStoredParent}
use Rattle.repo_holdings.specs.Wanting.{job_at}
use Rattle.repo_holdings.proofs.holdings.Holdings.jobs_of.Given as goal

abbrev pub invariant-loop-part : goal.invariant-loop-part
invariant-loop-part l = record {
  made : l.jobs.items ≡ map (job_at l.publishers l.group l.self) (take l.part-index l.parts);
  stored : IfSome l.stored (IsStoredParent l.self.store);
}
