use Rattle.std.proofs.Common.{◌≡◌, ◌++◌, map}
use Rattle.std.specs.List.{All}
use Rattle.std.specs.Slice.Iter.{iter_rest}
use Rattle.std.specs.Iterator.Adapters.{zip_first, zip_second}
use Rattle.repo_member.specs.MemberState.{member_plan}
use Rattle.repo_member.specs.Outcomes.{AreFetched, outcome_of}
use Rattle.repo_holdings.specs.Taking.{came, CanBeTaken}
use Rattle.repo_member.proofs.member.Member.tried.Given as goal

abbrev pub invariant-loop-job : goal.invariant-loop-job
invariant-loop-job l =
    let jobs = iter_rest (zip_first (zip_first l.job-iterator)) in
    let parts = iter_rest (zip_second (zip_first l.job-iterator)) in
    let attempts = iter_rest (zip_second l.job-iterator) in record {
      came : map came l.all.items ++ outcome_of jobs parts attempts ≡ outcome_of l.jobs l.parts l.attempts;
      can : All (CanBeTaken (member_plan l.self) l.self.store) l.all.items;
      rest : AreFetched l.g l.self jobs parts attempts;
    }
