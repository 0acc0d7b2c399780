use Rattle.std.proofs.Common.{◌≡◌, ◌+◌, ◌≤◌, true, ◌++◌, map, length}
use Rattle.std.specs.List.{All}
use Rattle.std.specs.Slice.Iter.{iter_rest}
use Rattle.std.specs.Iterator.Adapters.{zip_first, zip_second}
use Rattle.sorted_lists.specs.SortedList.{Rises, contains, insert_keys}
use Rattle.repo_plan.specs.Parts.{Pair, pair_cmp}
use Rattle.repo_holdings.specs.Taking.{came, CanBeTaken}
use Rattle.repo_member.specs.Outcomes.{outcome_of}
use Rattle.repo_mirror.specs.PacketsFor.{IsCheckedFetch}
use Rattle.repo_mirror.specs.MirrorState.{fetch_plan}
use Rattle.repo_mirror.specs.Passing.{fetches_for, not_kept, passed_over, IsUnknownIn}
use Rattle.repo_mirror.specs.MirrorOutcomes.{AreFetchedFor}
use Rattle.repo_mirror.proofs.mirror.Mirror.sorted.Given as goal

abbrev pub invariant-loop-job : goal.invariant-loop-job
invariant-loop-job g l =
    let jobs = iter_rest (zip_first (zip_first l.job-iterator)) in
    let parts = iter_rest (zip_second (zip_first l.job-iterator)) in
    let attempts = iter_rest (zip_second l.job-iterator) in
    let pattern = l.self.pattern in record {
      kept : map came l.kept.items ++ fetches_for pattern (outcome_of jobs parts attempts)
          ≡ fetches_for pattern (outcome_of l.jobs l.parts l.attempts);
      passed : insert_keys pair_cmp (not_kept pattern (outcome_of jobs parts attempts)) l.passed.items
          ≡ passed_over pattern (outcome_of l.jobs l.parts l.attempts);
      in_order : Rises pair_cmp l.passed.items;
      checked : All IsCheckedFetch (map came l.kept.items);
      can : All (CanBeTaken (fetch_plan l.self) l.self.store) l.kept.items;
      unknown : (pair : Pair) → contains pair_cmp l.passed.items pair ≡ true → IsUnknownIn (fetch_plan l.self) pair;
      few : length l.kept.items + length jobs ≤ length l.jobs;
      rest : AreFetchedFor l.self jobs parts attempts;
    }
