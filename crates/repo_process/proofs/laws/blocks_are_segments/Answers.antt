use Rattle.std.proofs.Common.{[], ◌+◌, ◌-◌, nat_cmp}
use Rattle.std.specs.Prelude.{unwrap_or}
use Rattle.sorted_lists.specs.SortedList.{value_of}
use Rattle.repo_process.proofs.LawLemmas.{segments_counted, segment_at}
use Rattle.repo_process.proofs.laws.blocks_are_segments.Goals as goal

pub returns-clause-count : goal.returns-clause-count
returns-clause-count c = segments_counted

pub returns-clause-each : goal.returns-clause-each
returns-clause-each c p i below =
    segment_at (λ index. unwrap_or (value_of nat_cmp p.blocks index) []) p.first (p.last + 1 - p.first) i below
