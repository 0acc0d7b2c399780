use Rattle.std.proofs.Common.{◌≡◌, ◌≤◌, ◌*◌, take}
use Rattle.std.specs.Prelude.{sum_by}
use Rattle.repo_member.specs.Outcomes.{octets_in}
use Rattle.bench_world.proofs.holder.fetched_octets.Given as goal

abbrev pub invariant-loop-part : goal.invariant-loop-part
invariant-loop-part l = record {
  sum : l.octets ≡ sum_by octets_in (take l.part-index l.parts);
  small : l.octets ≤ l.part-index * 8800;
}
