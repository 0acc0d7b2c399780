use Rattle.std.proofs.Common.{◌≡◌, map, take}
use Rattle.bench_world.specs.MemberTotals.{totals_in}
use Rattle.bench_world.proofs.world.reading.add_up.Given as goal

abbrev pub invariant-loop-member : goal.invariant-loop-member
invariant-loop-member l = record {
  entries : l.sums.entries.items ≡ map (λ a. (totals_in a).entries) (take l.member-index l.members);
  segments : l.sums.segments.items ≡ map (λ a. (totals_in a).segments) (take l.member-index l.members);
  octets : l.sums.octets.items ≡ map (λ a. (totals_in a).octets) (take l.member-index l.members);
}
