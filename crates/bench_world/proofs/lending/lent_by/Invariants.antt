use Rattle.std.proofs.Common.{◌≡◌, drop}
use Rattle.bench_world.specs.Lending.{lent}
use Rattle.bench_world.proofs.lending.lent_by.Given as goal

abbrev pub invariant-loop-member : goal.invariant-loop-member
invariant-loop-member l = lent (drop l.member-index l.members) l.part ≡ lent l.members l.part
