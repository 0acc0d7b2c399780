use Rattle.std.proofs.Common.{◌≡◌, map, take, Some}
use Rattle.lab_seeds.proofs.running.all_there.Given as goal

abbrev pub invariant-loop-end : goal.invariant-loop-end
invariant-loop-end l = map Some l.all.items ≡ take l.end-index l.ends
