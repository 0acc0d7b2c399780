use Rattle.bench_world.specs.Touching.{one_holds}
use Rattle.bench_world.proofs.Touching.{GoesOn, left_from}
use Rattle.bench_world.proofs.lenders.LendersHasParts.least_from.Given as goal

abbrev pub invariant-loop-next : goal.invariant-loop-next
invariant-loop-next l = GoesOn (one_holds l.self.members.now) l.self.touched.now l.fn.part l.next

abbrev pub decreases-loop-next : goal.decreases-loop-next
decreases-loop-next l = left_from l.self.touched.now l.next
