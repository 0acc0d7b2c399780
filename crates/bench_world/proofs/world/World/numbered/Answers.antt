use Rattle.bench_world.proofs.Openings.{next_number}
use Rattle.bench_world.proofs.world.World.numbered.Goals as goal

pub loop-number-preserved : goal.loop-number-preserved
loop-number-preserved c =
    next_number c.loop-number.number c.loop-number.numbers.items c.push.new.self.items c.loop-number.invariant
    c.in_ok-push.ensures.items
