use Rattle.live_settle.specs.Ready.{Hears}
use Rattle.live_settle.specs.Hearings.{HearsFirst}
use Rattle.live_settle.proofs.hearing.hear_others.Given as goal

abbrev pub invariant-loop-p : goal.invariant-loop-p
invariant-loop-p g l =
    Hears g.L.Lists.meaning l.j l.p l.p l.fn.lives l.lives × HearsFirst g.L.Lists.meaning l.j l.p l.fn.lives l.lives
