use Rattle.std.proofs.Common.{◌≡◌, ℕ, ◌<◌, ◌≤◌, length}
use Rattle.live_settle.specs.Ready.{at, AreReady, HasRoom, KeepPrefixes, IsGathering}
use Rattle.live_settle.proofs.hearing.all_hear.Given as goal

abbrev pub invariant-loop-j : goal.invariant-loop-j
invariant-loop-j g l =
    AreReady g.L.Lists.meaning l.lives × HasRoom l.j 900216 l.lives × (length l.lives ≡ length l.fn.lives)
    × ((p : ℕ) → p < l.j → IsGathering g.L.Lists.meaning (at l.lives p) × (length (at l.lives p).journal ≤ 900232))
    × KeepPrefixes l.fn.lives l.lives
