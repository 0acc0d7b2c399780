use Rattle.std.proofs.Common.{◌≡◌, ℕ, ◌<◌, ◌≤◌, length}
use Rattle.live_settle.specs.Ready.{at, AreReady, HasRoom, KeepPrefixes, IsGathering, IsJoined}
use Rattle.live_settle.proofs.gather.all_gather.Given as goal

abbrev pub invariant-loop-j : goal.invariant-loop-j
invariant-loop-j g l =
    AreReady g.L.Lists.meaning l.lives × HasRoom l.j 900232 l.lives × (length l.lives ≡ length l.fn.lives)
    × ((p : ℕ) → l.j ≤ p → p < length l.lives → IsGathering g.L.Lists.meaning (at l.lives p))
    × ((p : ℕ) → p < l.j → IsJoined g.L.Lists.meaning (at l.lives p))
    × KeepPrefixes l.fn.lives l.lives
