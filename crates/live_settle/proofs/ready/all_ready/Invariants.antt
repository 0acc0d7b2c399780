use Rattle.std.proofs.Common.{◌≡◌, ℕ, ◌<◌, ◌≤◌, length}
use Rattle.live_member.specs.Lives.{IsLive}
use Rattle.live_settle.specs.Ready.{at, ArePlaced, HasRoom, KeepPrefixes, IsReady}
use Rattle.live_settle.proofs.ready.all_ready.Given as goal

abbrev pub invariant-loop-j : goal.invariant-loop-j
invariant-loop-j g l =
    ArePlaced g.L.Lists.meaning l.lives × HasRoom l.j 900000 l.lives × (length l.lives ≡ length l.fn.lives)
    × ((p : ℕ) → l.j ≤ p → p < length l.lives → IsLive g.L.Lists.meaning 1000000 (at l.lives p))
    × ((p : ℕ) → p < l.j → IsReady g.L.Lists.meaning (at l.lives p) × (length (at l.lives p).journal ≤ 900216))
    × KeepPrefixes l.fn.lives l.lives
