use Rattle.std.proofs.Common.{◌∙◌, ◌<◌, ◌≤◌, arith, length}
use Rattle.live_member.specs.Lives.{Living}
use Rattle.live_settle.specs.Ready.{IsGathering, IsJoined}
use Rattle.live_settle.proofs.Places.{ready_still, rest_stays, one_more, prefixes_still}
use Rattle.live_settle.proofs.gather.all_gather.Goals as goal

pub loop-j-preserved : goal.loop-j-preserved
loop-j-preserved g c =
    let t = g.L.Lists.meaning in
    let j = c.loop-j.j in
    let old = c.loop-j.lives in
    let new = c.gather.new.lives in
    let is = c.loop-j.invariant in
    let h = c.in_ok-gather.ensures in
    let there : j < length old = omega (arith, c.loop-j-test.true, is.2) in (
      ready_still j old new h.only t there is.0 h.joined.ready,
      rest_stays j old new h.only (λ (l : Living). length l.journal ≤ 900232) is.1,
      h.only.width ∙ is.2,
      rest_stays j old new h.only (IsGathering t) is.3,
      one_more j old new h.only (IsJoined t) h.joined is.4,
      prefixes_still j old new h.only c.args.lives.now is.5,
    )
