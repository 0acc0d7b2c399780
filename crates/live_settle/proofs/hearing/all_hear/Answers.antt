use Rattle.std.proofs.Common.{◌∙◌, ◌<◌, ◌≤◌, arith, length}
use Rattle.live_member.specs.Lives.{Living}
use Rattle.live_settle.specs.Ready.{IsGathering}
use Rattle.live_settle.proofs.Passes.{hears_gathering}
use Rattle.live_settle.proofs.Places.{ready_still, rest_stays, one_more, prefixes_still}
use Rattle.live_settle.proofs.hearing.all_hear.Goals as goal

pub loop-j-preserved : goal.loop-j-preserved
loop-j-preserved g c =
    let t = g.L.Lists.meaning in
    let j = c.loop-j.j in
    let old = c.loop-j.lives in
    let new = c.hear_others.new.lives in
    let is = c.loop-j.invariant in
    let h = c.in_ok-hear_others.ensures.hears in
    let there : j < length old = omega (arith, c.loop-j-test.true, is.2) in
    let room = is.1 j (omega arith) there in (
      ready_still j old new h.only t there is.0 h.ready,
      rest_stays j old new h.only (λ (l : Living). length l.journal ≤ 900216) is.1,
      h.only.width ∙ is.2,
      one_more j old new h.only (λ (l : Living). IsGathering t l × (length l.journal ≤ 900232))
          (hears_gathering t j old new h, omega (arith, h.few, room)) is.3,
      prefixes_still j old new h.only c.args.lives.now is.4,
    )
