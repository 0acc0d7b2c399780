use Rattle.std.proofs.Common.{◌∙◌, ◌<◌, ◌≤◌, ap, sym, subst, arith, length, set}
use Rattle.live_member.specs.Lives.{Living, IsLive}
use Rattle.live_settle.specs.Ready.{Continues, Only, IsReady}
use Rattle.live_settle.proofs.Places.{at_found, at_set, only_set, placed_still, rest_stays, one_more, prefixes_still}
use Rattle.live_settle.proofs.ready.all_ready.Goals as goal

pub loop-j-preserved : goal.loop-j-preserved
loop-j-preserved g c =
    let t = g.L.Lists.meaning in
    let j = c.loop-j.j in
    let old = c.loop-j.lives in
    let live = c.ready.new.live in
    let is = c.loop-j.invariant in
    let h = c.in_ok-ready.ensures in
    let there : j < length old = omega (arith, c.loop-j-test.true, is.2) in
    let found = at_found old j c.index-lives-j.result there in
    let only : Only j old (set old j live) =
    only_set old j live there (h.number ∙ ap (λ (l : Living). l.state.number) found)
    (subst (λ (l : Living). Continues l.journal live.journal) found h.prefix) in
    let new = set old j live in (
      placed_still j old new only t there is.0,
      rest_stays j old new only (λ (l : Living). length l.journal ≤ 900000) is.1,
      only.width ∙ is.2,
      rest_stays j old new only (IsLive t 1000000) is.3,
      one_more j old new only (λ (l : Living). IsReady t l × (length l.journal ≤ 900216))
          (subst (λ (l : Living). IsReady t l × (length l.journal ≤ 900216)) (sym (at_set old j live there))
          (h.ready, h.entries)) is.4,
      prefixes_still j old new only c.args.lives.now is.5,
    )
