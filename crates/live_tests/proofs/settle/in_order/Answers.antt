use Rattle.std.proofs.Common.{◌≡◌, ◌≤◌, ◌∙◌, [], ◌∷◌, map, length, sym, ap, subst, arith}
use Rattle.std.specs.List.{All}
use Rattle.live_member.specs.Lives.{IsLive}
use Rattle.live_settle.specs.Rans.{numbers_below}
use Rattle.live_tests.proofs.Pairs.{all_two}
use Rattle.live_tests.proofs.settle.in_order.Goals as goal

pub returns-clause-numbers : goal.returns-clause-numbers
returns-clause-numbers g c =
    let zero_first : c.widen-first.result.state.number ≡ 0 = cc in
    let one_second : c.widen-second.result.state.number ≡ 1 = cc in
    ap (map (λ l. l.state.number)) c.pair.ensures
    ∙ (λ i. zero_first i ∷ one_second i ∷ [])
    ∙ sym (ap numbers_below c.requires)

pub returns-clause-live : goal.returns-clause-live
returns-clause-live g c =
    subst (All (IsLive g.L.Lists.meaning 1000000)) (sym c.pair.ensures)
    (all_two (IsLive g.L.Lists.meaning 1000000) c.widen-first.result c.widen-second.result
    c.widen-first.ensures.live c.widen-second.ensures.live)

pub returns-clause-room : goal.returns-clause-room
returns-clause-room g c =
    subst (All (λ l. length l.journal ≤ 900000)) (sym c.pair.ensures)
    (all_two (λ l. length l.journal ≤ 900000) c.widen-first.result c.widen-second.result
    (omega (arith, c.widen-first.ensures.room)) (omega (arith, c.widen-second.ensures.room)))
