use Rattle.std.proofs.Common.{◌≡◌, ◌∙◌, ◌+◌, ◌++◌, [], ◌∷◌, ℕ, suc, List, ap, sym, arith}
use Rattle.std.proofs.lemmas.List.{map-append}
use Rattle.live_settle.specs.Rans.{numbers_below}
use Rattle.live_top.specs.Outcomes.{first_draws}
use Rattle.live_top.proofs.top.first_draws.Goals as goal

one_more : (draw : ℕ → ℕ → ℕ) (n : ℕ) → first_draws draw (n + 1) ≡ first_draws draw n ++ draw n 0 ∷ []
one_more draw n =
    let next : n + 1 ≡ suc n = omega arith in
    ap (first_draws draw) next ∙ map-append (λ m. draw m 0) (numbers_below n) (n ∷ [])

pub loop-member-preserved : goal.loop-member-preserved
loop-member-preserved g c =
    c.in_ok-push.ensures.items
    ∙ ap (λ (v : ℕ). c.loop-member.values.items ++ v ∷ []) c.draw.ensures
    ∙ ap (λ (vs : List ℕ). vs ++ g.D.Draws.draw c.args.draws.now c.loop-member.member 0 ∷ []) c.loop-member.invariant
    ∙ sym (one_more (g.D.Draws.draw c.args.draws.now) c.loop-member.member)
