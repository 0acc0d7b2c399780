use Rattle.std.proofs.Common.{◌∙◌, length, ap}
use Rattle.std.proofs.lemmas.List.{length-map}
use Rattle.live_settle.specs.Rans.{numbers_below}
use Rattle.live_settle.proofs.Places.{length-below}
use Rattle.live_top.proofs.top.run_members.Goals as goal

pub run_group-requires-clause-draws : goal.run_group-requires-clause-draws
run_group-requires-clause-draws g c κs lifetimes =
    let n = c.len.result in
    ap length c.deref.ensures.value
    ∙ ap length c.in_ok-values.ensures
    ∙ length-map (numbers_below n) (λ m. g.D.Draws.draw c.args.draws.now m 0)
    ∙ length-below n ∙ c.len.ensures ∙ c.args.lists.ok.0
