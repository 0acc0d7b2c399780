use Rattle.std.proofs.Common.{sym, ◌∙◌}
use Rattle.repo_plan.specs.Parts.{Pair}
use Rattle.bench_world.proofs.Touching.{touched_here, touched_none, touched_later}
use Rattle.bench_world.proofs.touched.Touched.first_from.Goals as goal

pub returns-then-has : goal.returns-then-has
returns-then-has c = touched_here c.args.self.now c.args.part (sym c.has.ensures ∙ c.if-has.true)

pub returns-in-Some : goal.returns-in-Some
returns-in-Some c =
    let y : Pair × Unit {0} = ((c.in-Some.publisher, c.in-Some.seq), c.in-Some.field-0-1) in
    touched_later c.args.self.now c.args.part (sym c.has.ensures ∙ c.if-has.false) c.in-Some.ensures.rises y
    (sym c.in-Some.ensures.found)

pub returns-in-None : goal.returns-in-None
returns-in-None c =
    touched_none c.args.self.now c.args.part (sym c.has.ensures ∙ c.if-has.false) (sym c.in-None.ensures.found)
