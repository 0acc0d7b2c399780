use Rattle.std.proofs.Common.{◌≡◌, [], arith}
use Rattle.std.proofs.lemmas.Grind.{common_steps}
use Rattle.live_top.specs.Outcomes.{outcome_of}
use Rattle.live_top.proofs.Cutting.{all_taken, stops_at, taken_on}
use Rattle.live_top.proofs.input.script_of.Goals as goal

pub loop-rest-preserved : goal.loop-rest-preserved
loop-rest-preserved c =
    taken_on (outcome_of c.args.input.now) c.loop-rest.script c.in-Ok.next c.loop-rest.rest.now
    c.first_line.result.0.now c.first_line.result.1.now c.loop-rest.invariant c.first_line.ensures.cut
    c.in-Ok.ensures.taken

pub returns-in-Err-clause-halted : goal.returns-in-Err-clause-halted
returns-in-Err-clause-halted c =
    rw (c.halt_at.ensures, c.next_line-number.ensures) (stops_at (outcome_of c.args.input.now) c.loop-rest.script
    c.loop-rest.rest.now c.first_line.result.0.now c.first_line.result.1.now c.in-Err.error c.loop-rest.invariant
    c.first_line.ensures.cut c.in-Err.ensures.stopped)

pub returns-clause-taken : goal.returns-clause-taken
returns-clause-taken c =
    let none : c.loop-rest.rest.now ≡ [] = grind (arith, common_steps) in
    all_taken (outcome_of c.args.input.now) c.loop-rest.script c.loop-rest.rest.now c.loop-rest.invariant none
