use Rattle.std.proofs.Common.{◌≢◌, [], length, ap, sym, ◌∙◌}
use Rattle.std.proofs.lemmas.Bool.{eqb-true, eqb-false}
use Rattle.std.proofs.lemmas.List.{nil_from_length}
use Rattle.script_story.specs.Evaluation.{env_by}
use Rattle.script_lines.specs.Scripts.{reached}
use Rattle.repo_top.proofs.Runs.{finishes_line, finishes_none, finishes_stopped}
use Rattle.repo_top.proofs.running.run_last.Goals as goal

pub returns-then-is_empty-clause-finishes : goal.returns-then-is_empty-clause-finishes
returns-then-is_empty-clause-finishes g c =
    let none = nil_from_length c.args.line.now (eqb-true (length c.args.line.now) 0
    (sym c.is_empty.ensures ∙ c.if-is_empty.true)) in
    finishes_none (env_by (g.D.Draws.draw c.args.draws.now) (g.N.Net.passes c.args.net.now))
    (reached c.args.script) (g.K.Sink.out c.args.sink.now) c.args.line.now c.into_world.result none (record {
      world = c.into_world.ensures.world;
      keys = c.into_world.ensures.keys;
      mirrors = c.into_world.ensures.mirrors;
    })

pub returns-in-Ok-clause-finishes : goal.returns-in-Ok-clause-finishes
returns-in-Ok-clause-finishes g c =
    let some : c.args.line.now ≢ [] = λ e. eqb-false (length c.args.line.now) 0
    (sym c.is_empty.ensures ∙ c.if-is_empty.false) (ap length e) in
    finishes_line (env_by (g.D.Draws.draw c.args.draws.now) (g.N.Net.passes c.args.net.now))
    (reached c.args.script) (g.K.Sink.out c.args.sink.now) (g.K.Sink.out c.carry_out.new.sink) c.args.line.now
    c.into_world-in-Ok.result some c.requires.last (reached c.in-Ok.next) c.in-Ok.ensures.took (record {
      world = c.into_world-in-Ok.ensures.world;
      keys = c.into_world-in-Ok.ensures.keys;
      mirrors = c.into_world-in-Ok.ensures.mirrors;
    })

pub returns-in-Err-clause-finishes : goal.returns-in-Err-clause-finishes
returns-in-Err-clause-finishes g c =
    let some : c.args.line.now ≢ [] = λ e. eqb-false (length c.args.line.now) 0
    (sym c.is_empty.ensures ∙ c.if-is_empty.false) (ap length e) in
    finishes_stopped (env_by (g.D.Draws.draw c.args.draws.now) (g.N.Net.passes c.args.net.now))
    (reached c.args.script) (g.K.Sink.out c.args.sink.now) (g.K.Sink.out c.carry_out.new.sink)
    c.args.line.now c.args.end.now
    some c.requires.last c.in-Err.status c.in-Err.ensures.stops
