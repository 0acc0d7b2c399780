use Rattle.std.proofs.Common.{◌+◌, ◌<◌, subst, take, length, List, ℕ}
use Rattle.repo_io.specs.Outside.{GainsText}
use Rattle.script_story.specs.Evaluation.{env_by}
use Rattle.script_lines.specs.Scripts.{reached}
use Rattle.repo_top.specs.Carrying.{Halts}
use Rattle.repo_top.proofs.Stops.{stops_halted, stops_unwritten}
use Rattle.repo_top.proofs.running.carry_out.Goals as goal

pub returns-in-Err-write_whole-clause-stops : goal.returns-in-Err-write_whole-clause-stops
returns-in-Err-write_whole-clause-stops g c =
    let n = c.in-Err-write_whole.field-0.written in
    let before = g.K.Sink.out c.args.sink.now in
    let after = g.K.Sink.out c.write_whole.new.sink in
    let text = c.deref.ensures.value in
    let P : List ℕ → Type 0 = λ t. GainsText before after (take n t) in
    let Q : List ℕ → Type 0 = λ t. n < length t in
    stops_unwritten (env_by (g.D.Draws.draw c.args.draws.now) (g.N.Net.passes c.args.net.now))
    (reached c.args.script) c.args.line.now before after c.take.new.report.items (reached c.in-Ok.next).state
    n c.in-Ok.ensures.taken
    (subst P text c.in-Err-write_whole.ensures.prefix) (subst Q text c.in-Err-write_whole.ensures.missing)

pub returns-in-Err-clause-stops : goal.returns-in-Err-clause-stops
returns-in-Err-clause-stops g c =
    let before = g.K.Sink.out c.args.sink.now in
    let after = g.K.Sink.out c.write_stop.new.sink in
    let H : ℕ → Type 0 = λ number. Halts number c.in-Err.error before after c.write_stop.result in
    stops_halted (env_by (g.D.Draws.draw c.args.draws.now) (g.N.Net.passes c.args.net.now)) (reached c.args.script)
    c.args.line.now before after c.in-Err.error c.write_stop.result c.in-Err.ensures.stopped
    (subst H c.next_line-number.ensures c.write_stop.ensures.halts)
