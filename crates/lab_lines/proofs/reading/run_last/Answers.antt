use Rattle.std.proofs.Common.{◌≢◌, [], length, ap, sym, ◌∙◌}
use Rattle.std.proofs.lemmas.Bool.{eqb-true, eqb-false}
use Rattle.std.proofs.lemmas.List.{nil_from_length}
use Rattle.script_story.specs.Evaluation.{env_by}
use Rattle.script_lines.specs.Scripts.{reached}
use Rattle.lab_lines.specs.Carrying.{passed}
use Rattle.lab_lines.proofs.LastLines.{last_failed, last_halted, last_none, last_passed}
use Rattle.lab_lines.proofs.Ends.{failing_settled}
use Rattle.lab_lines.proofs.reading.run_last.Goals as goal

pub returns-then-is_empty-clause-ends : goal.returns-then-is_empty-clause-ends
returns-then-is_empty-clause-ends g c =
    let none = nil_from_length c.args.line.now (eqb-true (length c.args.line.now) 0
    (sym c.is_empty.ensures ∙ c.if-is_empty.true)) in
    last_none g.F.Form.form (env_by (g.D.Draws.draw c.args.draws.now) (g.N.Net.passes c.args.net.now))
    (passed c.args.totals (reached c.args.script)) c.args.form.now c.args.line.now none (g.K.Sink.out c.args.sink.now)
    (g.K.Sink.out c.end_form.new.sink) c.end_form.result c.end_form.ensures.ends

pub returns-in-Ok-clause-ends : goal.returns-in-Ok-clause-ends
returns-in-Ok-clause-ends g c =
    let some : c.args.line.now ≢ [] = λ e. eqb-false (length c.args.line.now) 0
    (sym c.is_empty.ensures ∙ c.if-is_empty.false) (ap length e) in
    last_passed g.F.Form.form (env_by (g.D.Draws.draw c.args.draws.now) (g.N.Net.passes c.args.net.now))
    (passed c.args.totals (reached c.args.script)) c.args.form.now c.args.line.now some c.requires.last
    (g.K.Sink.out c.args.sink.now) (g.K.Sink.out c.pass_line.new.sink) (g.K.Sink.out c.end_form-in-Ok.new.sink)
    c.end_form-in-Ok.result (passed c.pass_line.new.totals (reached c.in-Ok.field-0)) c.pass_line.new.form
    c.in-Ok.ensures.passes c.end_form-in-Ok.ensures.ends

pub returns-in-Err-Stopped-clause-ends : goal.returns-in-Err-Stopped-clause-ends
returns-in-Err-Stopped-clause-ends g c =
    let some : c.args.line.now ≢ [] = λ e. eqb-false (length c.args.line.now) 0
    (sym c.is_empty.ensures ∙ c.if-is_empty.false) (ap length e) in
    let over = rw c.in-Err-Stopped.field-0-is at c.in-Err-Stopped.ensures.over in
    last_halted g.F.Form.form (env_by (g.D.Draws.draw c.args.draws.now) (g.N.Net.passes c.args.net.now))
    (passed c.args.totals (reached c.args.script)) c.args.form.now c.args.line.now some c.requires.last
    (g.K.Sink.out c.args.sink.now) (g.K.Sink.out c.pass_line.new.sink) (g.K.Sink.out c.end_form-in-Err-Stopped.new.sink)
    c.end_form-in-Err-Stopped.result c.in-Err-Stopped.ending c.pass_line.new.totals c.pass_line.new.form over
    c.end_form-in-Err-Stopped.ensures.ends

pub returns-clause-ends : goal.returns-clause-ends
returns-clause-ends g c =
    let some : c.args.line.now ≢ [] = λ e. eqb-false (length c.args.line.now) 0
    (sym c.is_empty.ensures ∙ c.if-is_empty.false) (ap length e) in
    let over = rw c.in-Err-Faulted.field-0-is at c.in-Err-Faulted.ensures.over in
    last_failed g.F.Form.form (env_by (g.D.Draws.draw c.args.draws.now) (g.N.Net.passes c.args.net.now))
    (passed c.args.totals (reached c.args.script)) c.args.form.now c.args.line.now some c.requires.last
    (g.K.Sink.out c.args.sink.now) (g.K.Sink.out c.pass_line.new.sink) c.in-Err-Faulted.status over

pub returns-clause-settled : goal.returns-clause-settled
returns-clause-settled g c =
    let over = rw c.in-Err-Faulted.field-0-is at c.in-Err-Faulted.ensures.over in
    failing_settled c.in-Err-Faulted.status over.failing
