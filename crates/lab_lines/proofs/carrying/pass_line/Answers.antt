use Rattle.std.proofs.Common.{◌∙◌, sym, refl}
use Rattle.script_report.specs.declared.refusal.Refusal.TheVariants.{Limit}
use Rattle.script_story.specs.Evaluation.{env_by, refused}
use Rattle.script_story.specs.ScriptRun.{evaluated_next}
use Rattle.script_lines.specs.declared.error.LineError.TheVariants as error
use Rattle.script_lines.specs.Scripts.{reached}
use Rattle.lab_lines.specs.Carrying.{passed}
use Rattle.lab_lines.specs.Folding.{after_note, looked}
use Rattle.lab_lines.proofs.Folds.{fails_stated, evaluated_line, line_beyond, noted_line, over_stopped, passes_note}
use Rattle.lab_lines.proofs.Folds.{passes_stated, same_passed}
use Rattle.lab_lines.proofs.carrying.pass_line.Goals as goal

pub returns-then-not-fits-clause-over : goal.returns-then-not-fits-clause-over
returns-then-not-fits-clause-over g c =
    let f = g.F.Form.form in
    let env = env_by (g.D.Draws.draw c.args.draws.now) (g.N.Net.passes c.args.net.now) in
    let p = passed c.args.totals.now (reached c.args.script) in
    over_stopped f env p c.args.form.now c.args.line.now (error.Refused Limit) (refused Limit)
    (line_beyond f env p c.args.form.now c.args.line.now (sym c.fits-fits.ensures ∙ c.if-not-fits.true)) refl
    c.count.new.self c.count.ensures.lines c.count.ensures.octets c.stop_beyond.new.form
    (g.K.Sink.out c.args.sink.now) (g.K.Sink.out c.stop_beyond.new.sink) c.next_line-number.result
    c.next_line-number.ensures c.stop_beyond.result
    (looked f p c.args.form.now c.args.line.now) refl c.stop_beyond.ensures.stops (λ h. cc)

pub returns-in-Ok-clause-passes : goal.returns-in-Ok-clause-passes
returns-in-Ok-clause-passes g c =
    let f = g.F.Form.form in
    let env = env_by (g.D.Draws.draw c.args.draws.now) (g.N.Net.passes c.args.net.now) in
    let p = passed c.args.totals.now (reached c.args.script) in
    let q = passed c.count.new.self (reached c.args.script) in
    passes_note f env p c.args.form.now c.args.line.now
    (noted_line f env p c.args.form.now c.args.line.now (sym c.fits-fits.ensures ∙ c.if-not-fits.false)
    (sym c.is_note.ensures ∙ c.if-is_note.true)) q c.note.new.self (g.K.Sink.out c.args.sink.now)
    (same_passed q (after_note p c.args.line.now) c.count.ensures.lines c.count.ensures.octets refl) c.in-Ok.ensures

pub returns-in-Ok-write_line-clause-passes : goal.returns-in-Ok-write_line-clause-passes
returns-in-Ok-write_line-clause-passes g c =
    let f = g.F.Form.form in
    let env = env_by (g.D.Draws.draw c.args.draws.now) (g.N.Net.passes c.args.net.now) in
    let p = passed c.args.totals.now (reached c.args.script) in
    passes_stated f env p c.args.form.now c.args.line.now (sym c.fits-fits.ensures ∙ c.if-not-fits.false)
    (sym c.is_note.ensures ∙ c.if-is_note.false) c.take.new.report.items (reached c.in-Ok-take.next).state
    c.in-Ok-take.ensures.taken c.next_line-number.result c.next_line-number.ensures
    (passed c.count.new.self (reached c.in-Ok-take.next)) c.write_line.new.form (g.K.Sink.out c.args.sink.now)
    (g.K.Sink.out c.write_line.new.sink) c.count.ensures.lines c.count.ensures.octets c.in-Ok-take.ensures.reached
    c.look.new.form c.in-Ok-look.ensures c.in-Ok-write_line.ensures.kept c.in-Ok-write_line.ensures.writes

pub returns-in-Err-write_line-clause-over : goal.returns-in-Err-write_line-clause-over
returns-in-Err-write_line-clause-over g c =
    let f = g.F.Form.form in
    let env = env_by (g.D.Draws.draw c.args.draws.now) (g.N.Net.passes c.args.net.now) in
    let p = passed c.args.totals.now (reached c.args.script) in
    fails_stated f env p c.args.form.now c.args.line.now (sym c.fits-fits.ensures ∙ c.if-not-fits.false)
    (sym c.is_note.ensures ∙ c.if-is_note.false) c.take.new.report.items (reached c.in-Ok-take.next).state
    c.in-Ok-take.ensures.taken c.next_line-number.result c.next_line-number.ensures
    (g.K.Sink.out c.args.sink.now) (g.K.Sink.out c.write_line.new.sink) c.in-Err-write_line.status
    c.look.new.form c.in-Ok-look.ensures c.in-Err-write_line.ensures.writes

pub returns-in-Err-take-clause-over : goal.returns-in-Err-take-clause-over
returns-in-Err-take-clause-over g c =
    let f = g.F.Form.form in
    let env = env_by (g.D.Draws.draw c.args.draws.now) (g.N.Net.passes c.args.net.now) in
    let p = passed c.args.totals.now (reached c.args.script) in
    let fit = sym c.fits-fits.ensures ∙ c.if-not-fits.false in
    over_stopped f env p c.args.form.now c.args.line.now c.in-Err-take.error
    (evaluated_next env p.reached c.args.line.now)
    (evaluated_line f env p c.args.form.now c.args.line.now fit (sym c.is_note.ensures ∙ c.if-is_note.false))
    c.in-Err-take.ensures.stopped c.count.new.self c.count.ensures.lines c.count.ensures.octets
    c.stop_at.new.form (g.K.Sink.out c.args.sink.now) (g.K.Sink.out c.stop_at.new.sink)
    c.next_line-number.result c.next_line-number.ensures c.stop_at.result
    c.look.new.form c.in-Ok-look.ensures c.stop_at.ensures.stops c.stop_at.ensures.no_memory
