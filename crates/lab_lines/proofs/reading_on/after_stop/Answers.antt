use Rattle.std.proofs.Common.{◌∙◌, sym, ap, subst, List, ℕ, take, drop, Ok, Err}
use Rattle.script_lang.specs.Lines.{ends_with}
use Rattle.lab_lines.specs.Carrying.{RestIsRead}
use Rattle.lab_lines.specs.Written.{Known}
use Rattle.lab_lines.proofs.NotesAfter.{after_off, after_on, after_unread}
use Rattle.lab_lines.proofs.reading_on.after_stop.Goals as goal

pub returns-then-not-reads_on-clause-ends : goal.returns-then-not-reads_on-clause-ends
returns-then-not-reads_on-clause-ends g c =
    after_off g.F.Form.form c.args.ending c.args.totals c.args.form.now (take c.args.count c.args.reader.now)
    (drop c.args.count c.args.reader.now) (g.K.Sink.out c.args.sink.now) (g.K.Sink.out c.end_form.new.sink)
    c.end_form.result (sym c.reads_on.ensures ∙ c.if-not-reads_on.true) c.end_form.ensures.settled
    c.end_form.ensures.ends (g.S.Source.left c.args.source.now)

pub returns-in-Ok-clause-ends : goal.returns-in-Ok-clause-ends
returns-in-Ok-clause-ends g c =
    let f = g.F.Form.form in
    let left = c.pass.new.self in
    let before = g.S.Source.left c.args.source.now in
    let now = g.S.Source.left c.read_on.new.source in
    let P : List ℕ → Type 0 = λ x. Known before now
    (RestIsRead f c.has_end-ended.result c.args.totals c.args.form.now c.read_on.new.form x (Ok (tt {0}))) in
    after_on f c.args.ending c.args.totals c.args.form.now (take c.args.count c.args.reader.now)
    (drop c.args.count c.args.reader.now) (g.K.Sink.out c.args.sink.now) (g.K.Sink.out c.end_form-in-Ok.new.sink)
    c.end_form-in-Ok.result c.has_end-ended.result c.read_on.new.form (sym c.reads_on.ensures ∙ c.if-not-reads_on.false)
    (c.has_end-ended.ensures ∙ ap (ends_with 10) c.prefix.ensures) c.end_form-in-Ok.ensures.settled
    c.end_form-in-Ok.ensures.ends before now (subst P c.pass.ensures c.in-Ok.ensures.read)

pub returns-in-Err-clause-ends : goal.returns-in-Err-clause-ends
returns-in-Err-clause-ends g c =
    let f = g.F.Form.form in
    let before = g.S.Source.left c.args.source.now in
    let now = g.S.Source.left c.read_on.new.source in
    let P : List ℕ → Type 0 = λ x. Known before now
    (RestIsRead f c.has_end-ended.result c.args.totals c.args.form.now c.read_on.new.form x (Err c.in-Err.status)) in
    after_unread f c.args.ending c.args.totals c.args.form.now c.read_on.new.form (take c.args.count c.args.reader.now)
    (drop c.args.count c.args.reader.now) (g.K.Sink.out c.args.sink.now) c.in-Err.status c.has_end-ended.result
    (sym c.reads_on.ensures ∙ c.if-not-reads_on.false) c.in-Err.ensures.unread before now
    (subst P c.pass.ensures c.in-Err.ensures.read)
