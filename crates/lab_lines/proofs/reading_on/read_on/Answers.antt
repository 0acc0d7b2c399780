use Rattle.std.proofs.Common.{sym, subst, Bool, Err}
use Rattle.lab_text.specs.declared.status.LabStatus.TheVariants.{ReadFault}
use Rattle.lab_lines.specs.Carrying.{RestIsRead}
use Rattle.lab_lines.specs.Written.{Known}
use Rattle.lab_lines.proofs.NotesAfter.{read_rest, read_whole, rest_unread}
use Rattle.lab_lines.proofs.reading_on.read_on.Goals as goal

pub returns-then-ended-clause-read : goal.returns-then-ended-clause-read
returns-then-ended-clause-read g c =
    let f = g.F.Form.form in
    let before = g.S.Source.left c.args.source.now in
    let now = g.S.Source.left c.read_notes.new.source in
    let P : Bool → Type 0 = λ ended. Known before now
    (RestIsRead f ended c.args.totals c.args.form.now c.read_notes.new.form c.args.reader.now c.read_notes.result) in
    subst P (sym c.if-ended.true) (read_whole f c.args.totals c.args.form.now c.read_notes.new.form c.args.reader.now
    c.read_notes.result before now c.read_notes.ensures.read)

pub returns-in-Ok-clause-read : goal.returns-in-Ok-clause-read
returns-in-Ok-clause-read g c =
    let f = g.F.Form.form in
    let before = g.S.Source.left c.args.source.now in
    let mid = g.S.Source.left c.pass_rest.new.source in
    let now = g.S.Source.left c.read_notes-in-Ok.new.source in
    let P : Bool → Type 0 = λ ended. Known before now (RestIsRead f ended c.args.totals c.args.form.now
    c.read_notes-in-Ok.new.form c.args.reader.now c.read_notes-in-Ok.result) in
    subst P (sym c.if-ended.false) (read_rest f c.args.totals c.args.form.now c.read_notes-in-Ok.new.form
    c.args.reader.now c.read_notes-in-Ok.result c.pass_rest.new.totals c.pass_rest.new.reader before mid now
    c.in-Ok.ensures.passed c.read_notes-in-Ok.ensures.read)

pub returns-in-Err-clause-read : goal.returns-in-Err-clause-read
returns-in-Err-clause-read g c =
    let f = g.F.Form.form in
    let before = g.S.Source.left c.args.source.now in
    let now = g.S.Source.left c.pass_rest.new.source in
    let P : Bool → Type 0 = λ ended. Known before now
    (RestIsRead f ended c.args.totals c.args.form.now c.args.form.now c.args.reader.now (Err ReadFault)) in
    subst P (sym c.if-ended.false) (rest_unread f c.args.totals c.pass_rest.new.totals c.args.form.now
    c.args.reader.now c.pass_rest.new.reader c.in-Err.field-0 before now c.in-Err.ensures.passed)
