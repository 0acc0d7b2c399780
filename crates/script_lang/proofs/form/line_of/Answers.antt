use Rattle.std.proofs.Common.{[]}
use Rattle.std.proofs.lemmas.Result.{err_from_is_err_and}
use Rattle.script_lang.specs.Forms.{stated, form}
use Rattle.script_lang.specs.Reading.{left_of}
use Rattle.script_lang.proofs.Reading.{reported_at_end}
use Rattle.script_lang.proofs.form.line_of.Goals as goal

pub returns-in_err-end : goal.returns-in_err-end
returns-in_err-end c =
    let p = err_from_is_err_and c.from_residual-in_err-end.result c.from_residual-in_err-end.ensures.1 in
    rw (p.1, p.2) (reported_at_end c.in_err-end.field-0.0 c.args.verb (stated c.in_ok-line.line).values
    (left_of (form c.args.verb).kinds c.args.words)
    (left_of [] c.read_form.new.words) c.in_ok-line.ensures.1 c.in_err-end.ensures.err)
