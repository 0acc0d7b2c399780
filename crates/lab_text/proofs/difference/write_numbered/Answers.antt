use Rattle.std.proofs.Common.{sym, ◌∙◌}
use Rattle.std.proofs.lemmas.Result.{on_ok_weaker}
use Rattle.lab_text.proofs.NoteTexts.{numbered_then, spaced}
use Rattle.lab_text.proofs.difference.write_numbered.Goals as goal

pub returns-clause-ok : goal.returns-clause-ok
returns-clause-ok c =
    let some = rw c.shown_text-text.ensures at (spaced c.shown_text-text.result.now (sym c.is_empty.ensures
    ∙ c.if-is_empty.false)) in
    on_ok_weaker c.write_line-2.result
    (numbered_then c.args.out.now.items c.write_number.new.out.items c.write_line-2.new.out.items c.args.number
    c.args.line.now c.in_ok-write_number.ensures.ok some)
    (rw c.shown_text-text.ensures at c.write_line-2.ensures.ok)
