use Rattle.std.proofs.Common.{◌≡◌, ◌∙◌, ◌+◌, ◌&&◌, sym, ap, subst, true, false, List, ℕ, length, arith}
use Rattle.lab_text.specs.declared.status.LabStatus.TheVariants.{NoMemory, ReadFault}
use Rattle.lab_text.specs.Notes.{is_note}
use Rattle.lab_lines.specs.Folding.{fits}
use Rattle.lab_lines.specs.Written.{Known}
use Rattle.lab_lines.proofs.NotesAfter.{NotesSoFar, known_note, known_notes, known_unread, notes_kept}
use Rattle.lab_lines.proofs.reading_on.read_notes.Goals as goal

pub returns-in_default-clause-read : goal.returns-in_default-clause-read
returns-in_default-clause-read g c =
    let f = g.F.Form.form in
    let old = c.args.totals in
    let m = c.args.form.now in
    let entry = c.args.reader.now in
    let t = c.loop-count.totals in
    let n = c.loop-count.form in
    let left = c.next_piece.new.reader in
    let before = g.S.Source.left c.args.source.now in
    let now = g.S.Source.left c.next_piece.new.source in
    let h = notes_kept f old m entry t n c.loop-count.reader left before (g.S.Source.left c.loop-count.source) now
    c.in_default.ensures.kept c.loop-count.invariant.so_far in
    known_unread f old m entry t n left ReadFault n before now h

pub returns-then-not-is_next_note-clause-read : goal.returns-then-not-is_next_note-clause-read
returns-then-not-is_next_note-clause-read g c =
    let f = g.F.Form.form in
    let old = c.args.totals in
    let m = c.args.form.now in
    let entry = c.args.reader.now in
    let t = c.loop-count.totals in
    let n = c.loop-count.form in
    let left = c.next_piece.new.reader in
    let before = g.S.Source.left c.args.source.now in
    let now = g.S.Source.left c.next_piece.new.source in
    let h = notes_kept f old m entry t n c.loop-count.reader left before (g.S.Source.left c.loop-count.source) now
    c.in-Ok.ensures.kept c.loop-count.invariant.so_far in
    let P : List ℕ → Type 0 = λ x. (fits t.lines t.octets x && is_note x) ≡ false in
    let other = subst P c.prefix-line.ensures (sym c.is_next_note.ensures ∙ c.if-not-is_next_note.true) in
    known_notes f old m entry t n left c.in-Ok.count c.in-Ok.field-0-1 before now c.in-Ok.ensures.piece other h

pub returns-in_default-note-clause-read : goal.returns-in_default-note-clause-read
returns-in_default-note-clause-read g c =
    let f = g.F.Form.form in
    let old = c.args.totals in
    let m = c.args.form.now in
    let entry = c.args.reader.now in
    let t = c.loop-count.totals in
    let n = c.loop-count.form in
    let left = c.next_piece.new.reader in
    let before = g.S.Source.left c.args.source.now in
    let now = g.S.Source.left c.next_piece.new.source in
    let h = notes_kept f old m entry t n c.loop-count.reader left before (g.S.Source.left c.loop-count.source) now
    c.in-Ok.ensures.kept c.loop-count.invariant.so_far in
    known_unread f old m entry t n left NoMemory c.note.new.self before now h

pub loop-count-preserved : goal.loop-count-preserved
loop-count-preserved g c =
    let f = g.F.Form.form in
    let old = c.args.totals in
    let m = c.args.form.now in
    let entry = c.args.reader.now in
    let t = c.loop-count.totals in
    let n = c.loop-count.form in
    let left = c.next_piece.new.reader in
    let before = g.S.Source.left c.args.source.now in
    let now = g.S.Source.left c.next_piece.new.source in
    let count = c.in-Ok.count in
    let h = notes_kept f old m entry t n c.loop-count.reader left before (g.S.Source.left c.loop-count.source) now
    c.in-Ok.ensures.kept c.loop-count.invariant.so_far in
    let P : List ℕ → Type 0 = λ x. (fits t.lines t.octets x && is_note x) ≡ true in
    let taken = subst P c.prefix-line.ensures (sym c.is_next_note.ensures ∙ c.if-not-is_next_note.false) in
    let more : List ℕ → ℕ = λ x. t.octets + length x in
    let octets = c.count.ensures.octets ∙ ap more c.prefix-line.ensures in
    let kept = c.in-Ok-note.ensures ∙ ap (f.note n) c.prefix-line.ensures in
    let Q : List ℕ → Type 0 = λ x. Known before now (NotesSoFar f old c.count.new.self m c.note.new.self entry x) in
    record {
      so_far = subst Q (sym c.pass.ensures)
          (known_note f old m entry t n left count c.in-Ok.field-0-1 c.count.new.self c.note.new.self before now
          c.in-Ok.ensures.piece taken c.count.ensures.lines octets kept h);
      source = omega (arith, c.loop-count.invariant.source, c.in-Ok.ensures.faults);
    }
