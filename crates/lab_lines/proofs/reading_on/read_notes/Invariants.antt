use Rattle.std.proofs.Common.{◌≤◌, ◌-◌}
use Rattle.lab_text.specs.Limits.{most_lines}
use Rattle.lab_lines.specs.Written.{Known}
use Rattle.lab_lines.proofs.NotesAfter.{NotesSoFar}
use Rattle.lab_lines.proofs.reading_on.read_notes.Given as goal

abbrev pub invariant-loop-count : goal.invariant-loop-count
invariant-loop-count g l = record {
  so_far : Known (g.S.Source.left l.fn.source) (g.S.Source.left l.source)
      (NotesSoFar g.F.Form.form l.fn.totals l.totals l.fn.form l.form l.fn.reader l.reader);
  source : g.S.Source.faults l.fn.source ≤ g.S.Source.faults l.source;
}

abbrev pub decreases-loop-count : goal.decreases-loop-count
decreases-loop-count g l = most_lines - l.totals.lines
