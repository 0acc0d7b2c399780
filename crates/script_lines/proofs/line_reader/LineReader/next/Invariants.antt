use Rattle.std.proofs.Common.{◌≡◌, ◌≤◌, ◌-◌, ℕ, length}
use Rattle.std.specs.Io.KnownBytes.{Keeps, prepend_known}
use Rattle.script_lines.specs.Reading.{HasLine}
use Rattle.script_lines.proofs.line_reader.LineReader.next.Given as goal

abbrev pub invariant-loop-count : goal.invariant-loop-count
invariant-loop-count g l = record {
  kept : Keeps (prepend_known l.fn.self (g.S.Source.left l.fn.source))
      (prepend_known l.self (g.S.Source.left l.source));
  faults : g.S.Source.faults l.fn.source ≤ g.S.Source.faults l.source;
  unread : (count : ℕ) → HasLine count l.fn.self → (l.self ≡ l.fn.self) × (l.source ≡ l.fn.source);
}

abbrev pub decreases-loop-count : goal.decreases-loop-count
decreases-loop-count g l = 65536 - length l.self
