use Rattle.std.proofs.Common.{◌≡◌, ◌++◌, length}
use Rattle.lab_text.specs.LineTexts.{line_texts, marked_lines}
use Rattle.lab_text.specs.Writing.{KeepsPrefix}
use Rattle.lab_text.proofs.writing.write_marked.Given as goal

abbrev pub invariant-loop-line : goal.invariant-loop-line
invariant-loop-line l = record {
  written : l.out.items ++ marked_lines l.mark (line_texts l.rest)
      ≡ l.fn.out.items ++ marked_lines l.mark (line_texts l.octets);
  kept : KeepsPrefix l.fn.out.items l.out.items;
}

abbrev pub decreases-loop-line : goal.decreases-loop-line
decreases-loop-line l = length l.rest
