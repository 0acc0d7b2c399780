use Rattle.std.proofs.Common.{◌≡◌, string_bytes}
use Rattle.ndn_inspect.specs.Inspection.{no_lines, ◌before◌, inspected}
use Rattle.ndn_inspect.proofs.OpenReadings.{Fit, pending, work}
use Rattle.ndn_inspect.proofs.inspector.put_elements.Given as goal

abbrev pub invariant-loop-reader : goal.invariant-loop-reader
invariant-loop-reader l =
    ((string_bytes l.text before pending 0 l.open.items no_lines) ≡ (string_bytes l.fn.text before inspected l.octets))
    × Fit l.open.items

abbrev pub decreases-loop-reader : goal.decreases-loop-reader
decreases-loop-reader l = work l.open.items
