use Rattle.std.proofs.Common.{◌≡◌, ◌++◌, length, map}
use Rattle.std.specs.List.{All}
use Rattle.lab_capture.specs.Captures.{IsFrame, capture_head, framed}
use Rattle.lab_capture.proofs.Captured.{records}
use Rattle.lab_capture.proofs.reading.read_capture.Given as goal

abbrev pub invariant-loop-rest : goal.invariant-loop-rest
invariant-loop-rest l =
    (l.octets ≡ capture_head ++ (records (map framed l.frames.items) ++ l.rest))
    × All IsFrame (map framed l.frames.items)

abbrev pub decreases-loop-rest : goal.decreases-loop-rest
decreases-loop-rest l = length l.rest
