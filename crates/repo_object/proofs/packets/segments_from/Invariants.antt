use Rattle.std.proofs.Common.{◌≡◌, ◌+◌, ◌++◌, map, drop}
use Rattle.repo_object.specs.Publication.{segment_packets_from}
use Rattle.repo_object.proofs.packets.segments_from.Given as goal

abbrev pub invariant-loop-i : goal.invariant-loop-i
invariant-loop-i l =
    l.packets.items
    ++ segment_packets_from l.key_name l.key l.name l.last (l.first + l.i) (drop l.i (map (λ c. c.items) l.contents))
    ≡ segment_packets_from l.key_name l.key l.name l.last l.first (map (λ c. c.items) l.contents)
