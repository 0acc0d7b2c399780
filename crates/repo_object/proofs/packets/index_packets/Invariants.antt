use Rattle.std.proofs.Common.{◌≡◌, ◌++◌, drop}
use Rattle.repo_object.specs.Publication.{index_contents, segment_packets_from}
use Rattle.repo_object.proofs.packets.index_packets.Given as goal

abbrev pub invariant-loop-k : goal.invariant-loop-k
invariant-loop-k l =
    l.packets.items
    ++ segment_packets_from l.key_name l.key l.name l.last l.k (drop l.k (index_contents l.segments))
    ≡ segment_packets_from l.key_name l.key l.name l.last 0 (index_contents l.segments)
