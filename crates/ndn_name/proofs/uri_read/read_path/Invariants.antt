use Rattle.std.proofs.Common.{◌+◌, length, map}
use Rattle.std.specs.Option.{option_copied}
use Rattle.std.specs.Option.{option_map_or}
use Rattle.ndn_name.specs.UriReading.{uri_part}
use Rattle.ndn_name.proofs.PathTexts.{PathSoFar}
use Rattle.ndn_name.proofs.uri_read.read_path.Given as goal

abbrev pub invariant-loop-left : goal.invariant-loop-left
invariant-loop-left l = PathSoFar l.at (map uri_part l.parts.items) l.path (option_copied l.left)

abbrev pub decreases-loop-left : goal.decreases-loop-left
decreases-loop-left l = option_map_or (λ t. length t + 1) (option_copied l.left) 0
