use Rattle.std.proofs.Common.{◌≡◌, drop, map}
use Rattle.ndn_name.specs.UriVerdict.{first_bad_digest}
use Rattle.ndn_name.specs.UriReading.{uri_part}
use Rattle.ndn_name.proofs.uri_read.first_bad_digest.Given as goal

abbrev pub invariant-loop-part : goal.invariant-loop-part
invariant-loop-part l =
    first_bad_digest (map uri_part (drop l.part-index l.parts)) ≡ first_bad_digest (map uri_part l.parts)
