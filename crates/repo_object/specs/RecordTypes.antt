-- The types of the elements of records and index packets that are this project's own.
use Rattle.std.specs.Prelude.{ℕ}

-- How many segments an object has.
abbrev pub SegmentCount : ℕ
SegmentCount = 129

-- The digest of a segment's packet.
abbrev pub Digest : ℕ
Digest = 131

-- The number of the publication that is withdrawn.
abbrev pub Withdraws : ℕ
Withdraws = 133

-- The digest of an index packet.
abbrev pub IndexDigest : ℕ
IndexDigest = 135
