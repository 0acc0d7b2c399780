-- The limits of a script.
use Rattle.std.specs.Prelude.{ℕ}

-- Octets of a script.
abbrev pub script_octets : ℕ
script_octets = 16777216

-- Lines of a script. Blank lines and comments count too.
abbrev pub script_lines : ℕ
script_lines = 100000

-- Octets of a line, with its carriage return and without its line feed.
abbrev pub line_octets : ℕ
line_octets = 32768

-- Members of a group. Its clients have the same limit.
abbrev pub members_limit : ℕ
members_limit = 16

-- Mirrors of a group.
abbrev pub mirrors_limit : ℕ
mirrors_limit = 4

-- Segments of a publication.
abbrev pub segments_limit : ℕ
segments_limit = 20000

-- Segments that a record or an index packet lists.
abbrev pub listed_limit : ℕ
listed_limit = 200

-- The number of the last part of a publication of `segments_limit` segments: the record is part 0, and the index
-- packets stand in front of the segments.
abbrev pub last_part : ℕ
last_part = 20100

-- Blocks of an insertion.
abbrev pub blocks_limit : ℕ
blocks_limit = 200

-- Octets of the contents of all `publish` and `block` lines.
abbrev pub contents_limit : ℕ
contents_limit = 67108864

-- Parts: for each `publish` line the record, the index packets and the segments, and one for each `withdraw`, `insert`,
-- `order` and `block` line.
abbrev pub parts_limit : ℕ
parts_limit = 100000

-- `settle` lines.
abbrev pub settles_limit : ℕ
settles_limit = 1000
