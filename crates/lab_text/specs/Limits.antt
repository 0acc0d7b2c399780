-- The limits of an input of the lab.
use Rattle.std.specs.Prelude.{ℕ}

-- The most lines of an input, notes among them.
abbrev pub most_lines : ℕ
most_lines = 1000000

-- The most octets of an input, notes among them.
abbrev pub most_octets : ℕ
most_octets = 300000000
