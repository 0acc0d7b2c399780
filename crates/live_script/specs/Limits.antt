-- The limits of a live group's input, beside those of every script.
use Rattle.std.specs.Prelude.{ℕ}

-- The most octets that the contents of all publications have. `live_member` has the limits of their number and of their
-- parts.
abbrev pub live_contents : ℕ
live_contents = 1048576
