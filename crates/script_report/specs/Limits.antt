-- The limit of a report.
use Rattle.std.specs.Prelude.{ℕ}

-- The most octets that the lines of a report have together, a line `refused` or `foreign` not counted.
abbrev pub report_octets : ℕ
report_octets = 268435456
