-- The octets that a reader holds, and what stands at their start.
use Rattle.std.specs.Prelude.{◌≡◌, ◌<◌, ◌≤◌, ◌⊎◌, ℕ, false, List, length, take, slice_range}
use Rattle.script_lang.specs.Limits.{line_octets}
use Rattle.script_lines.specs.declared.line_reader.Next.{Next}
use Rattle.script_lines.specs.declared.line_reader.Next.TheVariants.{Line, Last}
use Rattle.repo_io.specs.Lines.{IsWhole, has_feed}

-- The octets begin a line that is too long, whatever follows them.
pub record IsTooLong (octets : List ℕ) : Type 0 where
  pub free : has_feed octets ≡ false
  pub long : line_octets < length octets

-- The octets held have no line feed and are not too long for a line: a line isn't whole yet, or is the last one.
pub record LineIsBegun (held : List ℕ) : Type 0 where
  pub free : has_feed held ≡ false
  pub short : length held ≤ line_octets

-- The first `count` octets held are a line, or all that are held, `count` octets, are too long for one.
pub record HasLine (count : ℕ) (held : List ℕ) : Type 0 where
  pub within : count ≤ length held
  pub line : IsWhole (take count held) ⊎ (IsTooLong held × (count ≡ length held))

-- What `next` finds at the start of the octets held: a line of `count` octets, or no whole line.
abbrev pub IsNext : List ℕ → Next → Type 0
IsNext held (Line count) = HasLine count held
IsNext held Last = LineIsBegun held

-- The octets held are those of `room` from `start` to `end`, and there is no line feed from `start` to `searched`.
pub record IsReader (room : List ℕ) (start end searched : ℕ) : Type 0 where
  pub size : length room ≡ 65536
  pub low : start ≤ searched
  pub high : searched ≤ end
  pub within : end ≤ 65536
  pub free : has_feed (slice_range room start searched) ≡ false
