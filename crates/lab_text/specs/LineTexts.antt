-- The lines of octets as texts, and lines made of texts.
use Rattle.std.specs.Prelude.{ℕ, Bool, not, List, [], ◌∷◌, ◌++◌, map, if◌then◌else◌}
use Rattle.std.specs.List.{flat_map, list_all}
use Rattle.repo_io.specs.Lines.{has_feed, lines}
use Rattle.script_lang.specs.Lines.{ends_with, without_last_octet}

-- A line without the line feed that ends it.
abbrev pub without_feed : List ℕ → List ℕ
without_feed line = if ends_with 10 line then without_last_octet line else line

-- No octet but the last is a line feed.
abbrev pub is_one_line : List ℕ → Bool
is_one_line line = not (has_feed (without_feed line))

-- Each is one line at most.
abbrev pub are_one_line_each : List (List ℕ) → Bool
are_one_line_each lines = list_all is_one_line lines

-- The lines of octets, each without its line feed.
abbrev pub line_texts : List ℕ → List (List ℕ)
line_texts octets = map without_feed (lines octets)

-- A text after a mark, with a line feed.
abbrev pub marked_line : List ℕ → List ℕ → List ℕ
marked_line mark text = mark ++ (text ++ 10 ∷ [])

-- Each text after a mark, on a line of its own.
abbrev pub marked_lines : List ℕ → List (List ℕ) → List ℕ
marked_lines mark texts = flat_map (marked_line mark) texts
