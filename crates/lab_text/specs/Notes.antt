-- The notes of a script: lines that the lab writes and reads. To `ndnrepo` they are comments.
use Rattle.std.specs.Prelude.{ℕ, Bool, false, not, ◌&&◌, ◌||◌, ◌==◌, List, [], ◌∷◌, ◌++◌, drop, if◌then◌else◌}
use Rattle.std.specs.List.{filter}
use Rattle.lab_text.specs.LineTexts.{without_feed}

-- What stands after the spaces with which octets begin.
unfoldable pub after_spaces : List ℕ → List ℕ
after_spaces [] = []
after_spaces (octet ∷ octets) = if octet == 32 then after_spaces octets else octet ∷ octets

-- The first two octets are `#` and this one.
abbrev pub is_marked : ℕ → List ℕ → Bool
is_marked mark [] = false
is_marked mark (first ∷ []) = false
is_marked mark (first ∷ second ∷ others) = (first == 35) && (second == mark)

-- `#>` marks a line of a report.
abbrev pub is_report_note : List ℕ → Bool
is_report_note line = is_marked 62 (after_spaces line)

-- `#=` marks the state of a member or of a mirror.
abbrev pub is_state_note : List ℕ → Bool
is_state_note line = is_marked 61 (after_spaces line)

-- A line is a note: a report or a state.
abbrev pub is_note : List ℕ → Bool
is_note line = is_report_note line || is_state_note line

-- The lines of the script itself.
abbrev pub without_notes : List (List ℕ) → List (List ℕ)
without_notes lines = filter (λ line. not (is_note line)) lines

-- ---- what a note says

-- Octets without the space with which they begin.
abbrev pub after_one_space : List ℕ → List ℕ
after_one_space [] = []
after_one_space (octet ∷ octets) = if octet == 32 then octets else octet ∷ octets

-- What a note says after its mark and one space. A carriage return at its end belongs to it.
abbrev pub note_text : List ℕ → List ℕ
note_text note = after_one_space (drop 2 (after_spaces (without_feed note)))

-- The same as a line.
abbrev pub note_line : List ℕ → List ℕ
note_line note = note_text note ++ 10 ∷ []
