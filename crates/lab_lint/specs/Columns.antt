-- Where the words of a line stand.
use Rattle.std.specs.Prelude.{ℕ, zero, suc, ◌+◌, ◌-◌, ◌==◌, Option, Some, None, List, [], ◌∷◌, length, not, position}
use Rattle.std.specs.Prelude.{take}
use Rattle.std.specs.Prelude.{if◌then◌else◌}
use Rattle.script_lang.specs.Lines.{ends_with, is_printable, without_last_octet, without_return}
use Rattle.lab_text.specs.Notes.{after_spaces}

-- A line without its line feed and the carriage return before it.
abbrev pub body_of : List ℕ → List ℕ
body_of line = if ends_with 10 line then without_return (without_last_octet line) else line

-- What stands after the word with which octets begin: from the first space on.
unfoldable pub after_word : List ℕ → List ℕ
after_word [] = []
after_word (octet ∷ octets) = if octet == 32 then octet ∷ octets else after_word octets

-- The word with which octets begin.
abbrev pub first_word : List ℕ → List ℕ
first_word octets = take (length octets - length (after_word octets)) octets

-- `octets`, which begin with a word, without their first `count` words and the spaces after each of them.
unfoldable pub words_on : ℕ → List ℕ → List ℕ
words_on zero octets = octets
words_on (suc count) octets = words_on count (after_spaces (after_word octets))

-- A line from its first word on, which is its verb.
abbrev pub from_verb : List ℕ → List ℕ
from_verb body = after_spaces body

-- A line from the word at the place `place` on. Places count the words after the verb, from 0.
abbrev pub from_place : ℕ → List ℕ → List ℕ
from_place place body = words_on place (after_spaces (after_word (from_verb body)))

-- The column, counted from 1, of the first octet of `rest`, with which the line `body` ends. Where `rest` is empty, it
-- is the one past the end of the line.
abbrev pub column_of : List ℕ → List ℕ → ℕ
column_of body rest = length body + 1 - length rest

-- The column of an octet that stands after `before` others; 1 where no number is given.
abbrev pub column_after : Option ℕ → ℕ
column_after None = 1
column_after (Some before) = before + 1

-- The column of the first octet that is not printable.
abbrev pub unprintable_column : List ℕ → ℕ
unprintable_column body = column_after (position (λ octet. not (is_printable octet)) body)
