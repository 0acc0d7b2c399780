-- Where a line that is refused is wrong: in its length, in an octet or in its first word; at the first other word that
-- has the line's fault as one of its kind; where a word is missing; in surplus words; or in its words together.
use Rattle.std.specs.Prelude.{ℕ, ◌+◌, Bool, true, false, List, [], ◌∷◌, length, Option, Some, None, Result, Err}
use Rattle.std.specs.Prelude.{nat_le, if◌then◌else◌}
use Rattle.std.specs.List.{list_all}
use Rattle.script_lang.specs.declared.line_fault.LineFault.{LineFault}
use Rattle.script_lang.specs.declared.line_fault.LineFault.TheVariants.{Syntax, Limit}
use Rattle.script_lang.specs.declared.verb.Verb.{Verb}
use Rattle.script_lang.specs.declared.wrong.Wrong.{Wrong}
use Rattle.script_lang.specs.declared.wrong.Wrong.TheVariants as wrong
use Rattle.script_lang.specs.Limits.{line_octets}
use Rattle.script_lang.specs.Kinds.{Kind, Value, word_of}
use Rattle.script_lang.specs.Forms.{form}
use Rattle.script_lang.specs.Lines.{ends_with, is_printable, spaced_words, verb_of_word, without_last_octet}
use Rattle.script_lang.specs.Lines.{without_return}

-- The reading of a word, `read`, is this fault, which is `Syntax` or `Limit`.
abbrev pub is_refused : LineFault → Result Value LineFault → Bool
is_refused Syntax (Err Syntax) = true
is_refused Limit (Err Limit) = true
is_refused fault read = false

-- Where a line is wrong in its `words` from `place` on, of which each is read as the kind beside it.
unfoldable pub wrong_from : LineFault → Verb → ℕ → List Kind → List (List ℕ) → Wrong
wrong_from fault verb place [] [] = wrong.Together verb
wrong_from fault verb place [] (word ∷ words) = wrong.Surplus verb (length (word ∷ words))
wrong_from fault verb place (kind ∷ kinds) [] = wrong.Missing verb place
wrong_from fault verb place (kind ∷ kinds) (word ∷ words) =
    if is_refused fault (word_of kind word) then wrong.Word verb place
    else wrong_from fault verb (place + 1) kinds words

-- Where the line of a verb and these words after it is wrong: in its first word, if that is no verb.
abbrev pub wrong_by : LineFault → List (List ℕ) → Option Verb → Wrong
wrong_by fault words None = wrong.FirstWord
wrong_by fault words (Some verb) = wrong_from fault verb 0 (form verb).kinds words

-- Where the line of these words is wrong.
abbrev pub wrong_in_words : LineFault → List (List ℕ) → Wrong
wrong_in_words fault [] = wrong.FirstWord
wrong_in_words fault (verb ∷ words) = wrong_by fault words (verb_of_word verb)

-- Where a line without its end is wrong.
abbrev pub wrong_in : LineFault → List ℕ → Wrong
wrong_in fault body =
    if list_all is_printable body then wrong_in_words fault (spaced_words body) else wrong.Octet

-- Where a line is wrong: in its length, if `octets`, the line without its line feed, are too many, else in `body`.
abbrev pub wrong_within : LineFault → List ℕ → List ℕ → Wrong
wrong_within fault octets body =
    if nat_le (length octets) line_octets then wrong_in fault body else wrong.Length

-- Where the line of `octets` is wrong, if it is refused with this fault.
abbrev pub wrong_of : LineFault → List ℕ → Wrong
wrong_of fault octets =
    if ends_with 10 octets
    then wrong_within fault (without_last_octet octets) (without_return (without_last_octet octets))
    else wrong_within fault octets octets
