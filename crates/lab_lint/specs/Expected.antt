-- What is expected where a line is wrong: by verb and place, what the word is called, its kind and its range, and the
-- form of the line.
use Rattle.std.specs.Prelude.{ℕ, ◌+◌, ◌==◌, Option, Some, None, List, [], ◌∷◌, ◌++◌, length, codes, decimal, slice_get}
use Rattle.std.specs.Prelude.{if◌then◌else◌}
use Rattle.std.specs.List.{flat_map}
use Rattle.script_lang.specs.Limits.{line_octets, segments_limit, blocks_limit}
use Rattle.script_lang.specs.declared.line_fault.LineFault.{LineFault}
use Rattle.script_lang.specs.declared.line_fault.LineFault.TheVariants.{Syntax, Limit, NoMemory}
use Rattle.script_lang.specs.declared.verb.Verb.{Verb}
use Rattle.script_lang.specs.declared.verb.Verb.TheVariants.{Insert}
use Rattle.script_lang.specs.declared.wrong.Wrong.{Wrong}
use Rattle.script_lang.specs.declared.wrong.Wrong.TheVariants as wrong
use Rattle.script_lang.specs.Kinds.{Kind, LABEL, PUBLISHER, N, URI, HEX, CONTENT}
use Rattle.script_lang.specs.Forms.{form}
use Rattle.script_lang.specs.WordPlaces.{place_names}
use Rattle.lab_lint.specs.Columns.{column_of, from_place, from_verb, unprintable_column, words_on}

-- A name after a space.
abbrev pub spaced_name : List ℕ → List ℕ
spaced_name name = 32 ∷ name

-- The form of a line: its verb, and what its words are called.
abbrev pub form_text : Verb → List ℕ
form_text verb = (form verb).word ++ flat_map spaced_name (place_names verb)

-- What a word of a kind is.
abbrev pub kind_text : Kind → List ℕ
kind_text LABEL = codes " is a lower-case letter and up to 15 lower-case letters or digits"
kind_text PUBLISHER = codes " is a label, or * for every publisher"
kind_text (N least most) = codes " is a number of up to 18 digits"
kind_text (URI least most) = codes " is the URI of a name"
kind_text (HEX most) = codes " is pairs of hexadecimal digits"
kind_text (CONTENT least most) = codes " is text: and octets, hex: and digits, or fill:N:N"

-- The range of a kind. Labels have none.
abbrev pub range_text : Kind → List ℕ
range_text LABEL = kind_text LABEL
range_text PUBLISHER = kind_text PUBLISHER
range_text (N least most) = codes " is " ++ decimal least ++ codes " to " ++ decimal most
range_text (URI least most) = codes " has " ++ decimal least ++ codes " to " ++ decimal most ++ codes " octets"
range_text (HEX most) = codes " has 1 to " ++ decimal most ++ codes " octets"
range_text (CONTENT least most) =
    codes " has " ++ decimal least ++ codes " to " ++ decimal most ++ codes " octets, each 0 to 255"

-- What is expected of a word that has this fault, and the form of its line where it is not in the grammar.
abbrev pub word_text : LineFault → Verb → List ℕ → Kind → List ℕ
word_text Limit verb name kind = name ++ range_text kind
word_text Syntax verb name kind = name ++ kind_text kind ++ codes "; " ++ form_text verb
word_text NoMemory verb name kind = []

-- What is expected of the word at a place of the form that has this name and this kind; the form where it has none.
abbrev pub place_text : LineFault → Verb → Option (List ℕ) → Option Kind → List ℕ
place_text fault verb (Some name) (Some kind) = word_text fault verb name kind
place_text fault verb name kind = form_text verb

-- A word is missing.
abbrev pub missing_text : Verb → Option (List ℕ) → List ℕ
missing_text verb (Some name) = name ++ codes " is missing; " ++ form_text verb
missing_text verb None = form_text verb

-- A line has `count` words too many.
abbrev pub surplus_text : ℕ → List ℕ
surplus_text count =
    if count == 1 then codes " has one word too many; " else codes " has " ++ decimal count ++ codes " words too many; "

-- Words that leave a range together: an insertion's first and last block, or a content and the size of its segments.
abbrev pub together_text : Verb → List ℕ
together_text Insert = codes "FIRST to LAST are 1 to " ++ decimal blocks_limit ++ codes " blocks"
together_text verb = codes "CONTENT has at most " ++ decimal segments_limit ++ codes " segments of SIZE octets"

-- A line from the last word of its form on.
abbrev pub from_last : Verb → List ℕ → List ℕ
from_last verb body = words_on (length (form verb).kinds) (from_verb body)

-- What is expected where a line is wrong.
abbrev pub wrong_text : LineFault → Wrong → List ℕ → List ℕ
wrong_text fault wrong.Length body = codes "a line has at most " ++ decimal line_octets ++ codes " octets"
wrong_text fault wrong.Octet body = codes "an octet is not printable"
wrong_text fault wrong.FirstWord body = codes "no line begins so"
wrong_text fault (wrong.Word verb place) body =
    place_text fault verb (slice_get (place_names verb) place) (slice_get (form verb).kinds place)
wrong_text fault (wrong.Missing verb place) body = missing_text verb (slice_get (place_names verb) place)
wrong_text fault (wrong.Surplus verb count) body = from_last verb body ++ surplus_text count ++ form_text verb
wrong_text fault (wrong.Together verb) body = together_text verb

-- The column of the first octet that is wrong: of the word, or past the end of the line where a word is missing. Where
-- there are words too many, it is the column of the last word of the form.
abbrev pub wrong_column : Wrong → List ℕ → ℕ
wrong_column wrong.Length body = line_octets + 1
wrong_column wrong.Octet body = unprintable_column body
wrong_column wrong.FirstWord body = column_of body (from_verb body)
wrong_column (wrong.Word verb place) body = column_of body (from_place place body)
wrong_column (wrong.Missing verb place) body = column_of body []
wrong_column (wrong.Surplus verb count) body = column_of body (from_last verb body)
wrong_column (wrong.Together verb) body = column_of body (from_last verb body)
