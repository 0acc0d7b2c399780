-- The line that octets are: its verb and the values of its words, or nothing for a blank line or a comment, or why they
-- are no line. A line that is too long is reported first, then a syntax error, then what is out of range.
use Rattle.std.specs.Prelude.{ℕ, ◌-◌, ◌*◌, Bool, true, false, not, ◌&&◌, List, [], ◌∷◌, length, take, map, Option, Some}
use Rattle.std.specs.Prelude.{None}
use Rattle.std.specs.Prelude.{Result, Ok, Err, nat_le, nat_lt, ◌==◌, if◌then◌else◌, filter, slice_index}
use Rattle.std.specs.List.{list_all, slice_split, find}
use Rattle.std.specs.Str.{bytes_eq}
use Rattle.script_lang.specs.declared.verb.Verb.{Verb}
use Rattle.script_lang.specs.declared.verb.Verb.TheVariants.{Group, Member, Client, Mirror, Publish, Withdraw}
use Rattle.script_lang.specs.declared.verb.Verb.TheVariants.{Deliver, Sync, Advance, Fire, Restart, Vector, Catalogue}
use Rattle.script_lang.specs.declared.verb.Verb.TheVariants.{Claim, Lose, Answer, Fetch, Settle, Dump, Hear, Order, Ask}
use Rattle.script_lang.specs.declared.verb.Verb.TheVariants.{Feed, Insert, Block, Status, Delete, Watch, Told, Mdeliver}
use Rattle.script_lang.specs.declared.verb.Verb.TheVariants.{Mfetch, Mcatalogue, Summary, Traffic}
use Rattle.script_lang.specs.declared.line_fault.LineFault.{LineFault}
use Rattle.script_lang.specs.declared.line_fault.LineFault.TheVariants.{Syntax, Limit, NoMemory}
use Rattle.script_lang.specs.Limits.{line_octets, segments_limit, blocks_limit}
use Rattle.script_lang.specs.Kinds.{Kind, Value, Number, Octets, word_of}
use Rattle.script_lang.specs.Forms.{Stated, form, statement}

-- ---- the words by their kinds

-- `value` in front of the values of the words after it, or the fault of those words.
abbrev pub with_value : Value → Result (List Value) LineFault → Result (List Value) LineFault
with_value value (Ok values) = Ok (value ∷ values)
with_value value (Err fault) = Err fault

-- The fault of a line from a word out of range on: the fault of the words after it, or `Limit` if they have none.
abbrev pub without_value : Result (List Value) LineFault → Result (List Value) LineFault
without_value (Ok values) = Err Limit
without_value (Err fault) = Err fault

-- The values of a word and of the words after it, or their fault. A word's `Limit` yields to a fault after it.
abbrev pub word_then : Result Value LineFault → Result (List Value) LineFault
    → Result (List Value) LineFault
word_then (Ok value) others = with_value value others
word_then (Err Limit) others = without_value others
word_then (Err Syntax) others = Err Syntax
word_then (Err NoMemory) others = Err NoMemory

-- The values of words of these kinds.
unfoldable pub values_of : List Kind → List (List ℕ) → Result (List Value) LineFault
values_of [] [] = Ok []
values_of [] (word ∷ words) = Err Syntax
values_of (kind ∷ kinds) [] = Err Syntax
values_of (kind ∷ kinds) (word ∷ words) = word_then (word_of kind word) (values_of kinds words)

-- ---- the line

-- The values are within the limits across words: a publication has at most 20,000 segments, and an insertion has 1 to
-- 200 blocks. Other lines have no such limit.
abbrev pub are_within : Verb → List Value → Bool
are_within Group values = true
are_within Member values = true
are_within Client values = true
are_within Mirror values = true
are_within Publish (m ∷ name ∷ Number size ∷ Octets content ∷ []) =
    nat_le (length content) (segments_limit * size)
are_within Publish _ = false
are_within Withdraw values = true
are_within Deliver values = true
are_within Sync values = true
are_within Advance values = true
are_within Fire values = true
are_within Restart values = true
are_within Vector values = true
are_within Catalogue values = true
are_within Claim values = true
are_within Lose values = true
are_within Answer values = true
are_within Fetch values = true
are_within Settle values = true
are_within Dump values = true
are_within Hear values = true
are_within Order values = true
are_within Ask values = true
are_within Feed values = true
are_within Insert (m ∷ client ∷ name ∷ Number first ∷ Number last ∷ []) =
    nat_le first last && nat_lt (last - first) blocks_limit
are_within Insert _ = false
are_within Block values = true
are_within Status values = true
are_within Delete values = true
are_within Watch values = true
are_within Told values = true
are_within Mdeliver values = true
are_within Mfetch values = true
are_within Mcatalogue values = true
are_within Summary values = true
are_within Traffic values = true

-- The line with this verb and these values, or `Limit` if they aren't within the limits across words (`are_within`).
abbrev pub stated_of : Verb → Result (List Value) LineFault → Result Stated LineFault
stated_of verb (Ok values) =
    if are_within verb values then Ok (statement verb values) else Err Limit
stated_of verb (Err fault) = Err fault

-- The verb of the first row whose word is `word`.
unfoldable pub verb_named : List (List ℕ × Verb) → List ℕ → Option Verb
verb_named [] word = None
verb_named (first ∷ others) word = if bytes_eq first.0 word then Some first.1 else verb_named others word

-- All forms.
abbrev pub verbs : List Verb
verbs =
    Group ∷ Member ∷ Client ∷ Mirror ∷ Publish ∷ Withdraw ∷ Deliver ∷ Sync ∷ Advance ∷ Fire ∷ Restart
    ∷ Vector ∷ Catalogue ∷ Claim ∷ Lose ∷ Answer ∷ Fetch ∷ Settle ∷ Dump ∷ Hear ∷ Order ∷ Ask ∷ Feed
    ∷ Insert ∷ Block ∷ Status ∷ Delete ∷ Watch ∷ Told ∷ Mdeliver ∷ Mfetch ∷ Mcatalogue ∷ Summary ∷ Traffic ∷ []

-- Each form with its first word.
abbrev pub first_words : List (List ℕ × Verb)
first_words = map (λ verb. ((form verb).word, verb)) verbs

-- The verb that a word is, if it is one.
abbrev pub verb_of_word : List ℕ → Option Verb
verb_of_word word = verb_named first_words word

-- The line of a verb and these words after it, or its fault. Without a verb it is `Syntax`.
abbrev pub line_by : List (List ℕ) → Option Verb → Result Stated LineFault
line_by words None = Err Syntax
line_by words (Some verb) = stated_of verb (values_of (form verb).kinds words)

-- The line of these words.
abbrev pub line_in_words : List (List ℕ) → Result Stated LineFault
line_in_words [] = Err Syntax
line_in_words (verb ∷ words) = line_by words (verb_of_word verb)

-- Words are separated by one or more spaces.
abbrev pub spaced_words : List ℕ → List (List ℕ)
spaced_words octets =
    filter (λ word. not (length word == 0)) (slice_split (λ octet. octet == 32) octets)

-- The first octet of a line that isn't a space is `#`, or there is none.
abbrev pub is_mark : Option ℕ → Bool
is_mark None = true
is_mark (Some octet) = octet == 35

-- An empty line, spaces alone, or a comment.
abbrev pub says_nothing : List ℕ → Bool
says_nothing octets = is_mark (find (λ octet. not (octet == 32)) octets)

-- A printable octet of ASCII.
abbrev pub is_printable : ℕ → Bool
is_printable octet = nat_le 32 octet && nat_le octet 126

-- The result for a line that is neither blank nor a comment.
abbrev pub mapped_line : Result Stated LineFault → Result (Option Stated) LineFault
mapped_line (Ok s) = Ok (Some s)
mapped_line (Err fault) = Err fault

-- The line that octets without a line's end are, `None` for a blank line or a comment, or the fault.
abbrev pub line_in : List ℕ → Result (Option Stated) LineFault
line_in octets =
    if says_nothing octets then Ok None
    else if list_all is_printable octets then mapped_line (line_in_words (spaced_words octets))
    else Err Syntax

-- The line that `body` is, or `Limit` if `octets`, the line without its line feed, are more than 32,768.
abbrev pub line_within : List ℕ → List ℕ → Result (Option Stated) LineFault
line_within octets body = if nat_le (length octets) line_octets then line_in body else Err Limit

-- The octets end with this one.
abbrev pub ends_with : ℕ → List ℕ → Bool
ends_with octet octets =
    not (length octets == 0) && slice_index octets (length octets - 1) == octet

-- The octets except the last.
abbrev pub without_last_octet : List ℕ → List ℕ
without_last_octet octets = take (length octets - 1) octets

-- The octets except a carriage return at their end.
abbrev pub without_return : List ℕ → List ℕ
without_return octets = if ends_with 13 octets then without_last_octet octets else octets

-- The line that octets are, which end with their line feed or with the input. One carriage return
-- right before the line feed is dropped.
abbrev pub line_of : List ℕ → Result (Option Stated) LineFault
line_of octets =
    if ends_with 10 octets then line_within (without_last_octet octets) (without_return (without_last_octet octets))
    else line_within octets octets
