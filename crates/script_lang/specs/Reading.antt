-- Reading a line word by word: the words still to be read, and what each call reads of them.
use Rattle.std.specs.Prelude.{◌≡◌, ℕ, Bool, true, List, [], ◌∷◌, Result, Ok, Err, if◌then◌else◌}
use Rattle.script_lang.specs.declared.line.Line.{Line}
use Rattle.script_lang.specs.declared.verb.Verb.{Verb}
use Rattle.script_lang.specs.declared.line_fault.LineFault.{LineFault}
use Rattle.script_lang.specs.declared.line_fault.LineFault.TheVariants.{Syntax, Limit, NoMemory}
use Rattle.script_lang.specs.Kinds.{Kind, Value}
use Rattle.script_lang.specs.Forms.{form, stated}
use Rattle.script_lang.specs.Lines.{values_of, with_value, without_value}

-- The fault that a call returns is that of `read`, which a definition gives, or `NoMemory`.
abbrev pub IsReadFault : {A : Type 0} → LineFault → Result A LineFault → Type 0
IsReadFault NoMemory read = Unit {0}
IsReadFault Syntax read = read ≡ Err Syntax
IsReadFault Limit read = read ≡ Err Limit

-- `view` of the value that a call returns is the value of `read`. Its fault is that of `read`, or `NoMemory`.
abbrev pub Gives : {X A : Type 0} → (X → A) → Result X LineFault → Result A LineFault → Type 0
Gives view (Ok x) read = read ≡ Ok (view x)
Gives view (Err fault) read = IsReadFault fault read

-- The words still to be read, and whether a word before them was out of range.
pub record Unread : Type 0 where
  pub over : Bool
  pub words : List (List ℕ)

-- What the words still to be read give as words of `kinds`: their values or their fault. After a word out of range it
-- is their fault, or `Limit` if they have none.
abbrev pub left_of : List Kind → Unread → Result (List Value) LineFault
left_of kinds unread =
    if unread.over then without_value (values_of kinds unread.words)
    else values_of kinds unread.words

-- A call reads the first of the words `before` as one of `kind`, and leaves the words `after`. Whatever the kinds of
-- those, `before` gives the value of the call in front of what `after` gives. If the call fails, its fault is the one
-- that `before` gives, or `NoMemory`.
abbrev pub ReadsWord : {X : Type 0} → (X → Value) → Kind → Unread → Unread → Result X LineFault → Type 0
ReadsWord view kind before after (Ok x) =
    (kinds : List Kind)
    → left_of (kind ∷ kinds) before ≡ with_value (view x) (left_of kinds after)
ReadsWord view kind before after (Err fault) =
    (kinds : List Kind) → IsReadFault fault (left_of (kind ∷ kinds) before)

-- The result of a call for a word that was read: its value or its fault. For a value out of range it is the placeholder
-- `instead`, and `over` becomes true.
abbrev pub KeepsValue : {X : Type 0} → X → Result X LineFault → Unread → Unread → Result X LineFault → Type 0
KeepsValue instead (Ok x) before after result = (result ≡ Ok x) × (after ≡ before)
KeepsValue instead (Err Limit) before after result =
    (result ≡ Ok instead) × (after ≡ record { over = true; words = before.words })
KeepsValue instead (Err Syntax) before after result = result ≡ Err Syntax
KeepsValue instead (Err NoMemory) before after result = result ≡ Err NoMemory

-- `values` in front of the values of the words after them, or the fault of those words.
abbrev pub with_all : List Value → Result (List Value) LineFault → Result (List Value) LineFault
with_all [] others = others
with_all (value ∷ values) others = with_value value (with_all values others)

-- A call reads the words `before` as those of the form of `verb`, and leaves the words `after`. Its line has that verb,
-- and `before` gives the line's values in front of what `after` gives as words of no kind. If the call fails, its fault
-- is the one that `before` gives, or `NoMemory`.
abbrev pub ReadsForm : Verb → Unread → Unread → Result Line LineFault → Type 0
ReadsForm verb before after (Ok x) =
    ((stated x).verb ≡ verb)
    × (left_of (form verb).kinds before ≡ with_all (stated x).values (left_of [] after))
ReadsForm verb before after (Err fault) = IsReadFault fault (left_of (form verb).kinds before)
