-- Words that are read one after another.
use Rattle.std.proofs.Common.{◌≡◌, ℕ, Bool, true, false, List, [], ◌∷◌, Result, Ok, Err, refl, if◌then◌else◌}
use Rattle.script_lang.specs.declared.line_fault.LineFault.{LineFault}
use Rattle.script_lang.specs.declared.line_fault.LineFault.TheVariants.{Syntax, Limit, NoMemory}
use Rattle.script_lang.specs.Kinds.{Kind, Value, word_of}
use Rattle.script_lang.specs.Lines.{with_value, without_value, values_of, stated_of}
use Rattle.script_lang.specs.Reading.{Gives, IsReadFault, Unread, left_of, KeepsValue, ReadsWord, with_all}
use Rattle.script_lang.specs.declared.verb.Verb.{Verb}

-- the words still to be read, and whether a word before them was out of range
abbrev pub at : Bool → List (List ℕ) → Unread
at over words = record { over = over; words = words }

pub took_value : (over : Bool) (kind : Kind) (kinds : List Kind) (word : List ℕ) (words : List (List ℕ))
    (value : Value) → word_of kind word ≡ Ok value → left_of (kind ∷ kinds)
    (at over (word ∷ words)) ≡ with_value value (left_of kinds (at over words))
unfolding values_of
took_value true kind kinds word words value h = rw h (go (values_of kinds words)) where
  go : (others : Result (List Value) LineFault)
      → without_value (with_value value others) ≡ with_value value (without_value others)
  go (Ok values) = refl
  go (Err fault) = refl
took_value false kind kinds word words value h = rw h refl

pub took_limit : (over : Bool) (kind : Kind) (kinds : List Kind) (word : List ℕ) (words : List (List ℕ))
    (value : Value) → word_of kind word ≡ Err Limit → left_of (kind ∷ kinds)
    (at over (word ∷ words)) ≡ with_value value (left_of kinds (at true words))
unfolding values_of
took_limit over kind kinds word words value h = rw h (go over (values_of kinds words)) where
  go : (over : Bool) (others : Result (List Value) LineFault)
      → (if over then without_value (without_value others) else without_value others) ≡ with_value value
      (without_value others)
  go true (Ok values) = refl
  go true (Err fault) = refl
  go false (Ok values) = refl
  go false (Err fault) = refl

pub took_syntax : (over : Bool) (kind : Kind) (kinds : List Kind) (word : List ℕ) (words : List (List ℕ))
    → word_of kind word ≡ Err Syntax → left_of (kind ∷ kinds) (at over (word ∷ words)) ≡ Err Syntax
unfolding values_of
took_syntax true kind kinds word words h = rw h refl
took_syntax false kind kinds word words h = rw h refl

pub took_none : (over : Bool) (kind : Kind) (kinds : List Kind) → left_of (kind ∷ kinds) (at over []) ≡ Err Syntax
unfolding values_of
took_none true kind kinds = refl
took_none false kind kinds = refl

-- a call reads a word and returns its value, or a placeholder for a value out of range
pub reads : {X : Type 0} (view : X → Value) (kind : Kind) (word : List ℕ)
    (before between after : Unread) (instead : X)
    (read result : Result X LineFault) → before ≡ at between.over
    (word ∷ between.words) → Gives view read (word_of kind word) → KeepsValue instead read between after
    result → ReadsWord view kind before after result
reads view kind word before between after instead (Ok x) result at_word gives keeps =
    rw (keeps.0, keeps.1, at_word) (λ kinds. took_value between.over kind kinds word between.words (view x) gives)
reads view kind word before between after instead (Err Limit) result at_word gives keeps =
    rw (keeps.0, keeps.1, at_word) (λ kinds. took_limit between.over kind kinds word between.words
    (view instead) gives)
reads view kind word before between after instead (Err Syntax) result at_word gives keeps =
    rw (keeps, at_word) (λ kinds. took_syntax between.over kind kinds word between.words gives)
reads view kind word before between after instead (Err NoMemory) result at_word gives keeps =
    rw keeps (λ kinds. tt)

all_fault : (values : List Value) (fault : LineFault) → with_all values (Err fault) ≡ Err fault
all_fault [] fault = refl
all_fault (value ∷ values) fault = rw (all_fault values fault) refl

-- the fault after the last word is the line's
pub reported_at_end : (fault : LineFault) (verb : Verb) (values : List Value)
    (read after : Result (List Value) LineFault) → read ≡ with_all values after → IsReadFault fault after →
    IsReadFault fault (stated_of verb read)
reported_at_end Syntax verb values read after h tells = rw (h, tells, all_fault values Syntax) refl
reported_at_end Limit verb values read after h tells = rw (h, tells, all_fault values Limit) refl
reported_at_end NoMemory verb values read after h tells = tt
