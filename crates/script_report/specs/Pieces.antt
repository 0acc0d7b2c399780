-- How lines are written: all of a text or nothing, piece by piece.
use Rattle.std.specs.Prelude.{◌≡◌, ℕ, List, [], ◌∷◌, ◌++◌, length, take, map, Result, Ok, Err}
use Rattle.std.specs.Fmt.{decimal}
use Rattle.std.specs.List.{flat_map}
use Rattle.std.specs.String.{string_bytes}
use Rattle.std.specs.declared.alloc.AllocError.{AllocError}
use Rattle.hex.specs.Hex.{encode_lower}
use Rattle.ndn_name.specs.Uri.{uri}
use Rattle.script_report.specs.declared.piece.Piece.{Piece}
use Rattle.script_report.specs.declared.piece.Piece.TheVariants.{Word, Number, Hex, Uri, Field, Counts}
use Rattle.script_report.specs.Texts.{field, labelled_numbers}

-- The text is appended; or, where memory ran out, nothing is changed.
abbrev pub Appends : List ℕ → List ℕ → List ℕ → Result (Unit {0}) AllocError → Type 0
Appends text old new (Ok x) = new ≡ old ++ text
Appends text old new (Err e) = new ≡ old

-- The new octets begin with the old ones.
pub record KeepsPrefix (old new : List ℕ) : Type 0 where
  pub prefix : take (length old) new ≡ old

-- The words of a piece.
abbrev pub words_of : Piece → List (List ℕ)
words_of (Word text) = text.now ∷ []
words_of (Number n) = decimal n ∷ []
words_of (Hex octets) = encode_lower octets.now ∷ []
words_of (Uri name) = uri name.now ∷ []
words_of (Field word n) = field word.now n
words_of (Counts labels numbers) = labelled_numbers (map string_bytes labels.now) numbers.now

-- The words of pieces, in order.
abbrev pub words_in : List Piece → List (List ℕ)
words_in pieces = flat_map words_of pieces
