-- How texts are written: all of a text or nothing.
use Rattle.std.specs.Prelude.{◌≡◌, ℕ, List, ◌++◌, length, take, Result, Ok, Err}
use Rattle.std.specs.declared.alloc.AllocError.{AllocError}

-- The text stands after what was there; or, where memory ran out, nothing changed.
abbrev pub Appends : List ℕ → List ℕ → List ℕ → Result (Unit {0}) AllocError → Type 0
Appends text old new (Ok x) = new ≡ old ++ text
Appends text old new (Err e) = new ≡ old

-- What was there is a prefix still.
pub record KeepsPrefix (old new : List ℕ) : Type 0 where
  pub prefix : take (length old) new ≡ old
