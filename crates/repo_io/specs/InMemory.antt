-- A source and a sink in memory, as contracts see them, and what a call does to them.
use Rattle.std.specs.Prelude.{◌≡◌, ◌↔◌, ℕ, ◌+◌, min, Bool, IsTrue, List, ◌++◌, length, take, drop, if◌then◌else◌, ◌==◌}
use Rattle.std.specs.Prelude.{Result, IfOk, IsErr, OnOk, OnErr}
use Rattle.std.specs.List.{list_any}

-- The octets that are left, how many a call gives at most, the numbers of the calls that fail, how many calls there
-- were, and how many failed.
pub record Supply : Type 0 where
  pub left : List ℕ
  pub piece : ℕ
  pub fails : List ℕ
  pub calls : ℕ
  pub faults : ℕ

-- The octets that were taken, how many a call takes at most, the numbers of the calls that fail, how many calls there
-- were, and how many failed.
pub record Store : Type 0 where
  pub out : List ℕ
  pub piece : ℕ
  pub fails : List ℕ
  pub calls : ℕ
  pub faults : ℕ

-- A reader or a writer, and how many calls of it failed.
pub record Counted (X : Type 0) : Type 0 where
  pub inner : X
  pub faults : ℕ

-- One more. A count stays at the greatest number that 64 bits hold.
abbrev pub one_more : ℕ → ℕ
one_more count = min (count + 1) 18446744073709551615

-- Calls are numbered from 1. Whether the next one is among those that fail.
abbrev pub is_listed : List ℕ → ℕ → Bool
is_listed fails calls = list_any (λ call. call == one_more calls) fails

-- How many octets a call gives to so much room.
abbrev pub given : Supply → ℕ → ℕ
given s room = min (min (length s.left) s.piece) room

-- What is left after a call with so much room. A call that failed gave nothing.
abbrev pub after_read : Supply → ℕ → Supply
after_read s room =
    if is_listed s.fails s.calls then record s { calls = one_more s.calls; faults = one_more s.faults }
    else record s { left = drop (given s room) s.left; calls = one_more s.calls }

-- A call that failed took nothing.
abbrev pub after_failed : Store → Store
after_failed k = record k { calls = one_more k.calls; faults = one_more k.faults }

-- What is there after a call that took the start of the piece.
abbrev pub after_write : Store → List ℕ → Store
after_write k piece = record k { out = k.out ++ take k.piece piece; calls = one_more k.calls }

-- What a call of a source with so much room does. It fails where it is listed, and there alone. Else it gives as much
-- as it can.
pub record IsSourceCall {E : Type 0} (old new : Supply) (room : ℕ) (result : Result ℕ E) : Type 0 where
  pub listed : IsErr result ↔ IsTrue (is_listed old.fails old.calls)
  pub given : IfOk result (λ n. n ≡ given old room)
  pub after : new ≡ after_read old room

-- What a call of a sink does. It fails where it is listed. Where it doesn't fail it takes as much of the piece as it
-- can.
pub record IsSinkCall {E : Type 0} (old new : Store) (piece : List ℕ) (result : Result ℕ E) : Type 0 where
  pub listed : IsTrue (is_listed old.fails old.calls) → IsErr result
  pub took : IfOk result (λ n. n ≡ min (length piece) old.piece)
  pub ok : OnOk result (new ≡ after_write old piece)
  pub err : OnErr result (new ≡ after_failed old)
