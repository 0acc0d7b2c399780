-- What the seats of a phase know at the end, and the result of an item.
use Rattle.std.specs.Prelude.{◌≡◌, ℕ, ◌+◌, ◌<◌, [], Option, Some, None}
use Rattle.fetch_board.specs.Counts.{items, pairs, triples, Has}
use Rattle.fetch_board.specs.Seats.{BoardTerms, SeatData, IsSeatOf}

module _ {T : Type 0} where
  -- The seat holds and owes nothing, has passed every item, and knows the results of its attempts.
  pub record Knows (packet_at : ℕ → ℕ → Option T) (count : ℕ) (v : SeatData T) : Type 0 where
    pub holds : v.held ≡ []
    pub owes : v.owed ≡ []
    pub passed : (i : ℕ) → i < count → 0 < items i v.passed
    pub brought : (i a : ℕ) (x : T) → Has (i, a, x) v.done → packet_at i a ≡ Some x
    pub missed : (i a : ℕ) → 0 < pairs i a v.tried → triples i a v.done ≡ 0 → packet_at i a ≡ None

  -- The seat of a worker that has done its work.
  pub record HasWorked (packet_at : ℕ → ℕ → Option T) (count : ℕ) (board : BoardTerms) (v : SeatData T) : Type 0 where
    pub seat : IsSeatOf board v
    pub share : v.shares ≡ 1
    pub knows : Knows packet_at count v

-- The result of an item that has `tries` tries, where attempt `a` has the result `f a`. It is that of the first attempt
-- that has one, and the number of attempts up to that one. Or it is none, and the number is that of the tries.
abbrev pub IsFirst : {T : Type 0} → (ℕ → Option T) → ℕ → Option T → ℕ → Type 0
IsFirst f tries (Some x) n = (a : ℕ) × (a < tries) × (n ≡ a + 1) × (f a ≡ Some x) × ((b : ℕ) → b < a → f b ≡ None)
IsFirst f tries None n = (n ≡ tries) × ((b : ℕ) → b < tries → f b ≡ None)
