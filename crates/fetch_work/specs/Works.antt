-- What a worker's seat knows between its turns.
use Rattle.std.specs.Prelude.{◌≡◌, ℕ, ◌*◌, ◌<◌, ◌≤◌, Bool, true, false, [], length, Option, Some, None}
use Rattle.fetch_board.specs.Counts.{items, pairs, triples, Has}
use Rattle.fetch_board.specs.Seats.{SeatData}

module _ {T : Type 0} where
  -- The seat has no item in any list.
  pub record HasNothing (v : SeatData T) : Type 0 where
    pub held : v.held ≡ []
    pub done : v.done ≡ []
    pub spent : v.spent ≡ []
    pub tried : v.tried ≡ []
    pub owed : v.owed ≡ []
    pub passed : v.passed ≡ []

  -- The seat holds nothing. The attempts that it made are different ones, at items of the board. Each value that it
  -- finished an item with is the result of that attempt, and each other attempt has none.
  pub record Works (packet_at : ℕ → ℕ → Option T) (count tries : ℕ) (v : SeatData T) : Type 0 where
    pub holds : v.held ≡ []
    pub owes : (i : ℕ) → 0 < items i v.owed → i < count
    pub once : (i a : ℕ) → pairs i a v.tried ≤ 1
    pub within : (i a : ℕ) → 0 < pairs i a v.tried → (i < count) × (a < tries)
    pub brought : (i a : ℕ) (x : T) → Has (i, a, x) v.done → packet_at i a ≡ Some x
    pub missed : (i a : ℕ) → 0 < pairs i a v.tried → triples i a v.done ≡ 0 → packet_at i a ≡ None

  -- The attempts that the seat made are different ones, at most `count * tries`. Each value that it finished an item
  -- with is the result of that attempt, and each other attempt has none.
  pub record HasTried (packet_at : ℕ → ℕ → Option T) (count tries : ℕ) (v : SeatData T) : Type 0 where
    pub finished : (i a : ℕ) (x : T) → Has (i, a, x) v.done → packet_at i a ≡ Some x
    pub failed : (i a : ℕ) → 0 < pairs i a v.tried → triples i a v.done ≡ 0 → packet_at i a ≡ None
    pub different : (i a : ℕ) → pairs i a v.tried ≤ 1
    pub few : length v.tried ≤ count * tries

  -- The seat `w` after one visit of item `i` by the seat `v`. `gave_back` says whether the item was given back.
  pub record Visits (packet_at : ℕ → ℕ → Option T) (count tries i : ℕ) (v : SeatData T) (gave_back : Bool)
      (w : SeatData T) : Type 0 where
    pub works : Works packet_at count tries w
    pub shares : w.shares ≡ v.shares
    pub passed : 0 < items i w.passed
    pub passes : (j : ℕ) → items j v.passed ≤ items j w.passed
    pub grows : length v.tried ≤ length w.tried
    pub tries_one : gave_back ≡ true → length v.tried < length w.tried
    pub owes_less : gave_back ≡ false → (j : ℕ) → items j w.owed ≤ items j v.owed
    pub owes_none : gave_back ≡ false → items i w.owed ≡ 0

  -- The seat `w` after visits of the items from `lo` to `hi` by the seat `v`. `gave_back` says whether one of them was
  -- given back.
  pub record Scans (packet_at : ℕ → ℕ → Option T) (count tries lo hi : ℕ) (v : SeatData T) (gave_back : Bool)
      (w : SeatData T) : Type 0 where
    pub works : Works packet_at count tries w
    pub shares : w.shares ≡ v.shares
    pub passed : (i : ℕ) → lo ≤ i → i < hi → 0 < items i w.passed
    pub passes : (j : ℕ) → items j v.passed ≤ items j w.passed
    pub grows : length v.tried ≤ length w.tried
    pub tries_one : gave_back ≡ true → length v.tried < length w.tried
    pub owes_less : gave_back ≡ false → (j : ℕ) → items j w.owed ≤ items j v.owed
    pub owes_none : gave_back ≡ false → (i : ℕ) → lo ≤ i → i < hi → items i w.owed ≡ 0
