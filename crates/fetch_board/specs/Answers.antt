-- What a seat learns from a claim and a look, and what is left of the items at the end.
use Rattle.std.specs.Prelude.{◌≡◌, ℕ, ◌+◌, ◌<◌, ◌≤◌, ltb, ◌==◌, List, [], ◌∷◌, Option, Some, None}
use Rattle.fetch_board.specs.declared.word.Word.{Word}
use Rattle.fetch_board.specs.declared.word.Word.TheVariants.{Wanted, Held, Done, Spent}
use Rattle.fetch_board.specs.declared.taken.Taken.{Taken}
use Rattle.fetch_board.specs.declared.taken.Taken.TheVariants as taken
use Rattle.fetch_board.specs.declared.taken.Seen.{Seen}
use Rattle.fetch_board.specs.declared.taken.Seen.TheVariants as seen
use Rattle.fetch_board.specs.Counts.{one, items, pairs, triples, paid, Has}
use Rattle.fetch_board.specs.Words.{IsWithinTries, IsAtMost}
use Rattle.fetch_board.specs.Seats.{SeatData, items_of, items_of_done, seen_of, looked, claimed}

-- The word as a look reads it.
abbrev pub seen_word : Word → Seen
seen_word (Wanted a) = seen.Wanted a
seen_word (Held a) = seen.Held a
seen_word (Done a) = seen.Done
seen_word Spent = seen.Spent

module _ {T : Type 0} where
  -- At its one step on the item's word the seat v found the word w, and so became v'. The word can be found at an item
  -- of as many tries as the seat's. Where it says that the item is wanted or held, it reports no fewer attempts than
  -- the seat had seen.
  pub record Finds (i : ℕ) (w : Word) (v v' : SeatData T) : Type 0 where
    pub within : IsWithinTries v.tries w
    pub later : IsAtMost (seen_of i v) w
    pub learns : v' ≡ looked i w v

  -- The seat has looked at the item, which was wanted after these numbers of attempts, the last first.
  abbrev pub after_looks : ℕ → List ℕ → SeatData T → SeatData T
  after_looks i [] v = v
  after_looks i (a ∷ ends) v = looked i (Wanted a) (after_looks i ends v)

  -- What the deciding step of a claim was. The item was wanted after a attempts, of which this seat
  -- didn't make the next, and is held by it now. Or its word was so, and the seat has looked at it.
  abbrev pub Decides : ℕ → SeatData T → Taken → SeatData T → Type 0
  Decides i v (taken.Yes a) v' = (a < v.tries) × (pairs i a v.tried ≡ 0) × (v' ≡ claimed i a v)
  Decides i v taken.Held v' = (a : ℕ) × Finds i (Held a) v v'
  Decides i v taken.Done v' = (a : ℕ) × Finds i (Done a) v v'
  Decides i v taken.Spent v' = Finds i Spent v v'

  -- A claim looks at an item that is wanted until its deciding step.
  abbrev pub Takes : ℕ → SeatData T → Taken → SeatData T → Type 0
  Takes i v answer v' = (ends : List ℕ) × Decides i (after_looks i ends v) answer v'

  -- What the seat knows, except what it saw and what it learnt last.
  abbrev pub known : SeatData T → SeatData T
  known v = record v { seen = []; learnt = None }

  -- The seat has met the item claimed, finished or spent, and owes it no more.
  abbrev pub met : ℕ → SeatData T → SeatData T
  met i v = record v { passed = i ∷ v.passed; owed = paid i v.owed }

  -- What such a seat knows after a claim.
  abbrev pub after_claim : ℕ → Taken → SeatData T → SeatData T
  after_claim i (taken.Yes a) v = claimed i a v
  after_claim i taken.Held v = met i v
  after_claim i taken.Done v = met i v
  after_claim i taken.Spent v = met i v

  -- Each item stands once at most among those that are held, done or spent. Each attempt at an item
  -- was given once at most, and its number is below that of the tries.
  pub record Once (v : SeatData T) : Type 0 where
    pub ended : (i : ℕ) → items i (items_of v.held) + items i (items_of_done v.done) + items i v.spent ≤ 1
    pub tried : (i a : ℕ) → pairs i a v.tried ≤ 1
    pub within : (i a : ℕ) → 0 < pairs i a v.tried → a < v.tries

  -- The seat holds nothing and owes nothing.
  abbrev pub Rests : SeatData T → Type 0
  Rests v = (v.held ≡ []) × (v.owed ≡ [])

  -- What became of the item i, by its value and its number of attempts. With a value it was finished
  -- with that value, at the last of its attempts, and not spent. Without one it was spent, after all
  -- tries. The attempts that were given are 0, 1, 2 and so on below that number, each once.
  abbrev pub Settled : SeatData T → ℕ → Option T → ℕ → Type 0
  Settled v i (Some x) n =
      (a : ℕ) × Has (i, a, x) v.done × (n ≡ a + 1) × (items i v.spent ≡ 0)
      × ((b : ℕ) → triples i b v.done ≡ one (a == b))
      × ((b : ℕ) → pairs i b v.tried ≡ one (ltb b n)) × (a < v.tries)
  Settled v i None n =
      (items i v.spent ≡ 1) × ((b : ℕ) → triples i b v.done ≡ 0) × (n ≡ v.tries)
      × ((b : ℕ) → pairs i b v.tried ≡ one (ltb b n))
