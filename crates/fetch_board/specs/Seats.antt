-- What contracts see of a board and of a seat at it, and what the steps of a seat make of it.
use Rattle.std.specs.Prelude.{◌≡◌, ℕ, ◌+◌, ◌<◌, if◌then◌else◌, max, ◌==◌, List, [], ◌∷◌, ◌++◌, map, Option, Some, None}
use Rattle.atomic_table.specs.Seated.{TableId}
use Rattle.fetch_board.specs.declared.word.Word.{Word}
use Rattle.fetch_board.specs.declared.word.Word.TheVariants.{Wanted, Held, Done, Spent}
use Rattle.fetch_board.specs.Counts.{pairs, paid, released}

-- Which board it is.
abbrev pub BoardId : Type 0
BoardId = TableId

-- What is fixed of a board: which it is, how many items it has, how many tries each of them has, and
-- how many seats were made with it. Its words and places change under the hands of all seats: what
-- holds of them between any two steps is the rule of `Rule`.
pub record BoardTerms : Type 0 where
  pub board : BoardId
  pub items : ℕ
  pub tries : ℕ
  pub seats : ℕ

-- What a seat knows: at which board it is, how many tries an item has there, for how many of the
-- seats that were made it stands, and of its own steps and those of the seats joined into it:
--   held     the items that it holds, each with the attempt that it may make
--   done     the items that it finished, each with the attempt and the value
--   spent    the items that it spent
--   tried    the attempts that it was given, each an item and a number
--   owed     the items that it gave back and has still to look after
--   passed   the items that it has met claimed, finished or spent, by itself or by others
--   seen     what it found of items that were wanted or held: how many attempts had ended
--   learnt   the word that it looked at last, and whose it is
pub record SeatData (T : Type 0) : Type 0 where
  pub board : BoardId
  pub tries : ℕ
  pub shares : ℕ
  pub held : List (ℕ × ℕ)
  pub done : List (ℕ × ℕ × T)
  pub spent : List ℕ
  pub tried : List (ℕ × ℕ)
  pub owed : List ℕ
  pub passed : List ℕ
  pub seen : List (ℕ × ℕ)
  pub learnt : Option (ℕ × Word)

-- The greatest number that stands with the item, and 0 where none does.
abbrev pub greatest : ℕ → List (ℕ × ℕ) → ℕ
greatest i [] = 0
greatest i (x ∷ xs) = if x.0 == i then max x.1 (greatest i xs) else greatest i xs

-- What the seat found of wanted and held items, after it looked at the word of this one.
abbrev pub seen_after : ℕ → Word → List (ℕ × ℕ) → List (ℕ × ℕ)
seen_after i (Wanted a) xs = (i, a) ∷ xs
seen_after i (Held a) xs = (i, a) ∷ xs
seen_after i (Done a) xs = xs
seen_after i Spent xs = xs

-- The items that the seat met claimed, finished or spent, after it looked at the word of this one.
abbrev pub passed_after : ℕ → Word → List ℕ → List ℕ
passed_after i (Wanted a) xs = xs
passed_after i (Held a) xs = i ∷ xs
passed_after i (Done a) xs = i ∷ xs
passed_after i Spent xs = i ∷ xs

-- The items that the seat has still to look after, after it looked at the word of this one.
abbrev pub owed_after : ℕ → Word → List ℕ → List ℕ
owed_after i (Wanted a) xs = xs
owed_after i (Held a) xs = paid i xs
owed_after i (Done a) xs = paid i xs
owed_after i Spent xs = paid i xs

-- The items of a list of items with attempts, and of one with values.
abbrev pub items_of : List (ℕ × ℕ) → List ℕ
items_of xs = map (λ (x : ℕ × ℕ). x.0) xs

-- The items of a list of items with attempts and values.
abbrev pub items_of_done : {T : Type 0} → List (ℕ × ℕ × T) → List ℕ
items_of_done {T} xs = map (λ (x : ℕ × ℕ × T). x.0) xs

module _ {T : Type 0} where
  -- The seat is of the board.
  abbrev pub IsSeatOf : BoardTerms → SeatData T → Type 0
  IsSeatOf b v = (v.board ≡ b.board) × (v.tries ≡ b.tries)

  -- A seat of the board that knows nothing yet and stands for `n` seats.
  abbrev pub fresh : BoardTerms → ℕ → SeatData T
  fresh b n =
      record {
        board = b.board;
        tries = b.tries;
        shares = n;
        held = [];
        done = [];
        spent = [];
        tried = [];
        owed = [];
        passed = [];
        seen = [];
        learnt = None;
      }

  -- The seat holds the item, and may make this attempt.
  abbrev pub Holds : ℕ → ℕ → SeatData T → Type 0
  Holds i a v = 0 < pairs i a v.held

  -- How many attempts at the item had ended when the seat saw most.
  abbrev pub seen_of : ℕ → SeatData T → ℕ
  seen_of i v = greatest i v.seen

  -- The seat has looked at the item, whose word was w.
  abbrev pub looked : ℕ → Word → SeatData T → SeatData T
  looked i w v =
      record v {
        learnt = Some (i, w);
        seen = seen_after i w v.seen;
        passed = passed_after i w v.passed;
        owed = owed_after i w v.owed;
      }

  -- It has claimed the item, for the attempt a.
  abbrev pub claimed : ℕ → ℕ → SeatData T → SeatData T
  claimed i a v =
      record v {
        held = (i, a) ∷ v.held;
        tried = (i, a) ∷ v.tried;
        passed = i ∷ v.passed;
        owed = paid i v.owed;
      }

  -- It has given the item back.
  abbrev pub returned : ℕ → SeatData T → SeatData T
  returned i v = record v { held = released i v.held; owed = i ∷ v.owed }

  -- It has finished the item with the value x, at the attempt a.
  abbrev pub finished : ℕ → ℕ → T → SeatData T → SeatData T
  finished i a x v = record v { held = released i v.held; done = (i, a, x) ∷ v.done }

  -- It has spent the item.
  abbrev pub forgone : ℕ → SeatData T → SeatData T
  forgone i v = record v { held = released i v.held; spent = i ∷ v.spent }

  -- It knows what both knew, and stands for all for whom they stood.
  abbrev pub combined : SeatData T → SeatData T → SeatData T
  combined v w =
      record v {
        shares = v.shares + w.shares;
        held = v.held ++ w.held;
        done = v.done ++ w.done;
        spent = v.spent ++ w.spent;
        tried = v.tried ++ w.tried;
        owed = v.owed ++ w.owed;
        passed = v.passed ++ w.passed;
        seen = v.seen ++ w.seen;
      }
