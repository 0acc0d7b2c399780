-- What the seat that makes a step learns, over what the seat keeps for the rule.
use Rattle.std.specs.Prelude.{◌≡◌, ◌≢◌, ℕ, ◌+◌, ◌-◌, ◌*◌, ◌<◌, [], ◌∷◌, ◌++◌, Option, Some, None}
use Rattle.atomic_table.specs.Table.{Step, Me, rest}
use Rattle.fetch_board.specs.declared.seat_knowledge.SeatKnowledge.{SeatKnowledge}
use Rattle.fetch_board.specs.declared.word.Word.{Word}
use Rattle.fetch_board.specs.Counts.{pairs, paid, released}
use Rattle.fetch_board.specs.Rule.{founder}
use Rattle.fetch_board.specs.Words.{word_code, IsWithinTries, IsAtMost}
use Rattle.fetch_board.specs.Seats.{BoardId, SeatData, seen_after, passed_after, owed_after}
use Rattle.fetch_board.specs.Answers.{Once}

-- What a seat keeps for the rule, and the places that it has out.
abbrev pub Knows : Type 0 → Type 0
Knows T = Me (Option T) (SeatKnowledge T)

module _ {T : Type 0} where
  -- What contracts see of a seat of the board.
  abbrev pub data_of : BoardId → SeatKnowledge T → SeatData T
  data_of b v =
      record {
        board = b;
        tries = v.tries;
        shares = v.shares;
        held = v.held;
        done = v.done;
        spent = v.spent;
        tried = v.tried;
        owed = v.owed;
        passed = v.passed;
        seen = v.seen;
        learnt = v.learnt;
      }

  -- Between calls a seat has no place out, and it stands for some seat.
  pub record IsBetweenCalls (m : Knows T) : Type 0 where
    pub carries : m.1 ≡ []
    pub places : m.0.placing ≡ []
    pub some_share : 0 < m.0.shares

  -- The seat has looked at an item, and found this word.
  abbrev pub looked : ℕ → Word → SeatKnowledge T → SeatKnowledge T
  looked i w v = record v {
    learnt = Some (i, w);
    seen = seen_after i w v.seen;
    passed = passed_after i w v.passed;
    owed = owed_after i w v.owed;
  }

  -- The seat holds an item from now on, with the attempt that it may make.
  abbrev pub claimed : ℕ → ℕ → SeatKnowledge T → SeatKnowledge T
  claimed i a v = record v {
    held = (i, a) ∷ v.held;
    tried = (i, a) ∷ v.tried;
    passed = i ∷ v.passed;
    owed = paid i v.owed;
  }

  -- The seat has given an item back, and has still to look after it.
  abbrev pub returned : ℕ → SeatKnowledge T → SeatKnowledge T
  returned i v = record v { held = released i v.held; owed = i ∷ v.owed }

  -- The holder of the item has its place out.
  abbrev pub reserved : ℕ → ℕ → SeatKnowledge T → SeatKnowledge T
  reserved i a v = record v { held = released i v.held; placing = (i, a) ∷ v.placing }

  -- The seat has given the place of an item back with a value in it, and the item is done.
  abbrev pub filed : ℕ → ℕ → T → SeatKnowledge T → SeatKnowledge T
  filed i a x v = record v { placing = released i v.placing; done = (i, a, x) ∷ v.done }

  -- Both together.
  abbrev pub finished : ℕ → ℕ → T → SeatKnowledge T → SeatKnowledge T
  finished i a x v = record v { held = released i v.held; done = (i, a, x) ∷ v.done }

  -- The seat has spent an item that it held.
  abbrev pub forgone : ℕ → SeatKnowledge T → SeatKnowledge T
  forgone i v = record v { held = released i v.held; spent = i ∷ v.spent }

  -- The seat has given a share away.
  abbrev pub shortened : SeatKnowledge T → SeatKnowledge T
  shortened v = record v { shares = v.shares - 1 }

  -- The seat that has got the share.
  abbrev pub newcomer : SeatKnowledge T → SeatKnowledge T
  newcomer v = founder v.tries 1

  -- A seat with another one joined into it.
  abbrev pub combined : SeatKnowledge T → SeatKnowledge T → SeatKnowledge T
  combined v w =
      record {
        tries = v.tries;
        shares = v.shares + w.shares;
        held = v.held ++ w.held;
        placing = v.placing ++ w.placing;
        done = v.done ++ w.done;
        spent = v.spent ++ w.spent;
        tried = v.tried ++ w.tried;
        owed = v.owed ++ w.owed;
        passed = v.passed ++ w.passed;
        seen = v.seen ++ w.seen;
        learnt = v.learnt;
      }

  -- The word was w, of the code r, and the seat has looked at it.
  abbrev pub Finds : SeatKnowledge T → ℕ → ℕ → Word → SeatKnowledge T → Type 0
  Finds v i r w v' = (r ≡ word_code w) × IsWithinTries v.tries w × ((a : ℕ) → 0 < pairs i a v.seen → IsAtMost a w)
      × (v' ≡ looked i w v)

  -- The seat looks at an item.
  abbrev pub looks : Step (Option T) → Knows T → ℕ → Knows T → Type 0
  looks st m r m' = (m'.1 ≡ m.1) × ((w : Word) × Finds m.0 st.word r w m'.0)

  -- The word was as expected, which is that of a wanted item, and the seat has claimed the item. Or it
  -- was not, and the seat has looked.
  abbrev pub claims : Step (Option T) → Knows T → ℕ → Knows T → Type 0
  claims st m r m' =
      (m'.1 ≡ m.1)
      × (r ≡ st.first
      → (a : ℕ) × (st.first ≡ 4 * a) × (a < m.0.tries) × (pairs st.word a m.0.tried ≡ 0)
      × (m'.0 ≡ claimed st.word a m.0))
      × (r ≢ st.first → (w : Word) × Finds m.0 st.word r w m'.0)

  -- What the seats that were joined into this one know together.
  abbrev pub agrees : Step (Option T) → Knows T → ℕ → Knows T → Type 0
  agrees st m r m' = (m' ≡ m) × ((b : BoardId) → Once (data_of b m.0))

  -- The holder of an item recalls its attempt.
  abbrev pub recalls : Step (Option T) → Knows T → ℕ → Knows T → Type 0
  recalls st m r m' = (m' ≡ m) × ((a : ℕ) → 0 < pairs st.word a m.0.held → (r ≡ 4 * a + 1) × (a < m.0.tries))

  -- The holder of an item takes its place, which is empty.
  abbrev pub reserves : Step (Option T) → Knows T → ℕ → Knows T → Type 0
  reserves st m r m' =
      (a : ℕ) × (0 < pairs st.word a m.0.held) × (r ≡ 4 * a + 1) × (a < m.0.tries) × (m'.1 ≡ (st.word, None) ∷ m.1)
      × (m'.0 ≡ reserved st.word a m.0) × ((b : ℕ) → 0 < pairs st.word b m.0.held → b ≡ a)

  -- It gives the place back with a value in it, and the item is done.
  abbrev pub files : Step (Option T) → Knows T → ℕ → Knows T → Type 0
  files st m r m' =
      (a : ℕ) × (x : T) × (st.first ≡ 4 * a + 2) × (m.1 ≡ (st.word, Some x) ∷ rest m.1) × (m'.1 ≡ rest m.1)
      × (m'.0 ≡ filed st.word a x m.0)

  -- The holder of an item spends it.
  abbrev pub spends : Step (Option T) → Knows T → ℕ → Knows T → Type 0
  spends st m r m' = (m'.1 ≡ m.1) × (m'.0 ≡ forgone st.word m.0)

  -- The holder of an item gives it back.
  abbrev pub returns : Step (Option T) → Knows T → ℕ → Knows T → Type 0
  returns st m r m' = (m'.1 ≡ m.1) × (m'.0 ≡ returned st.word m.0)
