-- Two seats that shared the items of a board.
use Rattle.std.specs.Prelude.{◌≡◌, ℕ, ◌<◌}
use Rattle.fetch_board.specs.Counts.{items}
use Rattle.fetch_board.specs.Seats.{BoardTerms, SeatData, IsSeatOf}
use Rattle.fetch_board.specs.Answers.{Rests}

-- A seat of the board that stands for itself, and holds and owes nothing.
pub record IsAtRest (board : BoardTerms) (seat : SeatData ℕ) : Type 0 where
  pub seat_of : IsSeatOf board seat
  pub share : seat.shares ≡ 1
  pub rests : Rests seat

-- Two seats are at rest, and the first has passed both items of the board.
pub record HaveShared (board : BoardTerms) (first second : SeatData ℕ) : Type 0 where
  pub one : IsAtRest board first
  pub two : IsAtRest board second
  pub passed : (0 < items 0 first.passed) × (0 < items 1 first.passed)
