-- How a board is kept.
use Rattle.std.specs.Prelude.{◌≡◌, ℕ, ◌<◌, ◌≤◌}
use Rattle.fetch_board.specs.Seats.{BoardId}

-- A board of `items` items, each of at most `tries` attempts, lies in a table with as many places as words, at least
-- one, and the rule of the table is for as many attempts.
pub record IsLaidOut (board : BoardId) (items tries ruled : ℕ) : Type 0 where
  pub even : board.words ≡ board.slots
  pub some : 0 < board.slots
  pub room : items ≤ board.slots
  pub tries_known : tries ≡ ruled
  pub some_try : 0 < tries
  pub few_tries : tries ≤ 16
