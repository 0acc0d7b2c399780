use Rattle.std.proofs.Common.{rules, arith}
use Rattle.fetch_board.proofs.Seats.{opens}
use Rattle.fetch_board.proofs.board.Board.new.Goals as goal

pub vacant-requires : goal.vacant-requires
vacant-requires g c =
    let tries = c.requires.tries in
    let seats = c.requires.seats in
    opens _ _ _ _ _ (search rules) (omega (arith, tries.0)) (omega (arith, seats.0))
