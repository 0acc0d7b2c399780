use Rattle.std.proofs.Common.{length, ap, arith}
use Rattle.fetch_work.proofs.Join.{team_knows, first_all}
use Rattle.fetch_work.proofs.team.run.Goals as goal

pub close-requires-clause-shares : goal.close-requires-clause-shares
close-requires-clause-shares g c =
    let seats = c.in_ok-seats.seats.items in
    let team = team_knows (g.T.Trial.packet_at c.args.trial.now) c.args.items c.in_ok-board.board seats _ _ _
    c.in-Some.ensures.items c.in_ok-seats.ensures.each c.join_all-seat.ensures.joined in
    let same = ap length c.in_ok-team.ensures in
    omega (arith, team.1, same, c.in_ok-seats.ensures.count, c.in_ok-board.ensures.count, c.in_ok-board.ensures.board.2)

pub close-requires-clause-rests : goal.close-requires-clause-rests
close-requires-clause-rests g c =
    let seats = c.in_ok-seats.seats.items in
    let team = team_knows (g.T.Trial.packet_at c.args.trial.now) c.args.items c.in_ok-board.board seats _ _ _
    c.in-Some.ensures.items c.in_ok-seats.ensures.each c.join_all-seat.ensures.joined in
    (team.0.holds, team.0.owes)

pub close-requires-clause-passed : goal.close-requires-clause-passed
close-requires-clause-passed g c = λ i low.
    let seats = c.in_ok-seats.seats.items in
    let team = team_knows (g.T.Trial.packet_at c.args.trial.now) c.args.items c.in_ok-board.board seats _ _ _
    c.in-Some.ensures.items c.in_ok-seats.ensures.each c.join_all-seat.ensures.joined in
    team.0.passed i (omega (arith, low, c.in_ok-board.ensures.board.0))

pub returns-clause-first : goal.returns-clause-first
returns-clause-first g c =
    let packet_at = g.T.Trial.packet_at c.args.trial.now in
    let seats = c.in_ok-seats.seats.items in
    let made = c.in_ok-board.ensures.board in
    let team = team_knows packet_at c.args.items c.in_ok-board.board seats _ _ _
    c.in-Some.ensures.items c.in_ok-seats.ensures.each c.join_all-seat.ensures.joined in
    first_all packet_at c.args.items c.in_ok-board.board.items c.args.tries c.join_all-seat.result team.0
    made.0 (omega (arith, c.join_all-seat.ensures.board.1, made.1)) c.close.result c.close.ensures.settled
