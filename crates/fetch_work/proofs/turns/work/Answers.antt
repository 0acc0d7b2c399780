use Rattle.std.proofs.Common.{◌*◌, length, refl}
use Rattle.fetch_work.proofs.Bound.{few, less_left}
use Rattle.fetch_work.proofs.Scan.{rests_after}
use Rattle.fetch_work.proofs.turns.work.Goals as goal

pub returns-then-not-round-clause-rests : goal.returns-then-not-round-clause-rests
returns-then-not-round-clause-rests g c =
    let s = c.if-not-round.ensures.scans in
    (s.works.holds, rests_after (g.T.Trial.packet_at c.args.trial.now) c.args.count c.args.board.now.tries _ _ s)

pub loop-count-smaller : goal.loop-count-smaller
loop-count-smaller g c =
    let s = c.if-not-round.ensures.scans in
    let tries = c.args.board.now.tries in
    let tried = c.round.new.seat.tried in
    less_left (c.args.count * tries) (length c.loop-count.seat.tried) (length tried)
    (few c.args.count tries tried s.works.within s.works.once) (s.tries_one refl)
