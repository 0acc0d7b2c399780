use Rattle.fetch_work.proofs.Bound.{few}
use Rattle.fetch_work.proofs.worker.Worker+Checked.work.Goals as goal

pub returns-clause-tried : goal.returns-clause-tried
returns-clause-tried g c = let w = c.work.ensures.works in record {
  finished = w.brought;
  failed = w.missed;
  different = w.once;
  few = few _ c.args.board.now.tries c.work.new.seat.tried w.within w.once;
}
