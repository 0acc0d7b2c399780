use Rattle.std.proofs.Common.{◌∙◌}
use Rattle.crossbeam_queue.specs.Passes.{view}
use Rattle.live_inbox.proofs.Moves.{takes_at, all_there_at}
use Rattle.live_inbox.proofs.Ending.{emptied_closing, emptied_none, emptied_next, emptied_all}
use Rattle.live_inbox.proofs.close.values_left.Goals as goal

pub loop-init : goal.loop-init
loop-init g c = (c.requires.queue, rw c.new-values.ensures.items (emptied_none (view c.args.place) c.requires.mouth))

pub pop_as-requires-clause-rule : goal.pop_as-requires-clause-rule
pop_as-requires-clause-rule g c =
    let closing = emptied_closing (view c.args.place) _ (view c.loop.place) c.loop.invariant.1 in
    (takes_at c.loop.place.id (view c.loop.place) _ closing, all_there_at c.loop.place.id (view c.loop.place) _ closing)

pub loop-preserved : goal.loop-preserved
loop-preserved g c = (
  (c.pop_as.ensures.queue.0 ∙ c.loop.invariant.0.0, c.pop_as.ensures.queue.2 ∙ c.loop.invariant.0.1),
  rw (c.push_reserved.ensures.items, c.reserve.ensures.items)
      (emptied_next (view c.args.place) _ (view c.loop.place) c.in-Some-pop_as.sent
      (view c.pop_as.new.pass) c.loop.invariant.1 c.in-Some-pop_as.ensures.rule),
)

pub returns-in-None-pop_as : goal.returns-in-None-pop_as
returns-in-None-pop_as g c = record {
  left = rw c.reserve.ensures.items (emptied_all (view c.args.place) _
      (view c.loop.place) c.loop.invariant.1 c.in-None-pop_as.ensures.rule.1);
}
