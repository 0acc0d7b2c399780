use Rattle.std.proofs.Common.{sym, subst, arith}
use Rattle.repo_plan.specs.Plan.{PlanState}
use Rattle.repo_holdings.specs.declared.holdings.stock.Stock.{Stock}
use Rattle.repo_holdings.specs.Gaining.{PlanFits}
use Rattle.repo_holdings.specs.Stock.{IsSound}
use Rattle.repo_holdings.proofs.FreshLemmas.{waits_more}
use Rattle.repo_holdings.proofs.TakingLemmas.{tied_tried}
use Rattle.repo_holdings.proofs.holdings.stock.Stock.take_one.Goals.{in-Some, in_default}
use Rattle.repo_holdings.proofs.holdings.stock.Stock.take_one.Goals as goal

pub returns-clause-sound : goal.returns-clause-sound
returns-clause-sound c =
    let sound : IsSound c.match-arrival.self =
    elim c.match-arrival.branch [
      | in-Some w ↦ subst IsSound (sym w.self-is) w.gain-change.ensures.sound
      | in_default w ↦ subst IsSound (sym w.self-is) c.requires.ready.sound
    ] in
    record {
      tied =
          subst (λ (p : PlanState). PlanFits p c.match-arrival.self.store.packets) (sym c.add_attempts_reserved.ensures)
          (tied_tried c.match-arrival.self.plan c.match-arrival.self.store.packets c.args.tried.part
          c.args.tried.attempts sound.tied);
      noted = sound.noted;
    }

pub returns-clause-waiting : goal.returns-clause-waiting
returns-clause-waiting c =
    let before : Stock = c.args.self.now in
    elim c.match-arrival.branch [
      | in-Some w ↦
          rw (w.pending-is, w.self-is) (waits_more w.gain-change.result c.args.pending.now w.push.new.self
          before.store.packets w.gain-change.new.self.store.packets w.push.ensures.fresh w.push.ensures.gone
          w.push.ensures.fresh_room w.push.ensures.gone_room w.gain-change.ensures.change)
      | in_default w ↦
          rw (w.pending-is, w.self-is) (record {
            few_fresh = omega arith;
            few_gone = omega arith;
            fresh_room = omega arith;
            gone_room = omega arith;
            listed = λ entries was. was;
          })
    ]
