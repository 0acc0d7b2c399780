use Rattle.std.proofs.Common.{ap}
use Rattle.repo_store.specs.StoreList.{StoreList}
use Rattle.repo_plan.specs.Parts.{pair_of}
use Rattle.repo_holdings.proofs.NotedLemmas.{noted_from}
use Rattle.repo_holdings.proofs.StepLemmas.{said_now, others_now}
use Rattle.repo_holdings.proofs.FreshLemmas.{change_is}
use Rattle.repo_holdings.proofs.holdings.stock.Stock.gain.Goals as goal

pub change_by_summary-requires-clause-said : goal.change_by_summary-requires-clause-said
change_by_summary-requires-clause-said c =
    said_now c.args.self.now c.gain.new.store.packets c.args.part c.args.arrival.packet c.args.arrival.summary
    c.requires.sound c.requires.arrival c.requires.missing (ap (λ (s : StoreList). s.packets) c.gain.ensures.store)

pub returns-clause-sound : goal.returns-clause-sound
returns-clause-sound c = record {
  tied = c.gain.ensures.tied;
  noted =
      noted_from c.args.self.now.store.packets c.gain.new.store.packets (pair_of c.args.part) c.args.self.now.notes
      c.change_by_summary.new.notes c.requires.sound.noted
      (others_now c.args.self.now c.gain.new.store.packets c.args.part c.args.arrival.packet c.args.arrival.summary
      c.requires.sound c.requires.arrival c.requires.missing (ap (λ (s : StoreList). s.packets) c.gain.ensures.store))
      c.change_by_summary.ensures.noted;
}

pub returns-clause-change : goal.returns-clause-change
returns-clause-change c =
    change_is c.args.self.now c.gain.new.store.packets c.args.part c.args.arrival.packet c.args.arrival.summary
    c.change_by_summary.result c.requires.sound c.requires.arrival c.requires.missing
    (ap (λ (s : StoreList). s.packets) c.gain.ensures.store) c.change_by_summary.ensures.change
