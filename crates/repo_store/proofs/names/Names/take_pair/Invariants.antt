use Rattle.std.proofs.Common.{◌≡◌, ℕ}
use Rattle.repo_store.specs.NameLayers.{AreAmong, HasRoom}
use Rattle.repo_store.proofs.TakenLemmas.{TakingPair}
use Rattle.repo_store.proofs.names.Names.take_pair.Given as goal

abbrev pub invariant-loop-number : goal.invariant-loop-number
invariant-loop-number l = record {
  among : AreAmong l.kept.slots l.kept.held l.self;
  settled : TakingPair l.pair l.initial.self.settled.items l.self.settled.items l.number;
  recent : TakingPair l.pair l.initial.self.recent.items l.self.recent.items l.number;
  waiting : l.self.waiting.items ≡ l.initial.self.waiting.items;
  room : (n : ℕ) → HasRoom l.initial.self n → HasRoom l.self n;
}
