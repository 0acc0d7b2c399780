use Rattle.std.proofs.Common.{rules}
use Rattle.std.proofs.lemmas.Fn.{filter_same}
use Rattle.repo_store.specs.PacketTable.{Stored}
use Rattle.repo_store.specs.NameLayers.{is_left}
use Rattle.repo_store.proofs.index.retain.Goals as goal

pub returns-clause-left : goal.returns-clause-left
returns-clause-left c =
    filter_same _ (λ (h : Stored). is_left c.args.pairs.now c.args.kept.now.held h.0) _ (λ x b f' called. search rules)
    c.args.held.now.items c.retain.new.self.items c.retain.ensures.filtered
