use Rattle.std.proofs.Common.{rules}
use Rattle.std.proofs.lemmas.Fn.{filter_same}
use Rattle.repo_store.specs.NameLayers.{is_stored}
use Rattle.repo_store.proofs.names.Names.forget_dropped.Goals as goal

pub returns-clause-waiting : goal.returns-clause-waiting
returns-clause-waiting c =
    filter_same _ (is_stored c.args.kept.now.held) _ (λ x b f' called. search rules) c.args.self.now.waiting.items
    c.retain.new.self.items c.retain.ensures.filtered
