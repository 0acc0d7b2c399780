use Rattle.std.proofs.Common.{◌≡◌, List, [], ◌∷◌, ◌++◌, subst, sym}
use Rattle.repo_store.specs.PacketTable.{Stored}
use Rattle.repo_store.specs.Indexes.{GainsOne}
use Rattle.repo_store.specs.NameLayers.{all_of}
use Rattle.repo_store.proofs.NameLayerLemmas.{waits_too}
use Rattle.repo_store.proofs.names.Names.put.Goals as goal

pub returns-clause-gains : goal.returns-clause-gains
returns-clause-gains c =
    let l = c.args.self.now in
    let items : c.push.new.self.items ≡ l.waiting.items ++ c.args.held ∷ [] =
    rw c.unwrap.ensures at c.push.ensures.items in
    subst (λ (xs : List Stored). GainsOne c.args.held (all_of l) (l.settled.items ++ (l.recent.items ++ xs)))
    (sym items)
    (waits_too l.settled.items l.recent.items l.waiting.items c.args.held)
