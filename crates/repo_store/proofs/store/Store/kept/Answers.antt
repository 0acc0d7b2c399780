use Rattle.std.proofs.Common.{length, ap, ◌∙◌}
use Rattle.repo_store.specs.StoreList.{StoreList, different_octets}
use Rattle.repo_store.proofs.store.Store.kept.Goals as goal

pub returns : goal.returns
returns c = c.packets.ensures ∙ ap (λ (s : StoreList). length (different_octets s.packets)) c.self.view_is
