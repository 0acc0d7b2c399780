use Rattle.std.proofs.Common.{length, sym, ap, subst, ◌∙◌}
use Rattle.std.proofs.lemmas.List.{length-map}
use Rattle.repo_store.specs.StoreList.{StoreList, StoreIsSound}
use Rattle.repo_store.specs.PacketTable.{Stored, octets_at}
use Rattle.repo_store.proofs.StoreLemmas.{sound_of}
use Rattle.repo_store.proofs.store.Store.len.Goals as goal

pub returns-clause-number : goal.returns-clause-number
returns-clause-number c =
    c.len.ensures.number
    ∙ sym (length-map c.self.inside.kept.held (λ (h : Stored). (h.0, octets_at c.self.inside.kept.slots h.1)))
    ∙ ap (λ (s : StoreList). length s.packets) c.self.view_is

pub returns-clause-sound : goal.returns-clause-sound
returns-clause-sound c =
    subst (λ (s : StoreList). StoreIsSound s.packets) c.self.view_is (sound_of c.self.inside.kept c.len.ensures.sound)
