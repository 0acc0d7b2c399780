use Rattle.std.proofs.Common.{List, subst}
use Rattle.repo_store.specs.PacketTable.{Stored}
use Rattle.repo_store.specs.Indexes.{name_matches, IsFirstOf}
use Rattle.repo_store.specs.NameLayers.{is_stored_and_matches}
use Rattle.repo_store.proofs.FindLemmas.{first_of_layers}
use Rattle.repo_store.proofs.names.Names.first.Goals as goal

pub returns : goal.returns
returns c =
    let k = c.args.kept.now in
    let test = name_matches k.slots c.args.asked.now c.args.can_be_prefix in
    let recent = subst (λ (xs : List Stored). IsFirstOf xs test c.first.result) c.deref.ensures.value c.first.ensures in
    let waiting =
    subst (λ (xs : List Stored).
    IsFirstOf xs (is_stored_and_matches k c.args.asked.now c.args.can_be_prefix) c.first_of-waiting.result)
    c.deref-2.ensures.value c.first_of-waiting.ensures in
    rw c.lesser.ensures (rw c.lesser-ordered.ensures
    (first_of_layers k c.args.asked.now c.args.can_be_prefix c.args.self.now c.requires c.first-2.result c.first.result
    c.first_of-waiting.result c.first-2.ensures recent waiting))
