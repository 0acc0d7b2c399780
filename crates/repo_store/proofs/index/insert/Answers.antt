use Rattle.std.proofs.Common.{◌≡◌, List, subst, sym}
use Rattle.std.specs.List.{insert}
use Rattle.sorted_lists.proofs.Members.{same_insert}
use Rattle.sorted_lists.proofs.Climbs.{climbs_inserted}
use Rattle.repo_store.specs.PacketTable.{Stored}
use Rattle.repo_store.specs.Indexes.{IsPlace, GainsOne, key_in, AreInOrder}
use Rattle.repo_store.proofs.IndexLemmas.{exact_keys}
use Rattle.repo_store.proofs.index.insert.Goals as goal

pub returns-clause-in_order : goal.returns-clause-in_order
returns-clause-in_order c =
    let slots = c.args.kept.now.slots in
    let held = c.args.index.now.items in
    let place = c.place_of-place.result in
    let items : c.insert.new.self.items ≡ insert held place c.args.held =
    rw c.unwrap.ensures at c.insert.ensures.items in
    let at =
    subst (λ (xs : List Stored). IsPlace slots xs (key_in slots c.args.held) place) c.as_slice.ensures.value
    c.place_of-place.ensures in
    subst (AreInOrder slots) (sym items)
    (climbs_inserted exact_keys (key_in slots) held c.args.held place c.requires.in_order at)

pub returns-clause-gains : goal.returns-clause-gains
returns-clause-gains c =
    let held = c.args.index.now.items in
    let items : c.insert.new.self.items ≡ insert held c.place_of-place.result c.args.held =
    rw c.unwrap.ensures at c.insert.ensures.items in
    subst (GainsOne c.args.held held) (sym items) (same_insert held c.place_of-place.result c.args.held)
