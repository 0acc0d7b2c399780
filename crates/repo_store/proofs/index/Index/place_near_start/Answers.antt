use Rattle.std.proofs.Common.{◌≡◌, List, Some, subst, sym, ap, ◌∙◌}
use Rattle.std.specs.Ordering.{is_lt}
use Rattle.std.proofs.lemmas.Option.{slice_get-get_or}
use Rattle.sorted_lists.proofs.Climbs.{climbs_parts, place_in_prefix}
use Rattle.repo_store.specs.PacketTable.{Stored}
use Rattle.repo_store.specs.Indexes.{Key, key_in, AreInOrder, IsPlace}
use Rattle.repo_store.proofs.IndexLemmas.{exact_keys}
use Rattle.repo_store.proofs.index.Index.place_near_start.Goals as goal

pub place-requires : goal.place-requires
place-requires c =
    let index = c.args.self.now in
    subst (AreInOrder index.kept.now.slots) (sym c.split_at.ensures.front)
    (climbs_parts exact_keys (key_in index.kept.now.slots) c.loop-next.end index.held.now c.requires).0

pub returns-then-not-is_lt : goal.returns-then-not-is_lt
returns-then-not-is_lt c =
    let slots = c.args.self.now.kept.now.slots in
    let held = c.args.self.now.held.now in
    let end = c.loop-next.end in
    let place = c.place.result in
    let next = c.in-Some.next.now in
    let found = c.in-Some.ensures.lookup in
    let there = slice_get-get_or held end next found.3.0 ∙ ap (λ (h : Stored). Some h) (sym found.1) in
    let not_less = sym (c.is_lt.ensures ∙ ap is_lt c.cmp.ensures) ∙ c.if-not-is_lt.true in
    let asked : Key = (c.name-name.result.now, c.args.held.now.0) in
    let same : asked ≡ key_in slots c.args.held.now = λ i. (c.name-name.ensures i, c.args.held.now.0) in
    let at =
    subst (λ (xs : List Stored). IsPlace slots xs asked place) c.split_at.ensures.front c.place.ensures in
    subst (λ (a : Key). IsPlace slots held a place) same
    (place_in_prefix exact_keys (key_in slots) held asked end place next c.requires there not_less at)
