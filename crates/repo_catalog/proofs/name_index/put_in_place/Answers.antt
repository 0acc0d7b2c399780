use Rattle.std.proofs.Common.{◌≡◌, ◌||◌, ◌++◌, ◌∷◌, ◌+◌, [], List, length, Some, Ok, Err, sym, ap, subst, ◌∙◌, arith}
use Rattle.std.specs.Ordering.{eq_by_cmp}
use Rattle.sorted_lists.specs.SortedList.{keys, contains}
use Rattle.sorted_lists.proofs.Sets.{contains-insert_key, keys-with_value, rises_with_value}
use Rattle.repo_plan.specs.Parts.{Pair}
use Rattle.repo_catalog.specs.declared.entry.Entry.{Entry}
use Rattle.repo_catalog.specs.NameKeys.{Key, key_cmp, IsIndexOf}
use Rattle.repo_catalog.proofs.EntryLemmas.{found_place, entry_at, no_entry_between}
use Rattle.repo_catalog.proofs.IndexLemmas.{index_placed, index_passed}
use Rattle.repo_catalog.proofs.KeyLemmas.{exact_keys}
use Rattle.repo_catalog.proofs.name_index.put_in_place.Goals as goal

pub loop-publisher-preserved-in-Ok : goal.loop-publisher-preserved-in-Ok
loop-publisher-preserved-in-Ok c =
    let before = c.loop-publisher.invariant in
    let es = c.args.entries.now in
    let k : Pair = (c.in-Some.publisher, c.from.result) in
    let x = c.index-entries-place.result in
    let key = c.key_of.result in
    let old = c.loop-publisher.map.entries in
    let new = ap keys c.insert.ensures.entries ∙ keys-with_value exact_keys key _ old in
    let popped : c.loop-publisher.waiting.items ≡ c.pop.new.self.items ++ k ∷ [] =
    c.in-Some.ensures.items ∙ (λ j. c.pop.new.self.items ++ (c.in-Some.publisher, sym c.from.ensures j) ∷ []) in
    let there =
    entry_at k es c.in-Ok.place x c.requires.in_order
    (found_place es k (Ok c.in-Ok.place) c.requires.in_order c.in-Ok.ensures.bound c.in-Ok.ensures.position)
    ∙ ap (λ (e : Entry). Some e) (sym c.index-entries-place.is) in
    let len : length c.loop-publisher.waiting.items ≡ length c.pop.new.self.items + 1 =
    omega (arith, c.in-Some.ensures.len, c.loop-publisher.waiting.ok, c.pop.new.self.ok) in
    record {
      keys = record {
        rises = rw c.insert.ensures.entries (rises_with_value exact_keys key _ old before.keys.rises);
        indexed =
            index_placed x k es (keys old) (keys c.insert.new.self.entries) c.pop.new.self.items there
            (λ q. ap (λ (ks : List Key). contains key_cmp ks q) new
            ∙ contains-insert_key exact_keys key (keys old) q
            ∙ ap (λ (z : Key). eq_by_cmp key_cmp q z || contains key_cmp (keys old) q) c.key_of.ensures)
            (subst (IsIndexOf es (keys old)) popped before.keys.indexed);
      };
      room = omega (arith, before.room, c.insert.ensures.spare, len);
      left = omega (arith, before.left, c.insert.ensures.spare, len);
      room_to_wait = omega (arith, before.room_to_wait, c.pop.ensures.capacity);
    }

pub loop-publisher-preserved : goal.loop-publisher-preserved
loop-publisher-preserved c =
    let before = c.loop-publisher.invariant in
    let es = c.args.entries.now in
    let k : Pair = (c.in-Some.publisher, c.from.result) in
    let popped : c.loop-publisher.waiting.items ≡ c.pop.new.self.items ++ k ∷ [] =
    c.in-Some.ensures.items ∙ (λ j. c.pop.new.self.items ++ (c.in-Some.publisher, sym c.from.ensures j) ∷ []) in
    let none =
    no_entry_between k es c.in_default-place_of.field-0
    (found_place es k (Err c.in_default-place_of.field-0) c.requires.in_order c.in_default-place_of.ensures.bound
    c.in_default-place_of.ensures.position) in
    let len : length c.loop-publisher.waiting.items ≡ length c.pop.new.self.items + 1 =
    omega (arith, c.in-Some.ensures.len, c.loop-publisher.waiting.ok, c.pop.new.self.ok) in
    record {
      keys = record {
        rises = before.keys.rises;
        indexed =
            index_passed k es (keys c.loop-publisher.map.entries) c.pop.new.self.items none
            (subst (IsIndexOf es (keys c.loop-publisher.map.entries)) popped before.keys.indexed);
      };
      room = omega (arith, before.room, len);
      left = omega (arith, before.left, len);
      room_to_wait = omega (arith, before.room_to_wait, c.pop.ensures.capacity);
    }
