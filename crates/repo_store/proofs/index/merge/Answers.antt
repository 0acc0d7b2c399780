use Rattle.std.proofs.Common.{◌≡◌, ◌+◌, List, [], ◌∷◌, ◌++◌, get_or, drop, length, vec_len, sym, ap, subst, ◌∙◌, arith}
use Rattle.sorted_lists.proofs.Climbs.{Merging, merging_none, merging_rest, merging_more, merging_all}
use Rattle.repo_store.specs.PacketTable.{Stored}
use Rattle.repo_store.specs.Indexes.{first_part, key_in}
use Rattle.repo_store.specs.NameLayers.{IsMerged}
use Rattle.repo_store.proofs.IndexLemmas.{exact_keys}
use Rattle.repo_store.proofs.index.merge.Goals as goal

pub loop-held-init : goal.loop-held-init
loop-held-init c = record {
  merging =
      merging_none exact_keys (key_in c.args.kept.now.slots) c.args.settled.now c.args.recent.now
      c.args.merged.now.items c.requires.empty c.requires.settled;
  len = omega (arith, ap length c.requires.empty);
  capacity = omega arith;
}

pub place_near_start-requires : goal.place_near_start-requires
place_near_start-requires c =
    merging_rest exact_keys (key_in c.args.kept.now.slots) c.args.settled.now c.args.recent.now
    c.loop-held.merged.items c.loop-held.rest.now c.loop-held.held-index c.loop-held.invariant.merging

pub loop-held-preserved : goal.loop-held-preserved
loop-held-preserved c =
    let key = key_in c.args.kept.now.slots in
    let settled = c.args.settled.now in
    let recent = c.args.recent.now in
    let merged = c.loop-held.merged.items in
    let rest = c.loop-held.rest.now in
    let i = c.loop-held.held-index in
    let place = c.place_near_start.result in
    let extended : c.extend_from_slice.new.self.items ≡ merged ++ c.split_at.result.0.now =
    rw c.unwrap.ensures at c.extend_from_slice.ensures.items in
    let extended_len : vec_len c.extend_from_slice.new.self
    ≡ vec_len c.loop-held.merged + length c.split_at.result.0.now =
    rw c.unwrap.ensures at c.extend_from_slice.ensures.len in
    let none : Stored = (first_part, 0) in
    let held = get_or recent i none in
    let pushed : c.push.new.self.items ≡ c.extend_from_slice.new.self.items ++ held ∷ [] =
    rw c.unwrap-in-loop-held.ensures at c.push.ensures.items in
    let pushed_len : vec_len c.push.new.self ≡ vec_len c.extend_from_slice.new.self + 1 =
    rw c.unwrap-in-loop-held.ensures at c.push.ensures.len in
    let items =
    pushed
    ∙ ap (λ (xs : List Stored). xs ++ held ∷ [])
    (extended ∙ ap (λ (xs : List Stored). merged ++ xs) c.split_at.ensures.front) in
    let more =
    merging_more exact_keys key settled recent merged rest i place none c.loop-held-test.true c.requires.recent
    c.place_near_start.ensures c.loop-held.invariant.merging in
    record {
      merging =
          subst (λ (r : List Stored). Merging exact_keys key settled recent c.push.new.self.items r (i + 1))
          (sym c.split_at.ensures.back)
          (subst (λ (m : List Stored). Merging exact_keys key settled recent m (drop place rest) (i + 1)) (sym items)
          more);
      len =
          omega (
            arith,
            c.loop-held.invariant.len,
            extended_len,
            pushed_len,
            c.split_at.ensures.front_len,
            c.split_at.ensures.back_len,
            c.place_near_start.ensures.within,
          );
      capacity =
          omega (arith, c.loop-held.invariant.capacity, c.extend_from_slice.ensures.capacity, c.push.ensures.capacity);
    }

pub returns-clause-merged : goal.returns-clause-merged
returns-clause-merged c =
    let extended : c.extend_from_slice-2.new.self.items ≡ c.loop-held.merged.items ++ c.loop-held.rest.now =
    rw c.unwrap-2.ensures at c.extend_from_slice-2.ensures.items in
    let all =
    merging_all exact_keys (key_in c.args.kept.now.slots) c.args.settled.now c.args.recent.now c.loop-held.merged.items
    c.loop-held.rest.now c.loop-held.held-index c.loop-held-test.false c.loop-held.invariant.merging in
    subst (IsMerged c.args.kept.now.slots c.args.settled.now c.args.recent.now) (sym extended)
    (record { in_order = all.0; same = all.1 })
