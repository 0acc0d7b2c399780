use Rattle.std.proofs.Common.{◌∙◌, ◌≡◌, ◌+◌, ◌<◌, ◌≤◌, ℕ, suc, length, set, ap, sym, subst, arith, inl, inr}
use Rattle.std.proofs.Common.{get_or-set_same, length-set}
use Rattle.std.specs.List.{All, insert}
use Rattle.std.proofs.lemmas.List.{length-append}
use Rattle.std.proofs.lemmas.List.Edits.{length-insert}
use Rattle.std.proofs.lemmas.List.Elements.{All-take}
use Rattle.std.proofs.Math.Numerals.{add-one}
use Rattle.sorted_lists.specs.SortedList.{keys, Rises, with_value}
use Rattle.sorted_lists.specs.BlockMap.{joined, room, AreBlocks, IsBlank, IsOpen, StaysInSplit, half, full, entries}
use Rattle.sorted_lists.proofs.MapChanges.{rises_with}
use Rattle.sorted_lists.proofs.Blocks.{block_rises, block_at, with_place, with_some, with_more}
use Rattle.sorted_lists.proofs.Rooms.{has_block}
use Rattle.sorted_lists.proofs.Blocks.{blocks_set, blocks_insert, joined_split}
use Rattle.sorted_lists.proofs.Rooms.{room_is, over_more, over_split}
use Rattle.sorted_lists.proofs.Blocks.{all_last, set_again}
use Rattle.sorted_lists.proofs.block_map.BlockMap.insert.Goals as goal

pub index_mut-requires : goal.index_mut-requires
index_mut-requires g c =
    let blocks = c.args.self.now.blocks in
    let within = c.place_of-place.ensures.there (has_block blocks.items c.args.self.now.spare.len c.requires.room) in
    omega (arith, within, blocks.ok.0)

pub index-requires : goal.index-requires
index-requires g c =
    let blocks = c.args.self.now.blocks in
    let within = c.place_of-place.ensures.there (has_block blocks.items c.args.self.now.spare.len c.requires.room) in
    omega (arith, within, blocks.ok.0)

pub index_mut-requires-2 : goal.index_mut-requires-2
index_mut-requires-2 g c =
    let blocks = c.args.self.now.blocks in
    let within = c.place_of-place.ensures.there (has_block blocks.items c.args.self.now.spare.len c.requires.room) in
    omega (arith, within, blocks.ok.0)

pub insert-requires-clause-rises : goal.insert-requires-clause-rises
insert-requires-clause-rises g c =
    let o = g.met.K.Ord.total in
    let blocks = c.args.self.now.blocks.items in
    let place = c.place_of-place.result in
    let within = c.place_of-place.ensures.there (has_block blocks c.args.self.now.spare.len c.requires.room) in
    subst (λ b. Rises g.K.Ord.cmp (keys b.items)) (sym c.index_mut.ensures.value)
    (block_rises o blocks place _ c.requires.map.rises within)

pub insert-requires-clause-room : goal.insert-requires-clause-room
insert-requires-clause-room g c =
    let blocks = c.args.self.now.blocks.items in
    let place = c.place_of-place.result in
    let within = c.place_of-place.ensures.there (has_block blocks c.args.self.now.spare.len c.requires.room) in
    let free = subst IsOpen (sym c.index_mut.ensures.value) (block_at blocks place _ c.requires.map.sizes within) in
    omega (arith, free.0, free.1)

-- ---- the block is not full

pub returns-then-len-lt-FULL-clause-entries : goal.returns-then-len-lt-FULL-clause-entries
returns-then-len-lt-FULL-clause-entries g c =
    let o = g.met.K.Ord.total in
    let blocks = c.args.self.now.blocks.items in
    let place = c.place_of-place.result in
    let within = c.place_of-place.ensures.there (has_block blocks c.args.self.now.spare.len c.requires.room) in
    with_place o c.args.key c.args.value blocks place c.insert.new.block _ c.place_of-place.ensures.place within
    (c.insert.ensures.entries
    ∙ ap (λ b. with_value g.K.Ord.cmp c.args.key c.args.value b.items) c.index_mut.ensures.value)

pub returns-then-len-lt-FULL-clause-map : goal.returns-then-len-lt-FULL-clause-map
returns-then-len-lt-FULL-clause-map g c =
    let o = g.met.K.Ord.total in
    let m = c.requires.map in
    let blocks = c.args.self.now.blocks.items in
    let place = c.place_of-place.result in
    let new = c.insert.new.block in
    let within = c.place_of-place.ensures.there (has_block blocks c.args.self.now.spare.len c.requires.room) in
    let free = subst IsOpen (sym c.index_mut.ensures.value) (block_at blocks place _ m.sizes within) in
    let same : c.index.result.now ≡ new = c.index.ensures ∙ get_or-set_same blocks place new _ within in
    let some = with_some o c.args.key c.args.value c.index_mut.result.now.items in
    record {
      rises =
          rw (returns-then-len-lt-FULL-clause-entries g c)
          (rises_with o c.args.key c.args.value (entries c.args.self.now) m.rises);
      sizes =
          blocks_set blocks place new m.sizes (λ n. omega (arith, ap length c.insert.ensures.entries, some)) (
            omega (arith, c.if-len-lt-FULL.true, c.len.ensures, ap (λ b. b.len) same, new.ok.0),
            omega (arith, free.1, c.insert.ensures.capacity),
          );
      spare = m.spare;
      room = m.room;
      back = m.back;
      few = m.few;
    }

pub returns-then-len-lt-FULL-clause-room : goal.returns-then-len-lt-FULL-clause-room
returns-then-len-lt-FULL-clause-room g c =
    let blocks = c.args.self.now.blocks.items in
    let place = c.place_of-place.result in
    let n = c.args.self.now.spare.len in
    let old = c.index_mut.result.now in
    let new = c.insert.new.block in
    let some = has_block blocks n c.requires.room in
    let within = c.place_of-place.ensures.there some in
    omega (
      arith,
      room_is blocks n some,
      room_is (set blocks place new) n (omega (arith, some, length-set blocks place new)),
      over_more blocks place 1 new old within (omega (
        arith,
        ap (λ b. length b.items) c.index_mut.ensures.value,
        ap length c.insert.ensures.entries,
        with_more g.met.K.Ord.total c.args.key c.args.value old.items,
      )),
    )

-- ---- the block is split

-- half of the entries stay at least, and one goes
kept_bounds : (blocks place n : ℕ) → StaysInSplit blocks place n → (half ≤ n) × (n < full)
kept_bounds blocks place n (inl h) = (omega (arith, h), omega (arith, h))
kept_bounds blocks place n (inr h) = (omega (arith, h.0), omega (arith, h.0))

pub kept_of-kept-requires : goal.kept_of-kept-requires
kept_of-kept-requires g c =
    let blocks = c.args.self.now.blocks.items in
    let within = c.place_of-place.ensures.there (has_block blocks c.args.self.now.spare.len c.requires.room) in
    omega (
      arith,
      within,
      ap length c.deref.ensures.value,
      length-set blocks c.place_of-place.result c.insert.new.block,
    )

pub split-requires-clause-place : goal.split-requires-clause-place
split-requires-clause-place g c =
    let blocks = c.args.self.now.blocks.items in
    let place = c.place_of-place.result in
    let new = c.insert.new.block in
    let within = c.place_of-place.ensures.there (has_block blocks c.args.self.now.spare.len c.requires.room) in
    let long : 64 ≤ length new.items =
    omega (
      arith,
      c.if-len-lt-FULL.false,
      c.len.ensures,
      ap (λ b. b.len) (c.index.ensures ∙ get_or-set_same blocks place new _ within),
      new.ok.0,
    ) in
    omega (
      arith,
      long,
      (kept_bounds _ place c.kept_of-kept.result c.kept_of-kept.ensures).1,
      ap (λ b. length b.items) (c.index_mut-2.ensures.value ∙ get_or-set_same blocks place new _ within),
    )

pub split-requires-clause-empty : goal.split-requires-clause-empty
split-requires-clause-empty g c =
    let popped = rw c.unwrap-back.ensures at c.pop.ensures.items in
    (all_last IsBlank c.pop.new.self.items c.args.self.now.spare.items c.unwrap-back.result c.requires.map.spare
    popped).0

pub split-requires-clause-room : goal.split-requires-clause-room
split-requires-clause-room g c =
    let blocks = c.args.self.now.blocks.items in
    let place = c.place_of-place.result in
    let new = c.insert.new.block in
    let old = c.index_mut.result.now in
    let within = c.place_of-place.ensures.there (has_block blocks c.args.self.now.spare.len c.requires.room) in
    let free = subst IsOpen (sym c.index_mut.ensures.value) (block_at blocks place _ c.requires.map.sizes within) in
    let popped = rw c.unwrap-back.ensures at c.pop.ensures.items in
    let all = c.requires.map.spare in
    let blank =
    all_last IsBlank c.pop.new.self.items c.args.self.now.spare.items c.unwrap-back.result all popped in
    omega (
      arith,
      free.0,
      blank.1,
      with_more g.met.K.Ord.total c.args.key c.args.value old.items,
      ap length c.insert.ensures.entries,
      ap (λ b. length b.items) (c.index_mut-2.ensures.value ∙ get_or-set_same blocks place new _ within),
    )

pub overflow_add-place : goal.overflow_add-place
overflow_add-place g c =
    let blocks = c.args.self.now.blocks in
    let within = c.place_of-place.ensures.there (has_block blocks.items c.args.self.now.spare.len c.requires.room) in
    omega (arith, within, blocks.ok.0, c.requires.map.few)

pub insert-requires-2 : goal.insert-requires-2
insert-requires-2 g c =
    let blocks = c.args.self.now.blocks in
    let within = c.place_of-place.ensures.there (has_block blocks.items c.args.self.now.spare.len c.requires.room) in
    omega (arith, within, blocks.ok.0)

pub returns-clause-entries : goal.returns-clause-entries
returns-clause-entries g c =
    let o = g.met.K.Ord.total in
    let blocks = c.args.self.now.blocks.items in
    let place = c.place_of-place.result in
    let new = c.insert.new.block in
    let prefix = c.split.new.block in
    let back = c.split.new.back in
    let within = c.place_of-place.ensures.there (has_block blocks c.args.self.now.spare.len c.requires.room) in
    let items = rw (c.unwrap.ensures, add-one) at c.insert-2.ensures.items in
    let parts = c.split.ensures.entries ∙ ap (λ b. b.items) c.index_mut-2.ensures.value in
    ap joined items
    ∙ joined_split (set blocks place new) place prefix back _ (omega (arith, within, length-set blocks place new)) parts
    ∙ with_place o c.args.key c.args.value blocks place new _ c.place_of-place.ensures.place within
    (c.insert.ensures.entries
    ∙ ap (λ b. with_value g.K.Ord.cmp c.args.key c.args.value b.items) c.index_mut.ensures.value)

pub returns-clause-map : goal.returns-clause-map
returns-clause-map g c =
    let o = g.met.K.Ord.total in
    let m = c.requires.map in
    let blocks = c.args.self.now.blocks.items in
    let place = c.place_of-place.result in
    let new = c.insert.new.block in
    let old = c.index_mut.result.now in
    let prefix = c.split.new.block in
    let back = c.split.new.back in
    let within = c.place_of-place.ensures.there (has_block blocks c.args.self.now.spare.len c.requires.room) in
    let free = subst IsOpen (sym c.index_mut.ensures.value) (block_at blocks place _ m.sizes within) in
    let popped = rw c.unwrap-back.ensures at c.pop.ensures.items in
    let blank = all_last IsBlank c.pop.new.self.items c.args.self.now.spare.items c.unwrap-back.result m.spare popped in
    let same = c.index_mut-2.ensures.value ∙ get_or-set_same blocks place new _ within in
    let long : 64 ≤ length new.items =
    omega (
      arith,
      c.if-len-lt-FULL.false,
      c.len.ensures,
      ap (λ b. b.len) (c.index.ensures ∙ get_or-set_same blocks place new _ within),
      new.ok.0,
    ) in
    let short : length new.items ≤ 64 =
    omega (
      arith,
      free.0,
      with_more o c.args.key c.args.value old.items,
      ap length c.insert.ensures.entries,
    ) in
    let bounds = kept_bounds _ place c.kept_of-kept.result c.kept_of-kept.ensures in
    let rest : length back.items + c.kept_of-kept.result ≡ 64 =
    omega (
      arith,
      long,
      short,
      ap (λ b. length b.items) same,
      ap length c.split.ensures.entries,
      length-append prefix.items back.items,
      c.split.ensures.len,
    ) in
    let placed = rw (c.unwrap.ensures, add-one, set_again) at c.insert-2.ensures.items in
    record {
      rises =
          rw (returns-clause-entries g c) (rises_with o c.args.key c.args.value (entries c.args.self.now) m.rises);
      sizes =
          subst AreBlocks (sym placed) (blocks_insert (set blocks place prefix) place back
          (blocks_set blocks place prefix m.sizes (λ n. omega (arith, c.split.ensures.len, bounds)) (
            omega (arith, c.split.ensures.len, bounds),
            omega (
              arith,
              free.1,
              c.insert.ensures.capacity,
              c.split.ensures.kept,
              ap (λ b. b.cap) same,
            ),
          ))
          (omega (arith, rest, bounds)) (omega (arith, rest, bounds), omega (arith, blank.1, c.split.ensures.capacity))
          (omega (arith, within, length-set blocks place prefix)));
      spare = subst (All IsBlank) (sym c.pop.ensures.rest) (All-take IsBlank _ _ m.spare);
      room =
          omega (
            arith,
            m.room,
            rw c.unwrap.ensures at c.insert-2.ensures.len,
            rw c.unwrap-back.ensures at c.pop.ensures.cases,
            c.insert-2.ensures.capacity,
          );
      back =
          omega (
            arith,
            m.back,
            rw c.unwrap.ensures at c.insert-2.ensures.len,
            rw c.unwrap-back.ensures at c.pop.ensures.cases,
            c.pop.ensures.capacity,
          );
      few =
          omega (
            arith,
            m.few,
            rw c.unwrap.ensures at c.insert-2.ensures.len,
            rw c.unwrap-back.ensures at c.pop.ensures.cases,
          );
    }

pub returns-clause-room : goal.returns-clause-room
returns-clause-room g c =
    let blocks = c.args.self.now.blocks.items in
    let place = c.place_of-place.result in
    let n = c.args.self.now.spare.len in
    let old = c.index_mut.result.now in
    let new = c.insert.new.block in
    let prefix = c.split.new.block in
    let back = c.split.new.back in
    let now = set blocks place new in
    let split = insert (set blocks place prefix) (suc place) back in
    let some = has_block blocks n c.requires.room in
    let within = c.place_of-place.ensures.there some in
    let same = c.index_mut-2.ensures.value ∙ get_or-set_same blocks place new _ within in
    let there : place < length now = omega (arith, within, length-set blocks place new) in
    let after : suc place ≤ length (set blocks place prefix) =
    omega (arith, within, length-set blocks place prefix) in
    let free = subst IsOpen (sym c.index_mut.ensures.value) (block_at blocks place _ c.requires.map.sizes within) in
    let long : 64 ≤ length new.items =
    omega (
      arith,
      c.if-len-lt-FULL.false,
      c.len.ensures,
      ap (λ b. b.len) (c.index.ensures ∙ get_or-set_same blocks place new _ within),
      new.ok.0,
    ) in
    let more = with_more g.met.K.Ord.total c.args.key c.args.value old.items in
    let count = ap length c.insert.ensures.entries in
    let was : length old.items + 1 ≡ full = omega (arith, free.0, long, more, count) in
    let parts : length prefix.items + length back.items ≡ full =
    omega (
      arith,
      free.0,
      long,
      more,
      count,
      ap (λ b. length b.items) same,
      ap length c.split.ensures.entries,
      length-append prefix.items back.items,
    ) in
    let blocks_now : length c.deref.result.now ≡ length blocks =
    ap length c.deref.ensures.value ∙ length-set blocks place new in
    let kept : StaysInSplit (length blocks) place (length prefix.items) =
    subst (λ n. StaysInSplit (length blocks) place n) (sym c.split.ensures.len)
    (subst (λ n. StaysInSplit n place c.kept_of-kept.result) blocks_now c.kept_of-kept.ensures) in
    let items = rw (c.unwrap.ensures, add-one, set_again) at c.insert-2.ensures.items in
    omega (
      arith,
      c.requires.room,
      room_is blocks n some,
      ap (λ bs. room bs c.pop.new.self.len) items,
      room_is split c.pop.new.self.len
          (omega (arith, length-insert (set blocks place prefix) (suc place) back after)),
      rw c.unwrap-back.ensures at c.pop.ensures.cases,
      over_split blocks place prefix back old within
          (omega (arith, was, ap (λ b. length b.items) c.index_mut.ensures.value)) parts kept,
    )
