use Rattle.std.proofs.Common.{◌∙◌, ◌≡◌, ◌<◌, ◌≤◌, ℕ, Vec, List, [], ◌∷◌, length, set, get_or, ap, sym, subst, arith}
use Rattle.std.specs.Prelude.{vec_capacity}
use Rattle.std.proofs.lemmas.List.Elements.{All-append}
use Rattle.std.proofs.lemmas.Bool.{eqb-true}
use Rattle.std.proofs.Common.{get_or-set_same, length-set}
use Rattle.std.specs.List.{All, remove}
use Rattle.std.proofs.lemmas.List.Edits.{length-remove}
use Rattle.sorted_lists.specs.SortedList.{keys, Rises, without_key}
use Rattle.sorted_lists.specs.BlockMap.{joined, room, full, AreBlocks, IsBlank, IsOpen, entries}
use Rattle.sorted_lists.proofs.MapChanges.{rises_without}
use Rattle.sorted_lists.proofs.Blocks.{none_joined, block_rises, block_at, without_place, without_fewer, none_of}
use Rattle.sorted_lists.proofs.Blocks.{positive, all_one}
use Rattle.sorted_lists.proofs.Blocks.{blocks_set, blocks_set_remove, joined_remove}
use Rattle.sorted_lists.proofs.Rooms.{room_is, over_more, over_remove}
use Rattle.sorted_lists.proofs.block_map.BlockMap.remove.Goals as goal
use Rattle.sorted_lists.proofs.block_map.BlockMap.remove.Goals.{else-place-gt0-via-then-place-gt0+else-is_empty}
use Rattle.sorted_lists.proofs.block_map.BlockMap.remove.Goals.{else-place-gt0-via-else-place-gt0}

pub returns-then-place-len-clause-entries : goal.returns-then-place-len-clause-entries
returns-then-place-len-clause-entries g c =
    let blocks = c.args.self.now.blocks in
    let none =
    none_joined g.met.K.Ord.total c.args.key blocks.items c.place_of-place.result c.place_of-place.ensures.place
    (omega (arith, c.if-place-len.true, c.len.ensures, blocks.ok.0)) in
    none ∙ sym (ap (without_key g.K.Ord.cmp c.args.key) none)

pub remove-requires : goal.remove-requires
remove-requires g c =
    let blocks = c.args.self.now.blocks in
    let within : c.place_of-place.result < length blocks.items =
    omega (arith, c.if-place-len.false, c.len.ensures, blocks.ok.0) in
    subst (λ b. Rises g.K.Ord.cmp (keys b.items)) (sym c.index_mut.ensures.value)
    (block_rises g.met.K.Ord.total blocks.items c.place_of-place.result _ c.requires.rises within)

-- ---- the block stays

pub returns-else-place-gt0-clause-entries : goal.returns-else-place-gt0-clause-entries
returns-else-place-gt0-clause-entries g c =
    let blocks = c.args.self.now.blocks in
    let within : c.place_of-place.result < length blocks.items =
    omega (arith, c.if-place-len.false, c.len.ensures, blocks.ok.0) in
    without_place g.met.K.Ord.total c.args.key blocks.items c.place_of-place.result c.remove.new.block _
    c.place_of-place.ensures.place within
    (c.remove.ensures.entries ∙ ap (λ b. without_key g.K.Ord.cmp c.args.key b.items) c.index_mut.ensures.value)

pub returns-else-place-gt0-clause-map : goal.returns-else-place-gt0-clause-map
returns-else-place-gt0-clause-map g c =
    let o = g.met.K.Ord.total in
    let m = c.requires in
    let blocks = c.args.self.now.blocks in
    let place = c.place_of-place.result in
    let new = c.remove.new.block in
    let within : place < length blocks.items = omega (arith, c.if-place-len.false, c.len.ensures, blocks.ok.0) in
    let free = subst IsOpen (sym c.index_mut.ensures.value) (block_at blocks.items place _ m.sizes within) in
    let some : 0 < place → 0 < length new.items =
    λ n. elim c.else-place-gt0.branch [
      | else-place-gt0-via-then-place-gt0+else-is_empty w ↦
          omega (
            arith,
            positive w.index.result.now.len w.if-is_empty.ensures,
            ap (λ b. b.len) (w.index.ensures ∙ get_or-set_same blocks.items place new _ within),
            new.ok.0,
          )
      | else-place-gt0-via-else-place-gt0 w ↦ absurd (omega (arith, n, w.if-place-gt0.false))
    ] in
    record {
      rises =
          rw (returns-else-place-gt0-clause-entries g c)
          (rises_without o c.args.key (entries c.args.self.now) m.rises);
      sizes =
          blocks_set blocks.items place new m.sizes some (
            omega (
              arith,
              free.0,
              ap length c.remove.ensures.entries,
              without_fewer o c.args.key c.index_mut.result.now.items,
            ),
            omega (arith, free.1, c.remove.ensures.capacity),
          );
      spare = m.spare;
      room = m.room;
      back = m.back;
      few = m.few;
    }

pub returns-else-place-gt0-clause-room : goal.returns-else-place-gt0-clause-room
returns-else-place-gt0-clause-room g c =
    let blocks = c.args.self.now.blocks in
    let place = c.place_of-place.result in
    let n = c.args.self.now.spare.len in
    let new = c.remove.new.block in
    let within : place < length blocks.items = omega (arith, c.if-place-len.false, c.len.ensures, blocks.ok.0) in
    omega (
      arith,
      room_is blocks.items n (omega (arith, within)),
      room_is (set blocks.items place new) n (omega (arith, within, length-set blocks.items place new)),
      over_more blocks.items place 0 new c.index_mut.result.now within (omega (
        arith,
        ap (λ b. length b.items) c.index_mut.ensures.value,
        ap length c.remove.ensures.entries,
        without_fewer g.met.K.Ord.total c.args.key c.index_mut.result.now.items,
      )),
    )

-- ---- the block is left out

pub returns-then-is_empty-clause-entries : goal.returns-then-is_empty-clause-entries
returns-then-is_empty-clause-entries g c =
    let blocks = c.args.self.now.blocks in
    let place = c.place_of-place.result in
    let new = c.remove.new.block in
    let now = set blocks.items place new in
    let within : place < length blocks.items = omega (arith, c.if-place-len.false, c.len.ensures, blocks.ok.0) in
    let same = get_or-set_same blocks.items place new new within in
    let empty =
    none_of new.items
    (omega (
      arith,
      eqb-true c.index.result.now.len 0 (sym c.if-is_empty.ensures),
      new.ok.0,
      ap (λ b. b.len) (c.index.ensures ∙ get_or-set_same blocks.items place new _ within),
    )) in
    ap joined c.remove-empty.ensures.items
    ∙ joined_remove now place new (omega (arith, within, length-set blocks.items place new))
    (ap (λ b. b.items) same ∙ empty)
    ∙ without_place g.met.K.Ord.total c.args.key blocks.items place new _ c.place_of-place.ensures.place within
    (c.remove.ensures.entries ∙ ap (λ b. without_key g.K.Ord.cmp c.args.key b.items) c.index_mut.ensures.value)

-- the block that is kept for later
emptied : {K V A : Type 0} (bs : List (Vec (K × V) A)) (i : ℕ) (b e : Vec (K × V) A) → i < length bs
    → e ≡ get_or (set bs i b) i e → b.items ≡ [] → full ≤ vec_capacity b → IsBlank e
emptied bs i b e l v h n = let same = v ∙ get_or-set_same bs i b e l in subst IsBlank (sym same) (h, n)

pub returns-then-is_empty-clause-map : goal.returns-then-is_empty-clause-map
returns-then-is_empty-clause-map g c =
    let m = c.requires in
    let blocks = c.args.self.now.blocks in
    let place = c.place_of-place.result in
    let new = c.remove.new.block in
    let within : place < length blocks.items = omega (arith, c.if-place-len.false, c.len.ensures, blocks.ok.0) in
    let free = subst IsOpen (sym c.index_mut.ensures.value) (block_at blocks.items place _ m.sizes within) in
    let same = get_or-set_same blocks.items place new new within in
    let empty =
    none_of new.items
    (omega (
      arith,
      eqb-true c.index.result.now.len 0 (sym c.if-is_empty.ensures),
      new.ok.0,
      ap (λ b. b.len) (c.index.ensures ∙ get_or-set_same blocks.items place new _ within),
    )) in
    let blank =
    emptied blocks.items place new c.remove-empty.result within c.remove-empty.ensures.value empty
    (omega (arith, free.1, c.remove.ensures.capacity)) in
    let pushed = rw c.unwrap.ensures at c.push.ensures.items in
    let pushed_len = rw c.unwrap.ensures at c.push.ensures.len in
    record {
      rises =
          rw (returns-then-is_empty-clause-entries g c)
          (rises_without g.met.K.Ord.total c.args.key (entries c.args.self.now) m.rises);
      sizes =
          subst AreBlocks (sym c.remove-empty.ensures.items)
          (blocks_set_remove blocks.items place new m.sizes (omega (arith, c.if-place-gt0.true)) within);
      spare =
          subst (All IsBlank) (sym pushed)
          (All-append IsBlank c.args.self.now.spare.items (c.remove-empty.result ∷ []) m.spare
          (all_one IsBlank _ blank));
      room = omega (arith, m.room, c.remove-empty.ensures.len, c.remove-empty.ensures.capacity, pushed_len);
      back = omega (arith, m.back, c.remove-empty.ensures.len, c.push.ensures.capacity, pushed_len);
      few = omega (arith, m.few, c.remove-empty.ensures.len, pushed_len);
    }

pub returns-then-is_empty-clause-room : goal.returns-then-is_empty-clause-room
returns-then-is_empty-clause-room g c =
    let blocks = c.args.self.now.blocks in
    let place = c.place_of-place.result in
    let n = c.args.self.now.spare.len in
    let new = c.remove.new.block in
    let old = c.index_mut.result.now in
    let now = set blocks.items place new in
    let within : place < length blocks.items = omega (arith, c.if-place-len.false, c.len.ensures, blocks.ok.0) in
    let there : place < length now = omega (arith, within, length-set blocks.items place new) in
    omega (
      arith,
      room_is blocks.items n (omega (arith, within)),
      ap (λ bs. room bs c.push.new.self.len) c.remove-empty.ensures.items,
      room_is (remove now place) c.push.new.self.len
          (omega (arith, there, c.if-place-gt0.true, length-remove now place there)),
      rw c.unwrap.ensures at c.push.ensures.len,
      over_remove now place there,
      over_more blocks.items place 0 new old within (omega (
        arith,
        ap (λ b. length b.items) c.index_mut.ensures.value,
        ap length c.remove.ensures.entries,
        without_fewer g.met.K.Ord.total c.args.key old.items,
      )),
    )
