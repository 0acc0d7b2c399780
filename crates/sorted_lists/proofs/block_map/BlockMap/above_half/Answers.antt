use Rattle.std.proofs.Common.{arith, ap, ◌∙◌}
use Rattle.std.proofs.lemmas.List.{take_all}
use Rattle.std.proofs.Math.Numerals.{add-one}
use Rattle.std.proofs.Common.{length, take, ◌≡◌, ◌+◌, suc}
use Rattle.sorted_lists.specs.BlockMap.{above_half}
use Rattle.sorted_lists.proofs.Rooms.{above_more, above_within, above_bound}
use Rattle.sorted_lists.proofs.block_map.BlockMap.above_half.Goals as goal

pub overflow_add-n : goal.overflow_add-n
overflow_add-n g c =
    let blocks = c.deref-block-items.result.now in
    let block = c.block-item.result in
    let so_far = rw (← c.deref-block-items.ensures.value) at c.loop-block.invariant in
    let kept = rw (← c.deref-block-items.ensures.value) at c.requires.sizes in
    omega (
      arith,
      so_far,
      c.len.ensures,
      c.saturating_sub-n.ensures,
      block.ok.0,
      ap (λ b. length b.items) c.block-item.is,
      above_more blocks c.loop-block.block-index block c.loop-block-test.true,
      above_within blocks c.loop-block.block-index c.loop-block-test.true,
      above_bound blocks kept,
      c.deref-block-items.ensures.len,
      c.requires.few,
    )

pub loop-block-preserved : goal.loop-block-preserved
loop-block-preserved g c =
    let blocks = c.deref-block-items.result.now in
    let block = c.block-item.result in
    let so_far = rw (← c.deref-block-items.ensures.value) at c.loop-block.invariant in
    let more = above_more blocks c.loop-block.block-index block c.loop-block-test.true in
    let next : c.loop-block.n + c.saturating_sub-n.result ≡ above_half (take (suc c.loop-block.block-index) blocks) =
    omega (
      arith,
      so_far,
      more,
      c.len.ensures,
      c.saturating_sub-n.ensures,
      block.ok.0,
      ap (λ b. length b.items) c.block-item.is,
    ) in
    rw (c.deref-block-items.ensures.value, ← add-one) at next

pub returns : goal.returns
returns g c =
    let all =
    c.loop-block.invariant
    ∙ ap above_half
    (take_all c.loop-block.block-index c.args.self.now.blocks.items
    (rw c.deref-block-items.ensures.value at c.loop-block-test.false)) in
    record {
      number = all;
      few = omega (
        arith,
        all,
        above_bound c.args.self.now.blocks.items c.requires.sizes,
        c.args.self.now.blocks.ok.0,
      );
    }
