use Rattle.std.proofs.Common.{arith, ap, ◌∙◌}
use Rattle.std.proofs.lemmas.List.{take_all}
use Rattle.std.proofs.Math.Numerals.{add-one}
use Rattle.std.proofs.Common.{length, take, ◌≡◌, ◌+◌, suc}
use Rattle.sorted_lists.specs.BlockMap.{joined}
use Rattle.sorted_lists.proofs.Blocks.{counted_more, counted_within, counted_bound}
use Rattle.sorted_lists.proofs.block_map.BlockMap.len.Goals as goal

pub overflow_add-n : goal.overflow_add-n
overflow_add-n g c =
    let blocks = c.deref-block-items.result.now in
    let block = c.block-item.result in
    let so_far = rw (← c.deref-block-items.ensures.value) at c.loop-block.invariant in
    let kept = rw (← c.deref-block-items.ensures.value) at c.requires.sizes in
    omega (
      arith,
      so_far,
      c.len-n.ensures,
      block.ok.0,
      ap (λ b. length b.items) c.block-item.is,
      counted_within blocks c.loop-block.block-index block c.loop-block-test.true,
      counted_bound blocks kept,
      c.deref-block-items.ensures.len,
      c.requires.few,
    )

pub loop-block-preserved : goal.loop-block-preserved
loop-block-preserved g c =
    let blocks = c.deref-block-items.result.now in
    let block = c.block-item.result in
    let so_far = rw (← c.deref-block-items.ensures.value) at c.loop-block.invariant in
    let more = counted_more blocks c.loop-block.block-index block c.loop-block-test.true in
    let next : c.loop-block.n + c.len-n.result ≡ length (joined (take (suc c.loop-block.block-index) blocks)) =
    omega (arith, so_far, more, c.len-n.ensures, block.ok.0, ap (λ b. length b.items) c.block-item.is) in
    rw (c.deref-block-items.ensures.value, ← add-one) at next

pub returns : goal.returns
returns g c =
    c.loop-block.invariant
    ∙ ap (λ bs. length (joined bs))
    (take_all c.loop-block.block-index c.args.self.now.blocks.items
    (rw c.deref-block-items.ensures.value at c.loop-block-test.false))
