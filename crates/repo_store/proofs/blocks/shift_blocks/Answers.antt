use Rattle.std.proofs.Common.{inl, inr, ◌<◌, drop, length, None, ap, sym, subst, arith}
use Rattle.std.proofs.Math.ListN.{drop_of_length-le}
use Rattle.std.proofs.lemmas.List.{take_all}
use Rattle.sorted_lists.specs.Members.{In}
use Rattle.sorted_lists.proofs.Sets.{in_append}
use Rattle.sorted_lists.proofs.Members.{in_take}
use Rattle.repo_store.specs.declared.blocks.Block.{Block}
use Rattle.repo_store.proofs.BlockLemmas.{shifting_none, shifting_near, shifting_more}
use Rattle.repo_store.proofs.blocks.shift_blocks.Goals as goal

abbrev none : Block
none = record { start = 0; end = 0; least = None }

pub loop-block-init : goal.loop-block-init
loop-block-init c =
    rw c.deref_mut-block-items.ensures.value (shifting_none c.args.place c.args.held.now c.args.blocks.now.items)

pub without-requires : goal.without-requires
without-requires c =
    let len = c.loop-block.invariant.len in
    let within : c.loop-block.block-index < length c.loop-block.block-items =
    omega (arith, c.loop-block-test.true, len, ap length c.deref_mut-block-items.ensures.value) in
    shifting_near c.args.place c.args.held.now c.args.blocks.now.items c.loop-block.block-items c.loop-block.block-index
    none c.loop-block.invariant within c.requires

pub loop-block-preserved : goal.loop-block-preserved
loop-block-preserved c =
    let len = c.loop-block.invariant.len in
    let within : c.loop-block.block-index < length c.loop-block.block-items =
    omega (arith, c.loop-block-test.true, len, ap length c.deref_mut-block-items.ensures.value) in
    shifting_more c.args.place c.args.held.now c.args.blocks.now.items c.loop-block.block-items c.loop-block.block-index
    none c.loop-block.invariant within c.without.result c.without.ensures

pub returns : goal.returns
returns c held within is are b i =
    let old = c.args.blocks.now.items in
    let now = c.loop-block.block-items in
    let len = c.loop-block.invariant.len in
    let all = take_all c.loop-block.block-index now
    (omega (arith, c.loop-block-test.false, len, ap length c.deref_mut-block-items.ensures.value)) in
    let none_left = drop_of_length-le old {i = length now} (omega (arith, len)) in
    c.loop-block.invariant.moved held within is are b (subst (In b) (sym all)
    (elim (in_append now (drop (length now) old) b (in_take c.args.blocks.now.len _ b i)) [
      | inl there ↦ there
      | inr after ↦ absurd (subst (In b) none_left after)
    ]))
