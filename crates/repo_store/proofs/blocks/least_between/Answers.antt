use Rattle.std.proofs.Common.{◌≡◌, ℕ, true, List, get_or, Option, None, sym, ap, subst, ◌∙◌, arith}
use Rattle.sorted_lists.proofs.Members.{in_at}
use Rattle.repo_store.specs.declared.blocks.Block.{Block}
use Rattle.repo_store.specs.PacketTable.{Stored}
use Rattle.repo_store.specs.Indexes.{IsFirstOf, lesser}
use Rattle.repo_store.specs.Blocks.{piece}
use Rattle.repo_store.proofs.BlockLemmas.{least_none, least_more, blocks_between}
use Rattle.repo_store.proofs.blocks.least_between.Goals as goal
use Rattle.repo_store.proofs.blocks.least_between.Goals.{then-from-block+then-block-end, else-from-block}

abbrev none : Block
none = record { start = 0; end = 0; least = None }

pub loop-block-init : goal.loop-block-init
loop-block-init c = record {
  low = omega arith;
  high = c.requires.rises;
  least = least_none c.args.held.now c.args.start;
}

pub piece-requires-clause-within : goal.piece-requires-clause-within
piece-requires-clause-within c =
    let near = c.split_at-2.result.0 in
    let i = c.loop-block.block-index in
    let are =
    blocks_between c.args.held.now c.args.blocks.now c.split_at.result.1.now near.now c.partition_point.result
    c.partition_point-2.result c.split_at.ensures.back c.split_at-2.ensures.front c.requires.blocks in
    let block = are (get_or near.now i none) (in_at near.now i none c.loop-block-test.true) in
    omega (arith, block.rises, block.within)

pub loop-block-preserved : goal.loop-block-preserved
loop-block-preserved c =
    let held = c.args.held.now in
    let start = c.args.start in
    let near = c.split_at-2.result.0 in
    let i = c.loop-block.block-index in
    let b = get_or near.now i none in
    let are =
    blocks_between held c.args.blocks.now c.split_at.result.1.now near.now c.partition_point.result
    c.partition_point-2.result c.split_at.ensures.back c.split_at-2.ensures.front c.requires.blocks in
    let block = are b (in_at near.now i none c.loop-block-test.true) in
    let from = c.loop-block.from in
    let old = c.loop-block.least in
    let so_far = c.loop-block.invariant in
    let now = c.if-from-block in
    elim c.if-from-block.branch [
      | then-from-block+then-block-end w ↦
          let before = w.least_of-before.result in
          let first =
          subst (λ (xs : List Stored). IsFirstOf xs (λ h. true) before) w.piece.ensures w.least_of-before.ensures in
          let is : now.least ≡ lesser (lesser old before) b.least =
          w.least-is ∙ w.lesser-least.ensures ∙ ap (λ (o : Option Stored). lesser o b.least) w.lesser.ensures in
          let more =
          least_more held start b.start b.end (lesser old before) b.least
          (omega (arith, so_far.low, w.if-from-block.true)) block.rises
          (least_more held start from b.start old before so_far.low w.if-from-block.true so_far.least first)
          block.least in
          record {
            low = omega (arith, w.from-is, so_far.low, w.if-from-block.true, block.rises);
            high = omega (arith, w.from-is, w.if-block-end.true);
            least =
                subst (λ (o : Option Stored). IsFirstOf (piece start now.from held) (λ h. true) o) (sym is)
                (subst (λ (e : ℕ). IsFirstOf (piece start e held) (λ h. true) (lesser (lesser old before) b.least))
                (sym w.from-is) more);
          }
      | else-from-block w ↦
          record {
            low = omega (arith, w.from-is, so_far.low);
            high = omega (arith, w.from-is, so_far.high);
            least =
                subst (λ (o : Option Stored). IsFirstOf (piece start now.from held) (λ h. true) o) (sym w.least-is)
                (subst (λ (e : ℕ). IsFirstOf (piece start e held) (λ h. true) old) (sym w.from-is) so_far.least);
          }
    ]

pub returns : goal.returns
returns c =
    let held = c.args.held.now in
    let so_far = c.loop-block.invariant in
    let first =
    subst (λ (xs : List Stored). IsFirstOf xs (λ h. true) c.least_of.result) c.piece-2.ensures c.least_of.ensures in
    rw c.lesser-2.ensures
    (least_more held c.args.start c.loop-block.from c.args.end c.loop-block.least c.least_of.result so_far.low
    so_far.high so_far.least first)
