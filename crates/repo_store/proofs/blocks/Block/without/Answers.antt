use Rattle.std.proofs.Common.{◌-◌, refl, arith}
use Rattle.repo_store.specs.declared.blocks.Block.{Block}
use Rattle.repo_store.proofs.BlockLemmas.{stays_before, stays_after}
use Rattle.repo_store.proofs.blocks.Block.without.Goals as goal

pub returns-then-self-place : goal.returns-then-self-place
returns-then-self-place c = stays_before c.args.place c.args.held.now c.args.self c.if-self-place.true

pub returns : goal.returns
returns c =
    let b = c.args.self in
    let moved : Block = record { start = b.start - 1; end = b.end - 1; least = b.least } in
    stays_after c.args.place c.args.held.now b moved (omega (arith, c.if-self-place-2.false))
    (omega (arith, c.if-self-place-2.false)) (omega (arith, c.if-self-place.false)) refl
