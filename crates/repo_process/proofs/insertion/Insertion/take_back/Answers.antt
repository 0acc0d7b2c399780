use Rattle.std.proofs.Common.{◌≡◌, ◌+◌, ◌-◌, length, sym, ap, ◌∙◌, arith}
use Rattle.std.specs.Prelude.{slice_set}
use Rattle.std.proofs.lemmas.List.{length-map}
use Rattle.repo_process.specs.Processes.{has_block, without_block}
use Rattle.repo_process.specs.Fields.{contents_of}
use Rattle.repo_process.proofs.BlockLemmas.{block_within}
use Rattle.repo_process.proofs.ProcessLemmas.{of_contents, without_block-at}
use Rattle.repo_process.proofs.InsideLemmas.{items, opened, placed_is, placed_process}
use Rattle.repo_process.proofs.insertion.Insertion.take_back.Goals as goal

pub overflow_sub-index : goal.overflow_sub-index
overflow_sub-index c =
    let m = c.self.inside in
    let o = opened m c.args.self.now c.self.invariant c.self.view_is c.requires.open in
    (block_within c.args.index m.first (contents_of m)
    (ap (λ p. has_block p c.args.index) (sym o.same) ∙ c.requires.block)).0

pub index_mut-requires : goal.index_mut-requires
index_mut-requires c =
    let m = c.self.inside in
    let o = opened m c.args.self.now c.self.invariant c.self.view_is c.requires.open in
    let within =
    block_within c.args.index m.first (contents_of m)
    (ap (λ p. has_block p c.args.index) (sym o.same) ∙ c.requires.block) in
    omega (arith, within, length-map m.contents.items items, m.contents.ok.0)

pub invariant_of-self : goal.invariant_of-self
invariant_of-self c =
    let m = c.self.inside in
    let o = opened m c.args.self.now c.self.invariant c.self.view_is c.requires.open in
    placed_is m c.args.self.now (c.args.index - m.first) c.new.result c.self.invariant o
    (omega (arith, ap length c.new.ensures.items))

pub returns : goal.returns
returns c =
    let m = c.self.inside in
    let o = opened m c.args.self.now c.self.invariant c.self.view_is c.requires.open in
    let within =
    block_within c.args.index m.first (contents_of m)
    (ap (λ p. has_block p c.args.index) (sym o.same) ∙ c.requires.block) in
    let j = c.args.index - m.first in
    let at : m.first + j ≡ c.args.index = omega (arith, within) in
    placed_process m c.args.self.now j c.new.result o
    ∙ ap (λ content. of_contents m.name m.first m.last (slice_set (contents_of m) j content)) c.new.ensures.items
    ∙ sym (without_block-at m.name m.first m.last (contents_of m) o.long j (omega (arith, within)))
    ∙ ap (λ p. without_block (m.first + j) p) (sym o.same)
    ∙ ap (λ n. without_block n c.args.self.now) at
