use Rattle.std.proofs.Common.{◌≡◌, Some, Option, sym, ap, ◌∙◌, subst, arith}
use Rattle.std.specs.Prelude.{IfOk}
use Rattle.repo_process.specs.Processes.{Process, block_in}
use Rattle.repo_process.specs.Arrivals.{answer_of_block}
use Rattle.repo_process.specs.Insertions.{with_arrival}
use Rattle.repo_process.proofs.PlaceLemmas.{found, arrival_replaced, on_ok}
use Rattle.repo_process.proofs.processes.Processes.block.Goals as goal

pub index_mut-requires : goal.index_mut-requires
index_mut-requires c =
    let m = c.self.inside in
    let at =
    found m c.args.self.now c.self.invariant c.self.view_is c.args.process c.in-Some.place
    (rw c.from.ensures at c.in-Some.ensures) in
    omega (arith, at.within, m.insertions.ok.0)

pub returns-in-Some-clause-state : goal.returns-in-Some-clause-state
returns-in-Some-clause-state c =
    let m = c.self.inside in
    let at =
    found m c.args.self.now c.self.invariant c.self.view_is c.args.process c.in-Some.place
    (rw c.from.ensures at c.in-Some.ensures) in
    let P : Option Process → Type 0 =
    λ o. IfOk c.block.result (λ state. state ≡ answer_of_block (block_in c.args.index c.args.content.now o)) in
    subst P (sym (at.there c.index_mut.result.now c.index_mut.ensures.value)) c.block.ensures.state

pub returns-in-Some-clause-ok : goal.returns-in-Some-clause-ok
returns-in-Some-clause-ok c =
    let m = c.self.inside in
    let i = c.args.self.now in
    let p = c.index_mut.result.now in
    let at =
    found m i c.self.invariant c.self.view_is c.args.process c.in-Some.place (rw c.from.ensures at c.in-Some.ensures) in
    on_ok c.block.result
    (λ new.
    arrival_replaced m i c.self.invariant c.self.view_is c.args.process c.in-Some.place at p c.block.new.self
    (block_in c.args.index c.args.content.now (Some p)) c.index_mut.ensures.value new
    ∙ ap (λ o. with_arrival c.args.process i (block_in c.args.index c.args.content.now o))
    (sym (at.there p c.index_mut.ensures.value)))
    c.block.ensures.ok
