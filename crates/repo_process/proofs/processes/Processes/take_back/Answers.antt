use Rattle.std.proofs.Common.{◌≡◌, false, IsTrue, Option, subst, arith}
use Rattle.std.specs.Prelude.{IsSomeAnd}
use Rattle.repo_process.specs.Processes.{Process, has_block, without_block}
use Rattle.repo_process.proofs.PlaceLemmas.{found, change_replaced}
use Rattle.repo_process.proofs.processes.Processes.take_back.Goals as goal

pub index_mut-requires : goal.index_mut-requires
index_mut-requires c =
    let m = c.self.inside in
    let at =
    found m c.args.self.now c.self.invariant c.self.view_is c.args.process c.in-Some.place
    (rw c.from.ensures at c.in-Some.ensures) in
    omega (arith, at.within, m.insertions.ok.0)

pub take_back-requires-clause-open : goal.take_back-requires-clause-open
take_back-requires-clause-open c =
    let m = c.self.inside in
    let at =
    found m c.args.self.now c.self.invariant c.self.view_is c.args.process c.in-Some.place
    (rw c.from.ensures at c.in-Some.ensures) in
    let P : Option Process → Type 0 =
    λ o. IsSomeAnd o (λ p. (p.published ≡ false) × IsTrue (has_block p c.args.index)) in
    (subst P (at.there c.index_mut.result.now c.index_mut.ensures.value) c.requires).0

pub take_back-requires-clause-block : goal.take_back-requires-clause-block
take_back-requires-clause-block c =
    let m = c.self.inside in
    let at =
    found m c.args.self.now c.self.invariant c.self.view_is c.args.process c.in-Some.place
    (rw c.from.ensures at c.in-Some.ensures) in
    let P : Option Process → Type 0 =
    λ o. IsSomeAnd o (λ p. (p.published ≡ false) × IsTrue (has_block p c.args.index)) in
    (subst P (at.there c.index_mut.result.now c.index_mut.ensures.value) c.requires).1

pub returns-in-Some : goal.returns-in-Some
returns-in-Some c =
    let m = c.self.inside in
    let i = c.args.self.now in
    let at =
    found m i c.self.invariant c.self.view_is c.args.process c.in-Some.place (rw c.from.ensures at c.in-Some.ensures) in
    change_replaced m i c.self.invariant c.self.view_is c.args.process c.in-Some.place at c.index_mut.result.now
    c.take_back.new.self (without_block c.args.index) c.index_mut.ensures.value c.take_back.ensures
