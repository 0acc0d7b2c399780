use Rattle.std.proofs.Common.{◌≡◌, ◌+◌, ◌-◌, true, Option, map, length, subst, arith}
use Rattle.std.specs.Prelude.{IsSomeAnd}
use Rattle.repo_process.specs.Processes.{Process}
use Rattle.repo_process.specs.Arrivals.{reopened}
use Rattle.repo_process.proofs.PlaceLemmas.{found, change_replaced}
use Rattle.repo_process.proofs.processes.Processes.reopen.Goals as goal

pub index_mut-requires : goal.index_mut-requires
index_mut-requires c =
    let m = c.self.inside in
    let at =
    found m c.args.self.now c.self.invariant c.self.view_is c.args.process c.unwrap-place.result
    (rw (c.unwrap-place.ensures, c.from.ensures) at c.place.ensures) in
    omega (arith, at.within, m.insertions.ok.0)

pub reopen-requires-clause-closed : goal.reopen-requires-clause-closed
reopen-requires-clause-closed c =
    let m = c.self.inside in
    let at =
    found m c.args.self.now c.self.invariant c.self.view_is c.args.process c.unwrap-place.result
    (rw (c.unwrap-place.ensures, c.from.ensures) at c.place.ensures) in
    let P : Option Process → Type 0 =
    λ o. IsSomeAnd o (λ p. (p.published ≡ true) × (length c.args.contents.items ≡ p.last + 1 - p.first)) in
    (subst P (at.there c.index_mut.result.now c.index_mut.ensures.value) c.requires.closed).0

pub reopen-requires-clause-all : goal.reopen-requires-clause-all
reopen-requires-clause-all c =
    let m = c.self.inside in
    let at =
    found m c.args.self.now c.self.invariant c.self.view_is c.args.process c.unwrap-place.result
    (rw (c.unwrap-place.ensures, c.from.ensures) at c.place.ensures) in
    let P : Option Process → Type 0 =
    λ o. IsSomeAnd o (λ p. (p.published ≡ true) × (length c.args.contents.items ≡ p.last + 1 - p.first)) in
    (subst P (at.there c.index_mut.result.now c.index_mut.ensures.value) c.requires.closed).1

pub returns : goal.returns
returns c =
    let m = c.self.inside in
    let i = c.args.self.now in
    let at =
    found m i c.self.invariant c.self.view_is c.args.process c.unwrap-place.result
    (rw (c.unwrap-place.ensures, c.from.ensures) at c.place.ensures) in
    change_replaced m i c.self.invariant c.self.view_is c.args.process c.unwrap-place.result at c.index_mut.result.now
    c.reopen.new.self (reopened (map (λ v. v.items) c.args.contents.items)) c.index_mut.ensures.value c.reopen.ensures
