use Rattle.std.proofs.Common.{Option, sym, ap, ◌∙◌, subst, arith}
use Rattle.std.specs.Ordering.{nat_cmp}
use Rattle.sorted_lists.specs.SortedList.{Rises, keys}
use Rattle.repo_process.specs.Processes.{Process, block_in}
use Rattle.repo_process.specs.Arrivals.{is_last}
use Rattle.repo_process.specs.Insertions.{Insertions}
use Rattle.repo_process.proofs.Numbered.{numbered_rise}
use Rattle.repo_process.proofs.PlaceLemmas.{found}
use Rattle.repo_process.proofs.processes.Processes.completes.Goals as goal

pub index-requires : goal.index-requires
index-requires c =
    let m = c.self.inside in
    let at =
    found m c.args.self.now c.self.invariant c.self.view_is c.args.process c.in-Some.place
    (rw c.from.ensures at c.in-Some.ensures) in
    omega (arith, at.within, m.insertions.ok.0)

pub returns-in-Some-clause-last : goal.returns-in-Some-clause-last
returns-in-Some-clause-last c =
    let m = c.self.inside in
    let at =
    found m c.args.self.now c.self.invariant c.self.view_is c.args.process c.in-Some.place
    (rw c.from.ensures at c.in-Some.ensures) in
    λ content is. c.completes.ensures content is
    ∙ ap (λ (o : Option Process). is_last (block_in c.args.index content o))
    (sym (at.there c.index.result.now c.index.ensures))

pub returns-in-Some-clause-ordered : goal.returns-in-Some-clause-ordered
returns-in-Some-clause-ordered c =
    subst (λ (i : Insertions). Rises nat_cmp (keys i.processes)) c.self.view_is
    (numbered_rise _ c.self.inside.insertions.items)

pub returns-in-None-clause-ordered : goal.returns-in-None-clause-ordered
returns-in-None-clause-ordered c =
    subst (λ (i : Insertions). Rises nat_cmp (keys i.processes)) c.self.view_is
    (numbered_rise _ c.self.inside.insertions.items)
