use Rattle.std.proofs.Common.{◌≡◌, None, Some, Option, sym, arith}
use Rattle.std.specs.Prelude.{MatchOption}
use Rattle.std.proofs.Common.{subst}
use Rattle.repo_process.specs.Processes.{Process}
use Rattle.repo_process.specs.Arrivals.{whole_object, lent_object}
use Rattle.repo_process.proofs.PlaceLemmas.{found}
use Rattle.repo_process.proofs.processes.Processes.whole.Goals as goal

pub index-requires : goal.index-requires
index-requires c =
    let m = c.self.inside in
    let at =
    found m c.args.self.now c.self.invariant c.self.view_is c.args.process c.in_ok-place.place
    (rw c.from.ensures at c.in_ok-place.ensures) in
    omega (arith, at.within, m.insertions.ok.0)

pub returns-clause-object : goal.returns-clause-object
returns-clause-object c =
    let m = c.self.inside in
    let p = c.index.result.now in
    let at =
    found m c.args.self.now c.self.invariant c.self.view_is c.args.process c.in_ok-place.place
    (rw c.from.ensures at c.in_ok-place.ensures) in
    let P : Option Process → Type 0 =
    λ o. MatchOption c.whole.result (whole_object o ≡ None) (λ lent. whole_object o ≡ Some (lent_object lent)) in
    subst P (sym (at.there p c.index.ensures)) c.whole.ensures.object
