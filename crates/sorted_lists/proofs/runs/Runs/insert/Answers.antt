use Rattle.std.proofs.Common.{◌≡◌, Bool, true, false, not, List, refl, ap, ◌∙◌}
use Rattle.std.proofs.lemmas.Bool.{true≢false}
use Rattle.sorted_lists.specs.Runs.{has, Run, number_cmp}
use Rattle.sorted_lists.proofs.Numbers.{runs_with, set_with, has_with}
use Rattle.sorted_lists.proofs.runs.Runs.insert.Goals as goal

off : (b : Bool) → true ≡ not b → b ≡ false
off false h = refl
off true h = absurd (true≢false h)

pub invariant_of-self : goal.invariant_of-self
invariant_of-self g c =
    let o = g.met.P.Ord.total in
    let exact = c.self.invariant.0 in
    let es = c.self.inside.map.entries in
    let lacks = off _ c.in-Some.ensures.lacks in
    let whole : c.insert.new.self.entries ≡ runs_with o exact es c.self.invariant.1 c.args.number lacks =
    rw (c.take_end_of-last.ensures.runs, c.in-Some.ensures.start, c.take_end_of-last.ensures.end) at
    c.insert.ensures.entries in
    (exact, rw whole (set_with o exact es c.self.invariant.1 c.args.number lacks))

pub returns-clause-set : goal.returns-clause-set
returns-clause-set g c =
    let o = g.met.P.Ord.total in
    let exact = c.self.invariant.0 in
    let es = c.self.inside.map.entries in
    let lacks = off _ c.in-Some.ensures.lacks in
    let whole : c.insert.new.self.entries ≡ runs_with o exact es c.self.invariant.1 c.args.number lacks =
    rw (c.take_end_of-last.ensures.runs, c.in-Some.ensures.start, c.take_end_of-last.ensures.end) at
    c.insert.ensures.entries in
    rw whole (set_with o exact es c.self.invariant.1 c.args.number lacks)

pub returns-clause-numbers : goal.returns-clause-numbers
returns-clause-numbers g c =
    let o = g.met.P.Ord.total in
    let exact = c.self.invariant.0 in
    let es = c.self.inside.map.entries in
    let lacks = off _ c.in-Some.ensures.lacks in
    let whole : c.insert.new.self.entries ≡ runs_with o exact es c.self.invariant.1 c.args.number lacks =
    rw (c.take_end_of-last.ensures.runs, c.in-Some.ensures.start, c.take_end_of-last.ensures.end) at
    c.insert.ensures.entries in
    rw (← c.self.view_is)
    (λ x. ap (λ (zs : List (Run g.row.P.Denot)). has (number_cmp g.P.Ord.cmp) zs x) whole
    ∙ has_with o exact es c.self.invariant.1 c.args.number lacks x)
