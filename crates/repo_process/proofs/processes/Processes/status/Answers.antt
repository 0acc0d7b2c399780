use Rattle.std.proofs.Common.{◌≡◌, ℕ, Bool, Some, sym, ap, ◌∙◌, arith}
use Rattle.std.specs.Option.{option_map}
use Rattle.repo_process.specs.Processes.{Process, present}
use Rattle.repo_process.proofs.PlaceLemmas.{found}
use Rattle.repo_process.proofs.processes.Processes.status.Goals as goal

pub index-requires : goal.index-requires
index-requires c =
    let m = c.self.inside in
    let at =
    found m c.args.self.now c.self.invariant c.self.view_is c.args.process c.in_ok-place.place c.in_ok-place.ensures in
    omega (arith, at.within, m.insertions.ok.0)

reported : (p : Process) (a : ℕ × Bool) → a.0 ≡ present p → a.1 ≡ p.published
    → Some a ≡ option_map (λ (q : Process). (present q, q.published)) (Some p)
reported p a n b = ap (λ (x : ℕ). Some (x, a.1)) n ∙ ap (λ (x : Bool). Some (present p, x)) b

pub returns : goal.returns
returns c =
    let m = c.self.inside in
    let p = c.index.result.now in
    let at =
    found m c.args.self.now c.self.invariant c.self.view_is c.args.process c.in_ok-place.place c.in_ok-place.ensures in
    reported p c.status.result c.status.ensures.present c.status.ensures.published
    ∙ sym (ap (option_map (λ (q : Process). (present q, q.published))) (at.there p c.index.ensures))
