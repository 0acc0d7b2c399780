use Rattle.std.proofs.Common.{◌≡◌, ◌-◌, length, sym, ap, ◌∙◌, arith}
use Rattle.std.specs.Prelude.{slice_get}
use Rattle.std.specs.Option.{option_map}
use Rattle.repo_process.proofs.PlaceLemmas.{not_found, past_last, stands}
use Rattle.repo_process.proofs.processes.Processes.place.Goals as goal

pub returns-then-process-first : goal.returns-then-process-first
returns-then-process-first c =
    let m = c.self.inside in
    not_found m c.args.self.now c.self.invariant c.self.view_is c.args.process
    (omega (arith, m.insertions.ok.0, c.len.ensures))

pub returns-then-self-process : goal.returns-then-self-process
returns-then-self-process c =
    let m = c.self.inside in
    past_last m c.args.self.now c.self.invariant c.self.view_is c.args.process c.if-self-process.true

pub returns : goal.returns
returns c =
    let m = c.self.inside in
    let i = c.args.self.now in
    let same : m.next - length m.insertions.items ≡ m.next - c.len.result =
    omega (arith, m.insertions.ok.0, c.len.ensures) in
    ap (λ f. option_map (λ p. p.0) (slice_get i.processes (c.args.process - f))) (sym same)
    ∙ stands m i c.self.invariant c.self.view_is c.args.process (omega (arith, m.insertions.ok.0, c.len.ensures))
    (omega arith)
