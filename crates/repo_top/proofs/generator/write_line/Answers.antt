use Rattle.std.proofs.Common.{◌≡◌, ℕ, List, Err, subst}
use Rattle.repo_top.specs.declared.generator.GenerateError.TheVariants.{Failed}
use Rattle.repo_io.specs.Outside.{GainsPrefix}
use Rattle.repo_io.proofs.Outputs.{prefix_taken}
use Rattle.repo_top.proofs.generator.write_line.Goals as goal

pub returns-in_err-write_whole-clause-prefix : goal.returns-in_err-write_whole-clause-prefix
returns-in_err-write_whole-clause-prefix g c =
    let a = g.K.Sink.out c.args.sink.now in
    let b = g.K.Sink.out c.write_whole.new.sink in
    let line : List ℕ → Type 0 = λ t. GainsPrefix a b t (c.from_residual.result ≡ Err Failed) in
    subst line c.as_bytes.ensures.value (prefix_taken a b c.in_err-write_whole.field-0.0.written c.as_bytes.result.now
    c.in_err-write_whole.ensures.missing c.in_err-write_whole.ensures.prefix)
