use Rattle.std.proofs.Common.{◌≡◌, ℕ, List, subst}
use Rattle.repo_io.specs.Outside.{GainsPrefix}
use Rattle.lab_text.specs.declared.status.LabStatus.TheVariants.{Usage, WriteFault}
use Rattle.lab_top.proofs.Prefixes.{written_prefix}
use Rattle.lab_top.proofs.top.write_usage.Goals as goal

never : {P : Type 0} → Usage ≡ WriteFault → P
never h = cc

pub returns-clause-prefix : goal.returns-clause-prefix
returns-clause-prefix g c =
    let a = g.K.Sink.out c.args.sink.now in
    let b = g.K.Sink.out c.write_whole.new.sink in
    let of_text : List ℕ → Type 0 = λ t. GainsPrefix a b t (Usage ≡ WriteFault) in
    subst of_text c.as_bytes.ensures.value (written_prefix a b c.as_bytes.result.now (λ fault. fault.written)
    c.write_whole.result (λ h. never h) c.write_whole.ensures.whole c.write_whole.ensures.prefix
    c.write_whole.ensures.missing)
