use Rattle.std.proofs.Common.{◌≡◌, ◌∙◌, ℕ, List, subst}
use Rattle.std.specs.Prelude.{⊤}
use Rattle.repo_io.specs.Outside.{GainsPrefix}
use Rattle.repo_io.proofs.Outputs.{prefix_taken}
use Rattle.script_report.specs.Refusals.{refusal_text}
use Rattle.live_top.proofs.top.refuse.Goals as goal

pub returns-clause-refused : goal.returns-clause-refused
returns-clause-refused g c =
    let a = g.K.Sink.out c.args.sink.now in
    let b = g.K.Sink.out c.write_whole.new.sink in
    let text : c.deref.result.now ≡ refusal_text c.args.line c.args.why = c.deref.ensures.value ∙ c.in-Ok.ensures in
    let prefix : List ℕ → Type 0 = λ t. GainsPrefix a b t ⊤ in
    subst prefix text
    (prefix_taken a b c.in-Err.field-0.written c.deref.result.now c.in-Err.ensures.missing c.in-Err.ensures.prefix)
