use Rattle.std.proofs.Common.{◌≡◌, ◌∙◌, ℕ, List, sym, ap, subst}
use Rattle.repo_io.specs.declared.status.Status.TheVariants.{WriteFault}
use Rattle.script_story.specs.Answers.{status_of}
use Rattle.repo_top.specs.Inspection.{inspect_run}
use Rattle.repo_io.specs.Outside.{GainsPrefix}
use Rattle.repo_top.proofs.Inspections.{not_foreign}
use Rattle.repo_io.proofs.Outputs.{prefix_taken}
use Rattle.repo_top.proofs.top.write_inspection.Goals as goal

pub returns-in-Ok-write_whole-clause-never_foreign : goal.returns-in-Ok-write_whole-clause-never_foreign
returns-in-Ok-write_whole-clause-never_foreign g c = λ line e.
    let same = ap status_of c.in-Ok.ensures.ending in
    not_foreign c.args.input.items line (sym same ∙ sym c.from.ensures ∙ e)

pub returns-clause-prefix : goal.returns-clause-prefix
returns-clause-prefix g c =
    let a = g.K.Sink.out c.args.sink.now in
    let b = g.K.Sink.out c.write_whole.new.sink in
    let text : c.deref.result.now ≡ (inspect_run c.args.input.items).text =
    c.deref.ensures.value ∙ c.in-Ok.ensures.text in
    let prefix : List ℕ → Type 0 = λ t. GainsPrefix a b t (WriteFault ≡ WriteFault) in
    subst prefix text (prefix_taken a b c.in-Err.field-0.written c.deref.result.now c.in-Err.ensures.missing
    c.in-Err.ensures.prefix)
