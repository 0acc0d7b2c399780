use Rattle.std.proofs.Common.{◌≡◌, ◌⊎◌, sym, ◌∙◌, subst}
use Rattle.repo_io.specs.declared.status.Status.TheVariants.{NoMemory, WriteFault}
use Rattle.repo_io.specs.Statuses.{IsEndOfRun}
use Rattle.script_story.specs.Answers.{status_of}
use Rattle.repo_io.specs.Outside.{GainsText, GainsPrefix}
use Rattle.script_story.specs.ScriptRun.{ScriptRun}
use Rattle.repo_top.specs.Inspection.{inspect_run}
use Rattle.repo_top.proofs.InspectRuns.{by_run, printed_ends, unfailing_ends, none_left}
use Rattle.repo_top.proofs.top.inspect.Goals as goal

pub returns-clause-end : goal.returns-clause-end
returns-clause-end g c = λ printed.
    let read = c.in-Ok.input.items in
    let ends = printed_ends c.write_inspection.result (inspect_run read).ending c.write_inspection.ensures.ends
    printed in
    let Q : ScriptRun → Type 0 = λ s. c.write_inspection.result ≡ status_of s.ending in
    by_run Q (g.S.Source.left c.args.source.now) (g.S.Source.left c.read_up_to.new.source) read c.in-Ok.ensures.taken
    c.in-Ok.ensures.whole ends

pub returns-clause-text : goal.returns-clause-text
returns-clause-text g c = λ printed.
    let gained = c.write_inspection.ensures.text printed in
    let Q : ScriptRun → Type 0 =
    λ s. GainsText (g.K.Sink.out c.args.sink.now) (g.K.Sink.out c.write_inspection.new.sink)
    s.text in
    by_run Q (g.S.Source.left c.args.source.now) (g.S.Source.left c.read_up_to.new.source) c.in-Ok.input.items
    c.in-Ok.ensures.taken c.in-Ok.ensures.whole gained

pub returns-clause-prefix : goal.returns-clause-prefix
returns-clause-prefix g c =
    let gained = c.write_inspection.ensures.prefix in
    let Q : ScriptRun → Type 0 =
    λ s. GainsPrefix (g.K.Sink.out c.args.sink.now) (g.K.Sink.out c.write_inspection.new.sink)
    s.text (c.write_inspection.result ≡ WriteFault) in
    by_run Q (g.S.Source.left c.args.source.now) (g.S.Source.left c.read_up_to.new.source) c.in-Ok.input.items
    c.in-Ok.ensures.taken c.in-Ok.ensures.whole gained

pub returns-clause-read_to_end : goal.returns-clause-read_to_end
returns-clause-read_to_end g c = λ done.
    let read = c.in-Ok.input.items in
    let printed : IsEndOfRun c.write_inspection.result = subst IsEndOfRun (sym done) tt in
    let ends = printed_ends c.write_inspection.result (inspect_run read).ending c.write_inspection.ensures.ends
    printed in
    none_left (g.S.Source.left c.args.source.now) (g.S.Source.left c.read_up_to.new.source) read c.in-Ok.ensures.taken
    c.in-Ok.ensures.whole (sym done ∙ ends)

pub returns-clause-complete : goal.returns-clause-complete
returns-clause-complete g c = λ sound_source sound_sink.
    let read = c.in-Ok.input.items in
    let Q : ScriptRun → Type 0 = λ s. (c.write_inspection.result ≡ status_of s.ending)
    ⊎ (c.write_inspection.result ≡ NoMemory) in
    by_run Q (g.S.Source.left c.args.source.now) (g.S.Source.left c.read_up_to.new.source) read c.in-Ok.ensures.taken
    c.in-Ok.ensures.whole (unfailing_ends c.write_inspection.result (inspect_run read).ending
    c.write_inspection.ensures.ends (λ failed. sound_sink (c.write_inspection.ensures.write_fault failed)))
