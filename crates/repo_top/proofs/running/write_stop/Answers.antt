use Rattle.std.proofs.Common.{◌≡◌, ◌+◌, ◌<◌, ◌∙◌, subst, take, length, List, ℕ}
use Rattle.repo_io.specs.Outside.{GainsText}
use Rattle.script_lines.specs.LineErrors.{line_error_text}
use Rattle.repo_top.proofs.Stops.{halts_unwritten}
use Rattle.repo_top.proofs.running.write_stop.Goals as goal

pub returns-in-Err-clause-halts : goal.returns-in-Err-clause-halts
returns-in-Err-clause-halts g c =
    let line = c.args.line in
    let n = c.in-Err.field-0.written in
    let before = g.K.Sink.out c.args.sink.now in
    let after = g.K.Sink.out c.write_whole.new.sink in
    let text : c.deref.result.now ≡ line_error_text line c.args.error = c.deref.ensures.value ∙ c.in-Ok.ensures.text in
    let P : List ℕ → Type 0 = λ t. GainsText before after (take n t) in
    let Q : List ℕ → Type 0 = λ t. n < length t in
    halts_unwritten line c.args.error before after n (subst P text c.in-Err.ensures.prefix)
    (subst Q text c.in-Err.ensures.missing)
