use Rattle.std.proofs.Common.{sym, subst, List, ℕ, arith}
use Rattle.repo_io.specs.Lines.{lines}
use Rattle.script_story.specs.Evaluation.{env_by}
use Rattle.script_lines.specs.Scripts.{reached}
use Rattle.lab_lines.specs.Carrying.{Carried, Ends, Fails, Halts, Passes, passed}
use Rattle.lab_lines.specs.Folding.{outcome_of, ran_from}
use Rattle.lab_lines.specs.Written.{Known}
use Rattle.lab_lines.proofs.Carryings.{known_failed, known_finished, known_halted, known_line, known_read}
use Rattle.lab_lines.proofs.Carryings.{known_unread}
use Rattle.lab_lines.proofs.reading.run_lines.Goals as goal

pub prefix-line-requires : goal.prefix-line-requires
prefix-line-requires g c = let h = rw c.in-Ok-Line.field-0-is at c.in-Ok-Line.ensures.next in h.within

pub pass-requires : goal.pass-requires
pass-requires g c = let h = rw c.in-Ok-Line.field-0-is at c.in-Ok-Line.ensures.next in h.within

pub returns-in-Err-Faulted-clause-runs : goal.returns-in-Err-Faulted-clause-runs
returns-in-Err-Faulted-clause-runs g c =
    let f = g.F.Form.form in
    let env = env_by (g.D.Draws.draw c.args.draws.now) (g.N.Net.passes c.args.net.now) in
    let begun = c.args.form.now in
    let held = c.next.new.self in
    let p = passed c.loop-count.totals (reached c.loop-count.script) in
    let m = c.loop-count.form in
    let out = g.K.Sink.out c.args.sink.now in
    let mid = g.K.Sink.out c.loop-count.sink in
    let before = g.S.Source.left c.args.source.now in
    let now = g.S.Source.left c.next.new.source in
    let so_far = known_read f env begun out c.loop-count.reader held p m mid before
    (g.S.Source.left c.loop-count.source) now c.in-Ok-Line.ensures.kept c.loop-count.invariant.so_far in
    let h = rw c.in-Ok-Line.field-0-is at c.in-Ok-Line.ensures.next in
    let count = c.in-Ok-Line.count in
    let over = rw c.in-Err-Faulted.field-0-is at c.in-Err-Faulted.ensures.over in
    let P : List ℕ → Type 0 = λ line. Fails f env p m line mid (g.K.Sink.out c.pass_line.new.sink)
    c.in-Err-Faulted.status in
    known_failed f env begun out held p m mid (g.K.Sink.out c.pass_line.new.sink) before now count
    c.in-Err-Faulted.status h (subst P c.prefix-line.ensures over) so_far

pub returns-in-Err-Stopped-clause-runs : goal.returns-in-Err-Stopped-clause-runs
returns-in-Err-Stopped-clause-runs g c =
    let f = g.F.Form.form in
    let env = env_by (g.D.Draws.draw c.args.draws.now) (g.N.Net.passes c.args.net.now) in
    let begun = c.args.form.now in
    let held = c.next.new.self in
    let p = passed c.loop-count.totals (reached c.loop-count.script) in
    let m = c.loop-count.form in
    let out = g.K.Sink.out c.args.sink.now in
    let mid = g.K.Sink.out c.loop-count.sink in
    let before = g.S.Source.left c.args.source.now in
    let now = g.S.Source.left c.next.new.source in
    let so_far = known_read f env begun out c.loop-count.reader held p m mid before
    (g.S.Source.left c.loop-count.source) now c.in-Ok-Line.ensures.kept c.loop-count.invariant.so_far in
    let h = rw c.in-Ok-Line.field-0-is at c.in-Ok-Line.ensures.next in
    let count = c.in-Ok-Line.count in
    let over = rw c.in-Err-Stopped.field-0-is at c.in-Err-Stopped.ensures.over in
    let totals = c.pass_line.new.totals in
    let n = c.pass_line.new.form in
    let P : List ℕ → Type 0 = λ line. Halts f env p m line c.in-Err-Stopped.ending totals n mid
    (g.K.Sink.out c.pass_line.new.sink) in
    known_halted f env begun out held p m mid (g.K.Sink.out c.pass_line.new.sink)
    (g.K.Sink.out c.after_stop.new.sink) before now (g.S.Source.left c.after_stop.new.source) count c.after_stop.result
    c.in-Err-Stopped.ending totals n h c.in-Ok-Line.ensures.few (subst P c.prefix-line.ensures over)
    c.after_stop.ensures.ends so_far

pub loop-count-preserved : goal.loop-count-preserved
loop-count-preserved g c =
    let f = g.F.Form.form in
    let env = env_by (g.D.Draws.draw c.args.draws.now) (g.N.Net.passes c.args.net.now) in
    let begun = c.args.form.now in
    let held = c.next.new.self in
    let p = passed c.loop-count.totals (reached c.loop-count.script) in
    let m = c.loop-count.form in
    let out = g.K.Sink.out c.args.sink.now in
    let mid = g.K.Sink.out c.loop-count.sink in
    let before = g.S.Source.left c.args.source.now in
    let now = g.S.Source.left c.next.new.source in
    let so_far = known_read f env begun out c.loop-count.reader held p m mid before
    (g.S.Source.left c.loop-count.source) now c.in-Ok-Line.ensures.kept c.loop-count.invariant.so_far in
    let h = rw c.in-Ok-Line.field-0-is at c.in-Ok-Line.ensures.next in
    let count = c.in-Ok-Line.count in
    let q = passed c.pass_line.new.totals (reached c.in-Ok.next) in
    let n = c.pass_line.new.form in
    let P : List ℕ → Type 0 = λ line. Passes f env p m line q n mid (g.K.Sink.out c.pass_line.new.sink) in
    let Q : List ℕ → Type 0 = λ left. Known before now
    (Carried f env begun left q n out (g.K.Sink.out c.pass_line.new.sink)) in
    let passes = subst P c.prefix-line.ensures c.in-Ok.ensures.passes in
    record {
      so_far = subst Q (sym c.pass.ensures)
          (known_line f env begun out held p m mid (g.K.Sink.out c.pass_line.new.sink) before now count q n h passes
          so_far);
      goes_on = c.in-Ok.ensures.goes_on;
      source = omega (arith, c.loop-count.invariant.source, c.in-Ok-Line.ensures.faults);
      sink = omega (arith, c.loop-count.invariant.sink, c.pass_line.ensures.faults.kept);
    }

pub returns-in-Ok-Last-clause-runs : goal.returns-in-Ok-Last-clause-runs
returns-in-Ok-Last-clause-runs g c =
    let f = g.F.Form.form in
    let env = env_by (g.D.Draws.draw c.args.draws.now) (g.N.Net.passes c.args.net.now) in
    let begun = c.args.form.now in
    let held = c.next.new.self in
    let p = passed c.loop-count.totals (reached c.loop-count.script) in
    let m = c.loop-count.form in
    let out = g.K.Sink.out c.args.sink.now in
    let mid = g.K.Sink.out c.loop-count.sink in
    let before = g.S.Source.left c.args.source.now in
    let now = g.S.Source.left c.next.new.source in
    let so_far = known_read f env begun out c.loop-count.reader held p m mid before
    (g.S.Source.left c.loop-count.source) now c.in-Ok-Last.ensures.kept c.loop-count.invariant.so_far in
    let P : List ℕ → Type 0 = λ line. Ends (outcome_of f (ran_from f env p m (lines line))) mid
    (g.K.Sink.out c.run_last.new.sink) c.run_last.result in
    known_finished f env begun out held p m mid (g.K.Sink.out c.run_last.new.sink) before now c.run_last.result
    (c.in-Ok-Last.ensures.last c.in-Ok-Last.field-0-is) c.in-Ok-Last.ensures.few c.run_last.ensures.settled
    (subst P c.held-line.ensures c.run_last.ensures.ends) so_far

pub returns-in-Err-clause-runs : goal.returns-in-Err-clause-runs
returns-in-Err-clause-runs g c =
    let f = g.F.Form.form in
    let env = env_by (g.D.Draws.draw c.args.draws.now) (g.N.Net.passes c.args.net.now) in
    let begun = c.args.form.now in
    let held = c.next.new.self in
    let p = passed c.loop-count.totals (reached c.loop-count.script) in
    let m = c.loop-count.form in
    let out = g.K.Sink.out c.args.sink.now in
    let mid = g.K.Sink.out c.loop-count.sink in
    let before = g.S.Source.left c.args.source.now in
    let now = g.S.Source.left c.next.new.source in
    let so_far = known_read f env begun out c.loop-count.reader held p m mid before
    (g.S.Source.left c.loop-count.source) now c.in-Err.ensures.kept c.loop-count.invariant.so_far in
    known_unread f env begun out held p m mid before now c.in-Err.ensures.failed so_far
