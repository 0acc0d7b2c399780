use Rattle.std.proofs.Common.{◌∙◌, sym, subst, List, ℕ, arith}
use Rattle.script_story.specs.Evaluation.{env_by}
use Rattle.script_lines.specs.Scripts.{reached}
use Rattle.repo_top.specs.Carrying.{Carried, Finishes, Known, Stops, Took}
use Rattle.repo_io.specs.Lines.{lines}
use Rattle.repo_top.proofs.KnownRuns.{known_finished, known_line, known_read, known_stopped, known_unread}
use Rattle.repo_top.proofs.running.run_script.Goals as goal

pub prefix-line-requires : goal.prefix-line-requires
prefix-line-requires g c = let h = rw c.in-Ok-Line.field-0-is at c.in-Ok-Line.ensures.next in h.within

pub pass-requires : goal.pass-requires
pass-requires g c = let h = rw c.in-Ok-Line.field-0-is at c.in-Ok-Line.ensures.next in h.within

pub returns-in-Err-carry_out-clause-ran : goal.returns-in-Err-carry_out-clause-ran
returns-in-Err-carry_out-clause-ran g c =
    let env = env_by (g.D.Draws.draw c.args.draws.now) (g.N.Net.passes c.args.net.now) in
    let held = c.next.new.self in
    let r = reached c.loop-count.script in
    let out = g.K.Sink.out c.args.sink.now in
    let so_far = known_read env out c.loop-count.reader held r (g.K.Sink.out c.loop-count.sink)
    (g.S.Source.left c.args.source.now) (g.S.Source.left c.loop-count.source) (g.S.Source.left c.next.new.source)
    c.in-Ok-Line.ensures.kept c.loop-count.invariant.so_far in
    let h = rw c.in-Ok-Line.field-0-is at c.in-Ok-Line.ensures.next in
    let P : List ℕ → Type 0 = λ line. Stops env r line (g.K.Sink.out c.loop-count.sink)
    (g.K.Sink.out c.carry_out.new.sink) c.in-Err-carry_out.status in
    known_stopped env out held r (g.K.Sink.out c.loop-count.sink) (g.K.Sink.out c.carry_out.new.sink)
    (g.S.Source.left c.args.source.now) (g.S.Source.left c.next.new.source) c.in-Ok-Line.count c.loop-count.end
    c.in-Err-carry_out.status h c.in-Ok-Line.ensures.few
    (subst P c.prefix-line.ensures c.in-Err-carry_out.ensures.stops) so_far

pub loop-count-preserved : goal.loop-count-preserved
loop-count-preserved g c =
    let env = env_by (g.D.Draws.draw c.args.draws.now) (g.N.Net.passes c.args.net.now) in
    let held = c.next.new.self in
    let r = reached c.loop-count.script in
    let next = reached c.in-Ok-carry_out.next in
    let out = g.K.Sink.out c.args.sink.now in
    let so_far = known_read env out c.loop-count.reader held r (g.K.Sink.out c.loop-count.sink)
    (g.S.Source.left c.args.source.now) (g.S.Source.left c.loop-count.source) (g.S.Source.left c.next.new.source)
    c.in-Ok-Line.ensures.kept c.loop-count.invariant.so_far in
    let h = rw c.in-Ok-Line.field-0-is at c.in-Ok-Line.ensures.next in
    let P : List ℕ → Type 0 = λ line. Took env r line next (g.K.Sink.out c.loop-count.sink)
    (g.K.Sink.out c.carry_out.new.sink) in
    let Q : List ℕ → Type 0 = λ held. Known (g.S.Source.left c.args.source.now) (g.S.Source.left c.next.new.source)
    (Carried env held next out (g.K.Sink.out c.carry_out.new.sink)) in
    let line = known_line env out held r (g.K.Sink.out c.loop-count.sink) (g.K.Sink.out c.carry_out.new.sink)
    (g.S.Source.left c.args.source.now) (g.S.Source.left c.next.new.source) c.in-Ok-Line.count next h
    (subst P c.prefix-line.ensures c.in-Ok-carry_out.ensures.took) so_far in
    record {
      so_far = subst Q (sym c.pass.ensures) line;
      is = c.in-Ok-carry_out.ensures.is;
      none = c.loop-count.invariant.none;
      source = omega (arith, c.loop-count.invariant.source, c.in-Ok-Line.ensures.faults);
      sink = omega (arith, c.loop-count.invariant.sink, c.in-Ok-carry_out.ensures.faults);
    }

pub returns-in-Ok-Last-clause-ran : goal.returns-in-Ok-Last-clause-ran
returns-in-Ok-Last-clause-ran g c =
    let env = env_by (g.D.Draws.draw c.args.draws.now) (g.N.Net.passes c.args.net.now) in
    let held = c.next.new.self in
    let r = reached c.loop-count.script in
    let out = g.K.Sink.out c.args.sink.now in
    let so_far = known_read env out c.loop-count.reader held r (g.K.Sink.out c.loop-count.sink)
    (g.S.Source.left c.args.source.now) (g.S.Source.left c.loop-count.source) (g.S.Source.left c.next.new.source)
    c.in-Ok-Last.ensures.kept c.loop-count.invariant.so_far in
    let P : List ℕ → Type 0 = λ line. Finishes env r (lines line) c.run_last.new.end
    (g.K.Sink.out c.loop-count.sink) (g.K.Sink.out c.run_last.new.sink) c.run_last.result in
    known_finished env out held r (g.K.Sink.out c.loop-count.sink) (g.K.Sink.out c.run_last.new.sink)
    (g.S.Source.left c.args.source.now) (g.S.Source.left c.next.new.source) c.run_last.new.end c.run_last.result
    (c.in-Ok-Last.ensures.last c.in-Ok-Last.field-0-is) c.in-Ok-Last.ensures.few
    (subst P c.held-line.ensures c.run_last.ensures.finishes) so_far

pub returns-in-Err-clause-ran : goal.returns-in-Err-clause-ran
returns-in-Err-clause-ran g c =
    let env = env_by (g.D.Draws.draw c.args.draws.now) (g.N.Net.passes c.args.net.now) in
    let held = c.next.new.self in
    let r = reached c.loop-count.script in
    let so_far = known_read env (g.K.Sink.out c.args.sink.now) c.loop-count.reader held r
    (g.K.Sink.out c.loop-count.sink) (g.S.Source.left c.args.source.now) (g.S.Source.left c.loop-count.source)
    (g.S.Source.left c.next.new.source) c.in-Err.ensures.kept c.loop-count.invariant.so_far in
    known_unread env (g.K.Sink.out c.args.sink.now) c.loop-count.end held r (g.K.Sink.out c.loop-count.sink)
    (g.S.Source.left c.args.source.now) (g.S.Source.left c.next.new.source) c.in-Err.ensures.failed so_far

pub returns-in-Err-carry_out-clause-no_world : goal.returns-in-Err-carry_out-clause-no_world
returns-in-Err-carry_out-clause-no_world g c = λ other. c.loop-count.invariant.none

pub returns-in-Ok-Last-clause-no_world : goal.returns-in-Ok-Last-clause-no_world
returns-in-Ok-Last-clause-no_world g c = λ other. c.run_last.ensures.no_world other ∙ c.loop-count.invariant.none

pub returns-in-Err-clause-no_world : goal.returns-in-Err-clause-no_world
returns-in-Err-clause-no_world g c = λ other. c.loop-count.invariant.none
