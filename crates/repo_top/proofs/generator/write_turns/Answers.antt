use Rattle.std.proofs.Common.{rules, arith}
use Rattle.repo_top.specs.Generator.{texts, turn_text}
use Rattle.repo_io.proofs.Outputs.{prefix_as}
use Rattle.repo_top.proofs.Scripts.{prefix_in_next, no_texts, one_text_more}
use Rattle.repo_top.proofs.generator.write_turns.Goals as goal

pub loop-before-init : goal.loop-before-init
loop-before-init g c = record {
  so_far = no_texts (turn_text c.args.object) (g.K.Sink.out c.args.sink.now);
  faults = omega arith;
}

pub returns-in_err-write_turn-clause-prefix : goal.returns-in_err-write_turn-clause-prefix
returns-in_err-write_turn-clause-prefix g c =
    let a = g.K.Sink.out c.args.sink.now in
    let d = g.K.Sink.out c.write_turn.new.sink in
    rw c.if-object-ne0.false (prefix_as a d (texts (turn_text c.args.object) c.args.members) (λ e. search rules)
    (prefix_in_next (turn_text c.args.object) a (g.K.Sink.out c.loop-before.sink) d c.loop-before.before c.args.members
    c.loop-before-test.true c.loop-before.invariant.so_far c.write_turn.ensures.prefix))

pub loop-before-preserved : goal.loop-before-preserved
loop-before-preserved g c = record {
  so_far = one_text_more (turn_text c.args.object) (g.K.Sink.out c.args.sink.now) (g.K.Sink.out c.loop-before.sink)
      (g.K.Sink.out c.write_turn.new.sink) c.loop-before.before c.loop-before.invariant.so_far
      c.in_ok-write_turn.ensures.whole;
  faults = omega (arith, c.loop-before.invariant.faults, c.write_turn.ensures.faults);
}
