use Rattle.std.proofs.Common.{rules, ◌≡◌, ◌∙◌, ℕ, Err, ◌+◌, ◌++◌, refl, sym, ap, subst, arith}
use Rattle.repo_io.specs.Outside.{GainsText, GainsPrefix}
use Rattle.repo_top.specs.declared.generator.GenerateError.TheVariants.{Failed}
use Rattle.repo_top.specs.Generator.{drawn, next_state, object_text, publish_line, generator_state, texts, turns_text}
use Rattle.repo_io.proofs.Outputs.{prefix_as}
use Rattle.repo_top.proofs.Scripts.{prefix_in_next, no_texts, one_text_more, state_more}
use Rattle.repo_top.proofs.generator.write_objects.Goals as goal

pub loop-before-init : goal.loop-before-init
unfolding generator_state
loop-before-init g c = record {
  so_far = no_texts (object_text c.args.measures.members c.args.measures.seed) (g.K.Sink.out c.args.sink.now);
  state = refl;
  faults = omega arith;
}

pub returns-in_err-write_object-clause-prefix : goal.returns-in_err-write_object-clause-prefix
returns-in_err-write_object-clause-prefix g c =
    let members = c.args.measures.members in
    let seed = c.args.measures.seed in
    let k = c.loop-before.before in
    let before = g.K.Sink.out c.loop-before.sink in
    let after = g.K.Sink.out c.write_object.new.sink in
    let same : c.next_state-state.result ≡ generator_state seed (k + 1) =
    c.next_state-state.ensures ∙ ap next_state c.loop-before.invariant.state ∙ sym (state_more seed k) in
    let object : ℕ → Type 0 = λ s. GainsPrefix before after
    (publish_line members (k + 1) (drawn s) ++ turns_text members (k + 1)) (c.write_object.result ≡ Err Failed) in
    prefix_as (g.K.Sink.out c.args.sink.now) after (texts (object_text members seed) c.args.measures.objects)
    (λ e. search rules) (prefix_in_next (object_text members seed) (g.K.Sink.out c.args.sink.now) before after k
    c.args.measures.objects c.loop-before-test.true c.loop-before.invariant.so_far
    (subst object same c.write_object.ensures.prefix))

pub loop-before-preserved : goal.loop-before-preserved
loop-before-preserved g c =
    let members = c.args.measures.members in
    let seed = c.args.measures.seed in
    let k = c.loop-before.before in
    let before = g.K.Sink.out c.loop-before.sink in
    let after = g.K.Sink.out c.write_object.new.sink in
    let same : c.next_state-state.result ≡ generator_state seed (k + 1) =
    c.next_state-state.ensures ∙ ap next_state c.loop-before.invariant.state ∙ sym (state_more seed k) in
    let object : ℕ → Type 0 = λ s. GainsText before after
    (publish_line members (k + 1) (drawn s) ++ turns_text members (k + 1)) in
    record {
      so_far = one_text_more (object_text members seed) (g.K.Sink.out c.args.sink.now) before after k
          c.loop-before.invariant.so_far (subst object same c.in_ok-write_object.ensures.whole);
      state = same;
      faults = omega (arith, c.loop-before.invariant.faults, c.write_object.ensures.faults);
    }
