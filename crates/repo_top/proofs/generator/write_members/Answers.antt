use Rattle.std.proofs.Common.{rules, ◌≡◌, ◌+◌, ℕ, List, Err, ◌∙◌, subst, arith}
use Rattle.repo_io.proofs.Outputs.{prefix_as}
use Rattle.repo_top.specs.declared.generator.GenerateError.TheVariants.{Failed}
use Rattle.repo_io.specs.Outside.{GainsText, GainsPrefix}
use Rattle.repo_top.specs.Generator.{member_text}
use Rattle.repo_top.proofs.Scripts.{prefix_in_next, prefix_so_many, no_texts, one_text_more}
use Rattle.repo_top.proofs.generator.write_members.Goals as goal

pub loop-before-init : goal.loop-before-init
loop-before-init g c = record { so_far = no_texts member_text (g.K.Sink.out c.args.sink.now); faults = omega arith }

pub returns-in_err-put_member-clause-prefix : goal.returns-in_err-put_member-clause-prefix
returns-in_err-put_member-clause-prefix g c =
    prefix_so_many member_text (g.K.Sink.out c.args.sink.now) (g.K.Sink.out c.loop-before.sink) c.loop-before.before
    c.args.members (omega (arith, c.loop-before-test.true)) (λ e. search rules) c.loop-before.invariant.so_far

pub returns-in_err-write_line-clause-prefix : goal.returns-in_err-write_line-clause-prefix
returns-in_err-write_line-clause-prefix g c =
    let before = g.K.Sink.out c.loop-before.sink in
    let after = g.K.Sink.out c.write_line.new.sink in
    let line = c.deref.ensures ∙ c.in_ok-put_member.ensures in
    prefix_in_next member_text (g.K.Sink.out c.args.sink.now) before after c.loop-before.before c.args.members
    c.loop-before-test.true c.loop-before.invariant.so_far
    (prefix_as before after (member_text (c.loop-before.before + 1)) (λ e. search rules)
    (subst (λ (t : List ℕ). GainsPrefix before after t (c.write_line.result ≡ Err Failed)) line
    c.write_line.ensures.prefix))

pub loop-before-preserved : goal.loop-before-preserved
loop-before-preserved g c =
    let before = g.K.Sink.out c.loop-before.sink in
    let after = g.K.Sink.out c.write_line.new.sink in
    let line = c.deref.ensures ∙ c.in_ok-put_member.ensures in
    record {
      so_far = one_text_more member_text (g.K.Sink.out c.args.sink.now) before after c.loop-before.before
          c.loop-before.invariant.so_far (subst (GainsText before after) line c.in_ok-write_line.ensures.whole);
      faults = omega (arith, c.loop-before.invariant.faults, c.write_line.ensures.faults);
    }
