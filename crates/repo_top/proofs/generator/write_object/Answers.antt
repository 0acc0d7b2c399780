use Rattle.std.proofs.Common.{rules, ◌≡◌, ◌++◌, ℕ, List, Err, ◌∙◌, subst}
use Rattle.repo_top.specs.declared.generator.GenerateError.TheVariants.{Failed}
use Rattle.repo_io.specs.Outside.{GainsText, GainsPrefix}
use Rattle.repo_top.specs.Generator.{publish_line, turns_text}
use Rattle.repo_io.proofs.Outputs.{prefix_as, prefix_after, prefix_longer}
use Rattle.repo_top.proofs.generator.write_object.Goals as goal

pub returns-in_err-write_line-clause-prefix : goal.returns-in_err-write_line-clause-prefix
returns-in_err-write_line-clause-prefix g c =
    let before = g.K.Sink.out c.args.sink.now in
    let between = g.K.Sink.out c.write_line.new.sink in
    let publish = publish_line c.args.members c.args.object c.args.draw in
    let turns = turns_text c.args.members c.args.object in
    let line : List ℕ → Type 0 = λ t. GainsPrefix before between t (c.write_line.result ≡ Err Failed) in
    prefix_as before between (publish ++ turns) (λ e. search rules) (prefix_longer before between publish turns
    (subst line (c.deref.ensures ∙ c.in_ok-put_publish.ensures) c.write_line.ensures.prefix))

pub returns-clause-prefix : goal.returns-clause-prefix
returns-clause-prefix g c =
    let before = g.K.Sink.out c.args.sink.now in
    let between = g.K.Sink.out c.write_line.new.sink in
    prefix_after before between (g.K.Sink.out c.write_turns.new.sink)
    (publish_line c.args.members c.args.object c.args.draw) (turns_text c.args.members c.args.object)
    (subst (GainsText before between) (c.deref.ensures ∙ c.in_ok-put_publish.ensures) c.in_ok-write_line.ensures.whole)
    c.write_turns.ensures.prefix
