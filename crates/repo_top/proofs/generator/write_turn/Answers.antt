use Rattle.std.proofs.Common.{rules, ◌≡◌, ◌++◌, ℕ, List, Err, ◌∙◌, subst}
use Rattle.repo_top.specs.declared.generator.GenerateError.TheVariants.{Failed}
use Rattle.repo_io.specs.Outside.{GainsText, GainsPrefix}
use Rattle.repo_top.specs.Generator.{deliver_text, fetch_line}
use Rattle.repo_io.proofs.Outputs.{prefix_as, prefix_after, prefix_longer}
use Rattle.repo_top.proofs.generator.write_turn.Goals as goal

pub returns-in_err-write_line-clause-prefix : goal.returns-in_err-write_line-clause-prefix
returns-in_err-write_line-clause-prefix g c =
    let before = g.K.Sink.out c.args.sink.now in
    let between = g.K.Sink.out c.write_line.new.sink in
    let deliver = deliver_text c.args.object c.args.member in
    let fetch = fetch_line c.args.member in
    let line : List ℕ → Type 0 = λ t. GainsPrefix before between t (c.write_line.result ≡ Err Failed) in
    prefix_as before between (deliver ++ fetch) (λ e. search rules) (prefix_longer before between deliver fetch
    (subst line (c.deref.ensures ∙ c.in_ok-put_deliver.ensures) c.write_line.ensures.prefix))

pub returns-clause-prefix : goal.returns-clause-prefix
returns-clause-prefix g c =
    let before = g.K.Sink.out c.args.sink.now in
    let between = g.K.Sink.out c.write_line.new.sink in
    let after = g.K.Sink.out c.write_line-2.new.sink in
    prefix_after before between after (deliver_text c.args.object c.args.member) (fetch_line c.args.member)
    (subst (GainsText before between) (c.deref.ensures ∙ c.in_ok-put_deliver.ensures) c.in_ok-write_line.ensures.whole)
    (subst (λ (t : List ℕ). GainsPrefix between after t (c.write_line-2.result ≡ Err Failed))
    (c.deref-2.ensures ∙ c.in_ok-put_fetch.ensures) c.write_line-2.ensures.prefix)
