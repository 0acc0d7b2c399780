use Rattle.std.proofs.Common.{List, ℕ, Some, subst}
use Rattle.repo_io.specs.Outside.{HasRisen}
use Rattle.lab_text.specs.Outcomes.{HasCause, WritesOutcome}
use Rattle.lab_lint.specs.Linting.{outcome_in}
use Rattle.lab_lint.proofs.Wholes.{whole_causes, whole_writes}
use Rattle.lab_lint.proofs.linting.lint.Goals as goal

pub returns-clause-writes : goal.returns-clause-writes
returns-clause-writes g c =
    let a = g.K.Sink.out c.args.sink.now in
    let b = g.K.Sink.out c.write_lint.new.sink in
    let P : List ℕ → Type 0 = λ t. WritesOutcome (Some (outcome_in t)) a b c.write_lint.result in
    whole_writes (g.S.Source.left c.args.source.now) (g.S.Source.left c.read_up_to.new.source) c.in-Ok.input.items a b
    c.write_lint.result c.in-Ok.ensures.taken c.in-Ok.ensures.most c.in-Ok.ensures.whole
    (subst P c.deref.ensures.value c.write_lint.ensures.writes)

pub returns-clause-causes : goal.returns-clause-causes
returns-clause-causes g c =
    let Source = HasRisen (g.S.Source.faults c.args.source.now) (g.S.Source.faults c.read_up_to.new.source) in
    let Sink = HasRisen (g.K.Sink.faults c.args.sink.now) (g.K.Sink.faults c.write_lint.new.sink) in
    let P : List ℕ → Type 0 = λ t. HasCause (Some (outcome_in t)) c.write_lint.result ⊥ Sink in
    whole_causes Source Sink (g.S.Source.left c.args.source.now) (g.S.Source.left c.read_up_to.new.source)
    c.in-Ok.input.items c.write_lint.result c.in-Ok.ensures.taken c.in-Ok.ensures.most c.in-Ok.ensures.whole
    (subst P c.deref.ensures.value c.write_lint.ensures.causes)
