use Rattle.std.proofs.Common.{◌≡◌, ◌∙◌, sym, ap, map, string_bytes, Some}
use Rattle.repo_top.specs.declared.asked.Asked.{Asked}
use Rattle.repo_top.specs.declared.asked.Asked.TheVariants.{Inspect}
use Rattle.repo_top.specs.Forms.{asked_of}
use Rattle.script_story.specs.Evaluation.{env_by}
use Rattle.repo_top.proofs.Ends.{inspected_left}
use Rattle.repo_top.proofs.top.run.Goals as goal

pub returns-in-Some-Inspect-clause-world : goal.returns-in-Some-Inspect-clause-world
returns-in-Some-Inspect-clause-world g c =
    let e : asked_of (map string_bytes c.args.words.now) ≡ Some Inspect = sym c.in-Some-Inspect.ensures.value
    ∙ ap (λ (t : Asked). Some t) c.in-Some-Inspect.field-0-is in
    inspected_left (env_by (g.D.Draws.draw c.args.draws.now) (g.N.Net.passes c.args.net.now))
    (asked_of (map string_bytes c.args.words.now)) (g.S.Source.left c.args.source.now) c.inspect.result
    c.args.end.now e c.requires
