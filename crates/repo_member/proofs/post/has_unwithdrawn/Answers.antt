use Rattle.std.proofs.Common.{rules, ◌≡◌, ◌-◌, Some, length, sym, ap, ◌∙◌}
use Rattle.std.specs.Prelude.{slice_get}
use Rattle.std.proofs.lemmas.Bool.{ltb-true}
use Rattle.std.proofs.lemmas.Option.{slice_get-get_or}
use Rattle.repo_member.specs.declared.post.Post.{Post}
use Rattle.repo_member.specs.declared.post.Post.TheVariants.{Object}
use Rattle.repo_member.proofs.PostLemmas.{is_open, unwithdrawn_is}
use Rattle.repo_member.proofs.post.has_unwithdrawn.Goals as goal

there : (c : goal.In-Some-Object)
    → slice_get c.args.log.now c.in-Some.place
    ≡ Some (Object c.in-Some-Object.field-0-0 c.in-Some-Object.withdrawn)
there c =
    let found = c.in-Some-Object.ensures.lookup in
    slice_get-get_or c.args.log.now c.in-Some.place c.in-Some-Object.field-0.now
    (ltb-true c.in-Some.place (length c.args.log.now) (sym found.0))
    ∙ ap (λ (p : Post). Some p) (sym found.1 ∙ c.in-Some-Object.field-0-is)

pub returns-in-Some-Object : goal.returns-in-Some-Object
returns-in-Some-Object c =
    let place : c.in-Some.place ≡ c.args.seq - 1 = search rules in
    sym (ap is_open (sym (ap (slice_get c.args.log.now) place) ∙ there c))
    ∙ unwithdrawn_is c.args.log.now c.args.seq c.requires (search rules)
