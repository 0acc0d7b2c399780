use Rattle.std.proofs.Common.{subst}
use Rattle.repo_object.specs.Bodies.{LiesAt}
use Rattle.repo_object.proofs.PlaceLemmas.{first_is_content}
use Rattle.repo_object.proofs.body.content_place.Goals as goal

pub returns : goal.returns
returns c =
    subst (LiesAt c.args.octets.now c.place_of.result) (first_is_content c.args.octets.now c.requires)
    c.place_of.ensures
