use Rattle.std.proofs.Common.{subst, arith}
use Rattle.repo_object.specs.Bodies.{LiesAt}
use Rattle.repo_object.proofs.PlaceLemmas.{first_is_name}
use Rattle.repo_object.proofs.body.name_place.Goals as goal

pub returns : goal.returns
returns c =
    let octets = c.args.octets.now in
    subst (LiesAt octets c.place_of.result)
    (first_is_name octets (λ i. omega (arith, c.type_inv.octets i)) c.requires) c.place_of.ensures
