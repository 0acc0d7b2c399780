use Rattle.std.proofs.Common.{◌≡◌, List, true, subst}
use Rattle.std.specs.Prelude.{◌↔◌}
use Rattle.ndn_name.specs.Names.{Component, components}
use Rattle.ndn_name.specs.CanonicalOrder.{IsPrefix}
use Rattle.ndn_name.proofs.Prefixes.{values-prefix}
use Rattle.ndn_name.proofs.name_view.NameView.is_prefix_of.Goals as goal

pub returns : goal.returns
returns c =
    let P : List Component → Type 0 =
    λ x. (c.starts_with.result ≡ true) ↔ IsPrefix x (components c.other.inside.octets.now) in
    let Q : List Component → Type 0 = λ y. (c.starts_with.result ≡ true) ↔ IsPrefix c.args.self.now y in
    subst Q c.other.view_is
    (subst P c.self.view_is
    (values-prefix c.self.inside.octets.now c.other.inside.octets.now c.self.inside.len c.other.inside.len
    c.self.invariant c.other.invariant c.starts_with.result c.starts_with.ensures.value))
