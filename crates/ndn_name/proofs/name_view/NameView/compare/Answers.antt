use Rattle.std.proofs.Common.{List, ap, ◌∙◌}
use Rattle.ndn_name.specs.Names.{Component, components}
use Rattle.ndn_name.specs.CanonicalOrder.{canonical_cmp}
use Rattle.ndn_name.proofs.OrderLemmas.{values-cmp}
use Rattle.ndn_name.proofs.name_view.NameView.compare.Goals as goal

pub returns : goal.returns
returns c =
    let other = components c.other.inside.octets.now in
    c.cmp.ensures
    ∙ values-cmp c.self.inside.octets.now c.other.inside.octets.now c.self.inside.len c.other.inside.len
    c.self.invariant c.other.invariant
    ∙ ap (λ (x : List Component). canonical_cmp x other) c.self.view_is
    ∙ ap (canonical_cmp c.args.self.now) c.other.view_is
