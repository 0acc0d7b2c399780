use Rattle.std.proofs.Common.{◌∙◌, sym}
use Rattle.std.specs.Cmp.{ties}
use Rattle.sorted_lists.proofs.Orders.{exact_of}
use Rattle.sorted_lists.proofs.Entries.{value_in_order}
use Rattle.sorted_lists.proofs.table.value_of.Goals as goal

pub returns : goal.returns
returns g c =
    let there =
    value_in_order (exact_of g.met.K.Ord.total c.requires) _
    (ties g.met.K.PartialOrd.laws g.met.K.Ord.matches_partial_cmp) c.args.map.now.entries c.args.key in
    c.copied.ensures ∙ c.get.ensures.value ∙ sym there
