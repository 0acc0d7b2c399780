use Rattle.std.specs.Cmp.{ties}
use Rattle.sorted_lists.proofs.Orders.{exact_of}
use Rattle.sorted_lists.proofs.Entries.{same_in_order}
use Rattle.sorted_lists.proofs.table.reserve.Goals as goal

pub returns-clause-entries : goal.returns-clause-entries
returns-clause-entries g c =
    same_in_order (exact_of g.met.K.Ord.total c.requires) _
    (ties g.met.K.PartialOrd.laws g.met.K.Ord.matches_partial_cmp) c.args.map.now.entries c.reserve.new.self.entries
    c.reserve.ensures.entries.2
