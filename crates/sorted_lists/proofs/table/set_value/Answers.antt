use Rattle.std.specs.Cmp.{ties}
use Rattle.sorted_lists.proofs.Orders.{exact_of}
use Rattle.sorted_lists.proofs.Entries.{set_in_order}
use Rattle.sorted_lists.proofs.table.set_value.Goals as goal

pub returns-clause-entries : goal.returns-clause-entries
returns-clause-entries g c =
    let updates = rw c.unwrap.ensures at c.insert-replaced.ensures.updates in
    set_in_order (exact_of g.met.K.Ord.total c.requires.exact) _
    (ties g.met.K.PartialOrd.laws g.met.K.Ord.matches_partial_cmp) c.args.map.now.entries
    c.insert-replaced.new.self.entries c.args.key c.args.value updates.0
