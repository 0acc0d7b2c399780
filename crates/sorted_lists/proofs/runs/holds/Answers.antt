use Rattle.std.proofs.Common.{sym, ap, ◌∙◌}
use Rattle.std.specs.Ordering.{is_le}
use Rattle.sorted_lists.proofs.Numbers.{follow}
use Rattle.sorted_lists.proofs.RunLists.{lacks_none, has_last}
use Rattle.sorted_lists.proofs.runs.holds.Goals as goal

pub returns-in-None : goal.returns-in-None
returns-in-None g c =
    sym (lacks_none (follow g.met.P.Ord.total c.requires.exact) c.args.runs.now.entries c.requires.set.runs
    c.args.number (sym c.in-None.ensures.found))

pub returns-in-Some : goal.returns-in-Some
returns-in-Some g c =
    c.is_le.ensures ∙ ap is_le c.cmp.ensures
    ∙ has_last (follow g.met.P.Ord.total c.requires.exact) c.args.runs.now.entries c.requires.set.runs c.args.number
    (c.in-Some.field-0-0, c.in-Some.last) (sym c.in-Some.ensures.found)
