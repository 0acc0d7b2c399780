use Rattle.std.proofs.Common.{sym, ◌∙◌}
use Rattle.sorted_lists.proofs.Numbers.{follow}
use Rattle.sorted_lists.proofs.RunLists.{whole_none, whole_apart}
use Rattle.sorted_lists.proofs.runs.take_end_of.Goals as goal

pub returns-in_default-clause-runs : goal.returns-in_default-clause-runs
returns-in_default-clause-runs g c =
    let f = follow g.met.P.Ord.total c.requires.exact in
    let es = c.args.runs.now.entries in
    sym (whole_apart f es c.requires.set.runs c.args.number c.requires.lacks (c.in-Some.first, c.in-Some.last)
    (sym c.in-Some.ensures.found) (sym c.is_next.ensures ∙ c.if-is_next.false))

pub returns-in_default-2-clause-runs : goal.returns-in_default-2-clause-runs
returns-in_default-2-clause-runs g c =
    let f = follow g.met.P.Ord.total c.requires.exact in
    let es = c.args.runs.now.entries in
    sym
    (whole_none f es c.requires.set.runs c.args.number c.requires.lacks
    (sym c.first_from.ensures.found ∙ c.in_default.is))
