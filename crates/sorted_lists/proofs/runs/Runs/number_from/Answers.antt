use Rattle.std.proofs.Common.{sym, ◌∙◌}
use Rattle.sorted_lists.proofs.Onward.{none_onward, others_onward, here_onward, not_equal}
use Rattle.sorted_lists.proofs.Orders.{equal_from_is_eq}
use Rattle.sorted_lists.proofs.runs.Runs.number_from.Goals as goal

pub returns-in-Some : goal.returns-in-Some
returns-in-Some g c =
    let same = equal_from_is_eq c.cmp.result (sym c.is_eq.ensures ∙ c.if-is_eq.true) in
    rw (← c.self.view_is)
    (here_onward g.met.P.Ord.total c.self.invariant.0 c.self.inside.map.entries c.self.invariant.1 c.args.number
    (sym c.holds.ensures ∙ c.if-holds.false) (c.in-Some.first, c.in-Some.field-0-1) (sym c.in-Some.ensures.found)
    (c.self.invariant.0 c.in-Some.first.0 c.args.number.0 (sym c.cmp.ensures ∙ same)))

pub returns-in_default : goal.returns-in_default
returns-in_default g c =
    rw (← c.self.view_is)
    (others_onward g.met.P.Ord.total c.self.invariant.0 c.self.inside.map.entries c.self.invariant.1 c.args.number
    (sym c.holds.ensures ∙ c.if-holds.false) (c.in-Some.first, c.in-Some.field-0-1) (sym c.in-Some.ensures.found)
    (λ e. not_equal c.cmp.result (sym c.is_eq.ensures ∙ c.if-is_eq.false) (c.cmp.ensures ∙ e)))

pub returns-in_default-2 : goal.returns-in_default-2
returns-in_default-2 g c =
    rw (← c.self.view_is)
    (none_onward g.met.P.Ord.total c.self.invariant.0 c.self.inside.map.entries c.self.invariant.1 c.args.number
    (sym c.holds.ensures ∙ c.if-holds.false) (sym c.first_from.ensures.found ∙ c.in_default.is))
