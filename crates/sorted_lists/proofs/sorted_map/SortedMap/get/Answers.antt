use Rattle.std.proofs.Common.{Bool, Some, None, cond, sym, ap, ◌∙◌}
use Rattle.std.specs.Ordering.{is_eq}
use Rattle.sorted_lists.proofs.MapChanges.{value_found, value_last}
use Rattle.sorted_lists.proofs.sorted_map.SortedMap.get.Goals as goal

pub returns-in_err-entry : goal.returns-in_err-entry
returns-in_err-entry g c =
    c.from_residual.ensures
    ∙ ap (value_found g.K.Ord.cmp c.args.key) (sym c.in_err-entry.was ∙ c.last_up_to.ensures.found)
    ∙ sym (value_last g.met.K.Ord.total c.args.key c.args.self.now.entries c.last_up_to.ensures.rises)

pub returns-then-is_eq : goal.returns-then-is_eq
returns-then-is_eq g c =
    let v = c.in_ok-entry.entry.1 in
    ap (λ (b : Bool). cond b (Some v) None) (sym c.if-is_eq.true ∙ c.is_eq.ensures ∙ ap is_eq c.cmp.ensures)
    ∙ ap (value_found g.K.Ord.cmp c.args.key) c.in_ok-entry.ensures.found
    ∙ sym (value_last g.met.K.Ord.total c.args.key c.args.self.now.entries c.last_up_to.ensures.rises)

pub returns-else-is_eq : goal.returns-else-is_eq
returns-else-is_eq g c =
    let v = c.in_ok-entry.entry.1 in
    ap (λ (b : Bool). cond b (Some v) None) (sym c.if-is_eq.false ∙ c.is_eq.ensures ∙ ap is_eq c.cmp.ensures)
    ∙ ap (value_found g.K.Ord.cmp c.args.key) c.in_ok-entry.ensures.found
    ∙ sym (value_last g.met.K.Ord.total c.args.key c.args.self.now.entries c.last_up_to.ensures.rises)
