use Rattle.std.proofs.Common.{not, sym, ap, ◌∙◌}
use Rattle.std.specs.Ordering.{is_le}
use Rattle.sorted_lists.proofs.Numbers.{follow}
use Rattle.sorted_lists.proofs.RunLists.{lacks_none, has_last}
use Rattle.sorted_lists.proofs.runs.start_of.Goals as goal
use Rattle.sorted_lists.proofs.runs.start_of.Goals.{in_default-via-in-Some-2+else-is_next, in_default-via-in_default}

pub returns-in-Some-clause-lacks : goal.returns-in-Some-clause-lacks
returns-in-Some-clause-lacks g c =
    ap not
    (sym c.if-is_le.true ∙ c.is_le.ensures ∙ ap is_le c.cmp.ensures
    ∙ has_last (follow g.met.P.Ord.total c.requires.exact) c.args.runs.now.entries c.requires.set.runs c.args.number
    (c.in-Some.field-0-0, c.in-Some.last) (sym c.in-Some.ensures.found))

pub returns-in-Some-2-clause-lacks : goal.returns-in-Some-2-clause-lacks
returns-in-Some-2-clause-lacks g c =
    ap not
    (sym c.if-is_le.false ∙ c.is_le.ensures ∙ ap is_le c.cmp.ensures
    ∙ has_last (follow g.met.P.Ord.total c.requires.exact) c.args.runs.now.entries c.requires.set.runs c.args.number
    (c.in-Some.field-0-0, c.in-Some.last) (sym c.in-Some.ensures.found))

pub returns-in_default-clause-lacks : goal.returns-in_default-clause-lacks
returns-in_default-clause-lacks g c = elim c.in_default.branch [
  | in_default-via-in-Some-2+else-is_next w ↦
      ap not
      (sym w.if-is_le.false ∙ w.is_le.ensures ∙ ap is_le w.cmp.ensures
      ∙ has_last (follow g.met.P.Ord.total c.requires.exact) c.args.runs.now.entries c.requires.set.runs c.args.number
      (w.in-Some.field-0-0, w.in-Some.last) (sym w.in-Some.ensures.found))
  | in_default-via-in_default w ↦
      ap not
      (sym (lacks_none (follow g.met.P.Ord.total c.requires.exact) c.args.runs.now.entries c.requires.set.runs
      c.args.number (sym c.last_up_to.ensures.found ∙ w.in_default.is)))
]
