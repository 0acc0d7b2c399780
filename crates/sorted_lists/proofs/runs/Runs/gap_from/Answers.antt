use Rattle.std.proofs.Common.{sym, ap, ◌∙◌}
use Rattle.std.specs.Ordering.{is_le}
use Rattle.sorted_lists.proofs.Numbers.{follow, gap_of}
use Rattle.sorted_lists.proofs.RunLists.{lacks_none, has_last}
use Rattle.sorted_lists.proofs.runs.Runs.gap_from.Goals as goal
use Rattle.sorted_lists.proofs.runs.Runs.gap_from.Goals.{in_default-via-in-Some+else-is_le, in_default-via-in_default}

pub returns-in-Some-clause-from : goal.returns-in-Some-clause-from
returns-in-Some-clause-from g c =
    let le = sym (ap is_le c.cmp.ensures) ∙ sym c.is_le.ensures ∙ c.if-is_le.true in
    rw c.from.ensures
    (gap_of g.met.P.Ord.total c.self.invariant.0 c.self.inside.map.entries c.self.invariant.1.runs
    c.self.invariant.1.one c.args.number
    (c.in-Some.field-0-0, c.in-Some.last) (sym c.in-Some.ensures.found) le).from

pub returns-in-Some-clause-gap : goal.returns-in-Some-clause-gap
returns-in-Some-clause-gap g c =
    let le = sym (ap is_le c.cmp.ensures) ∙ sym c.is_le.ensures ∙ c.if-is_le.true in
    rw (c.from.ensures, ← c.self.view_is)
    (gap_of g.met.P.Ord.total c.self.invariant.0 c.self.inside.map.entries c.self.invariant.1.runs
    c.self.invariant.1.one c.args.number
    (c.in-Some.field-0-0, c.in-Some.last) (sym c.in-Some.ensures.found) le).gap

pub returns-in-Some-clause-none_before : goal.returns-in-Some-clause-none_before
returns-in-Some-clause-none_before g c =
    let le = sym (ap is_le c.cmp.ensures) ∙ sym c.is_le.ensures ∙ c.if-is_le.true in
    rw (c.from.ensures, ← c.self.view_is)
    (gap_of g.met.P.Ord.total c.self.invariant.0 c.self.inside.map.entries c.self.invariant.1.runs
    c.self.invariant.1.one c.args.number
    (c.in-Some.field-0-0, c.in-Some.last) (sym c.in-Some.ensures.found) le).before

pub returns-in_default-clause-gap : goal.returns-in_default-clause-gap
returns-in_default-clause-gap g c =
    let f = follow g.met.P.Ord.total c.self.invariant.0 in
    let es = c.self.inside.map.entries in
    let q = c.args.number in
    rw (c.from-in_default.ensures, ← c.self.view_is) (elim c.in_default.branch [
      | in_default-via-in-Some+else-is_le w ↦
          sym (has_last f es c.self.invariant.1.runs q (w.in-Some.field-0-0, w.in-Some.last)
          (sym w.in-Some.ensures.found))
          ∙ sym (ap is_le w.cmp.ensures)
          ∙ sym w.is_le.ensures
          ∙ w.if-is_le.false
      | in_default-via-in_default w ↦
          lacks_none f es c.self.invariant.1.runs q (sym c.last_up_to.ensures.found ∙ w.in_default.is)
    ])
