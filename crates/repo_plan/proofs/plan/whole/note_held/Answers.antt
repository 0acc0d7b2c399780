use Rattle.std.proofs.Common.{arith, ap, sym, ◌∙◌, ◌||◌}
use Rattle.std.specs.Ordering.{nat_cmp, eq_by_cmp}
use Rattle.repo_plan.specs.Parts.{pair_cmp}
use Rattle.sorted_lists.specs.Runs.{has_number, number_cmp}
use Rattle.sorted_lists.proofs.Sets.{or_swap}
use Rattle.repo_plan.proofs.Noted.{noted_whole, whole_done, kept_whole, not_whole}
use Rattle.repo_plan.proofs.plan.whole.note_held.Goals as goal

pub returns-then-gap_from-last_number-clause-noted : goal.returns-then-gap_from-last_number-clause-noted
returns-then-gap_from-last_number-clause-noted c = record {
  noted =
      noted_whole c.args.number c.args.last_number c.gap_from.result (has_number nat_cmp c.args.done.now)
      (has_number pair_cmp c.args.held.now) (has_number pair_cmp c.insert.new.self) c.insert.ensures.numbers
      (has_number nat_cmp c.insert-then-gap_from-last_number.new.self) (has_number pair_cmp c.remove_all.new.self)
      c.insert-then-gap_from-last_number.ensures.numbers c.remove_all.ensures.numbers
      (λ m l. c.gap_from.ensures.none_before m (omega arith) l) (omega (arith, c.if-gap_from-last_number.true));
  whole =
      whole_done c.args.number c.args.last_number c.gap_from.result (has_number nat_cmp c.args.done.now)
      (has_number pair_cmp c.args.held.now) (has_number pair_cmp c.insert.new.self) c.insert.ensures.numbers
      (has_number nat_cmp c.insert-then-gap_from-last_number.new.self) (has_number pair_cmp c.remove_all.new.self)
      c.insert-then-gap_from-last_number.ensures.numbers c.remove_all.ensures.numbers;
  kept =
      kept_whole c.args.number c.args.last_number c.gap_from.result (has_number nat_cmp c.args.done.now)
      (has_number pair_cmp c.args.held.now) (has_number pair_cmp c.insert.new.self) c.insert.ensures.numbers
      (has_number nat_cmp c.insert-then-gap_from-last_number.new.self) (has_number pair_cmp c.remove_all.new.self)
      c.insert-then-gap_from-last_number.ensures.numbers c.remove_all.ensures.numbers;
}

pub returns-else-gap_from-last_number-clause-noted : goal.returns-else-gap_from-last_number-clause-noted
returns-else-gap_from-last_number-clause-noted c = record {
  noted = λ q l.
      ap (λ h. has_number nat_cmp c.args.done.now q.0 || h) (c.insert.ensures.numbers q)
      ∙ or_swap (has_number nat_cmp c.args.done.now q.0) (eq_by_cmp (number_cmp pair_cmp) q c.args.number)
      (has_number pair_cmp c.args.held.now q);
  whole =
      not_whole c.args.number c.args.last_number c.gap_from.result (has_number nat_cmp c.args.done.now)
      (has_number pair_cmp c.args.held.now) (has_number pair_cmp c.insert.new.self) c.insert.ensures.numbers
      c.gap_from.ensures.gap (omega (arith, c.if-gap_from-last_number.false));
  kept = λ q h. sym (c.insert.ensures.numbers q) ∙ h;
}
