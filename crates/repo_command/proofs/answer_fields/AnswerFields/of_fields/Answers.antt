use Rattle.std.proofs.Common.{◌+◌, length, map, ap, subst, ◌∙◌}
use Rattle.std.proofs.lemmas.Result.{err_from_is_err_and}
use Rattle.ndn_tlv.specs.Listing.{Listing, gathered}
use Rattle.ndn_tlv.specs.Elements.{AreWithin, Item, item}
use Rattle.ndn_tlv.specs.OrderTable.{fields}
use Rattle.ndn_tlv.specs.declared.order_table.FieldError.{FieldError}
use Rattle.ndn_tlv.proofs.Gathers.{all_gathered, ends_at_fault, ends_at_step, goes_on}
use Rattle.repo_command.specs.declared.answer_fields.AnswerField.{AnswerField}
use Rattle.repo_command.specs.OrderTables.{repo_command_response}
use Rattle.repo_command.specs.Answers.{no_number, bad_answer_field, with_answer_field, answer_fields, answer_so_far}
use Rattle.repo_command.proofs.answer_fields.AnswerFields.of_fields.Goals as goal

pub loop-next-init : goal.loop-next-init
loop-next-init c = record {
  so_far =
      ap (gathered with_answer_field bad_answer_field no_number)
      (c.new-fields.ensures.fields ∙ ap (fields repo_command_response) c.new-elements.ensures.elements);
  low = c.args.element.value_start;
  within =
      c.new-fields.ensures.within c.args.element.value_start
      (c.args.element.value_start + length c.args.element.value.now) c.new-elements.ensures.within;
}

pub returns-in-Err : goal.returns-in-Err
returns-in-Err c =
    ends_at_fault with_answer_field bad_answer_field (answer_so_far c.loop-next.gathered) c.loop-next.fields
    (answer_fields (item c.args.element)) c.loop-next.invariant.so_far c.in-Err.field-0 c.in-Err.ensures.fault

pub returns-in_err-take-in-Ok-Some : goal.returns-in_err-take-in-Ok-Some
returns-in_err-take-in-Ok-Some c =
    let p = err_from_is_err_and c.from_residual.result c.from_residual.ensures.1 in
    let seen = rw c.in-Ok-Some.field-0-is at c.in-Ok-Some.ensures.ok in
    rw (p.1, p.2)
    (ends_at_step with_answer_field bad_answer_field (answer_so_far c.loop-next.gathered) c.loop-next.fields
    (answer_fields (item c.args.element)) c.loop-next.invariant.so_far (c.in-Ok-Some.next.0, item c.in-Ok-Some.next.1)
    c.next.new.self c.in_err-take-in-Ok-Some.field-0.0 seen c.in_err-take-in-Ok-Some.ensures)

pub loop-next-preserved : goal.loop-next-preserved
loop-next-preserved c =
    let seen = rw c.in-Ok-Some.field-0-is at c.in-Ok-Some.ensures.ok in
    let P : Listing (AnswerField × Item) FieldError → Type 0 =
    λ read. AreWithin c.loop-next.invariant.low (c.args.element.value_start + length c.args.element.value.now)
    (map (λ f. f.1) read.items) in
    let within = subst P seen c.loop-next.invariant.within in
    record {
      so_far =
          goes_on with_answer_field bad_answer_field (answer_so_far c.loop-next.gathered) c.loop-next.fields
          (answer_fields (item c.args.element)) c.loop-next.invariant.so_far
          (c.in-Ok-Some.next.0, item c.in-Ok-Some.next.1) c.next.new.self (answer_so_far c.take.new.self) seen
          c.in_ok-take-in-Ok-Some.ensures;
      low = c.in-Ok-Some.next.1.end;
      within = within.3;
    }

pub returns-in-Ok-None : goal.returns-in-Ok-None
returns-in-Ok-None c =
    let seen = rw c.in-Ok-None.field-0-is at c.in-Ok-None.ensures.ok in
    all_gathered with_answer_field bad_answer_field (answer_so_far c.loop-next.gathered) c.loop-next.fields
    (answer_fields (item c.args.element)) c.loop-next.invariant.so_far seen.0
