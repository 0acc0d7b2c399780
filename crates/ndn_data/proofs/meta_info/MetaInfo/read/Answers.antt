use Rattle.std.proofs.Common.{◌+◌, length, map, ap, subst, ◌∙◌}
use Rattle.std.proofs.lemmas.Result.{err_from_is_err_and}
use Rattle.ndn_tlv.specs.Listing.{Listing, gathered}
use Rattle.ndn_tlv.specs.Elements.{AreWithin, Item, item}
use Rattle.ndn_tlv.specs.OrderTable.{fields}
use Rattle.ndn_tlv.specs.declared.order_table.FieldError.{FieldError}
use Rattle.ndn_tlv.proofs.Gathers.{all_gathered, ends_at_fault, ends_at_step, goes_on}
use Rattle.ndn_name.specs.Faults.{packet_fault}
use Rattle.ndn_data.specs.declared.meta_info.MetaField.{MetaField}
use Rattle.ndn_data.specs.MetaInfo.{meta_info_table, plain, with_meta_field, meta_in, meta}
use Rattle.ndn_data.proofs.meta_info.MetaInfo.read.Goals as goal

pub loop-next-init : goal.loop-next-init
loop-next-init c = record {
  so_far =
      ap (gathered with_meta_field packet_fault plain)
      (c.new-fields.ensures.fields ∙ ap (fields meta_info_table) c.new-elements.ensures.elements);
  low = c.args.element.value_start;
  within =
      c.new-fields.ensures.within c.args.element.value_start
      (c.args.element.value_start + length c.args.element.value.now) c.new-elements.ensures.within;
}

pub returns-in_err-next : goal.returns-in_err-next
returns-in_err-next c =
    let p = err_from_is_err_and c.from_residual.result c.from_residual.ensures.1 in
    rw (p.1, p.2)
    (ends_at_fault with_meta_field packet_fault (meta c.loop-next.gathered) c.loop-next.fields
    (meta_in (item c.args.element)) c.loop-next.invariant.so_far c.in_err-next.field-0.0 c.in_err-next.ensures.fault)

pub returns-in_err-take : goal.returns-in_err-take
returns-in_err-take c =
    let p = err_from_is_err_and c.from_residual-in_err-take.result c.from_residual-in_err-take.ensures.1 in
    let seen = rw c.in-Some.is at c.in_ok-next.ensures.ok in
    rw (p.1, p.2)
    (ends_at_step with_meta_field packet_fault (meta c.loop-next.gathered) c.loop-next.fields
    (meta_in (item c.args.element)) c.loop-next.invariant.so_far (c.in-Some.next.0, item c.in-Some.next.1)
    c.next.new.self c.in_err-take.field-0.0 seen c.in_err-take.ensures)

pub loop-next-preserved : goal.loop-next-preserved
loop-next-preserved c =
    let seen = rw c.in-Some.is at c.in_ok-next.ensures.ok in
    let P : Listing (MetaField × Item) FieldError → Type 0 =
    λ read. AreWithin c.loop-next.invariant.low (c.args.element.value_start + length c.args.element.value.now)
    (map (λ f. f.1) read.items) in
    let within = subst P seen c.loop-next.invariant.within in
    record {
      so_far =
          goes_on with_meta_field packet_fault (meta c.loop-next.gathered) c.loop-next.fields
          (meta_in (item c.args.element)) c.loop-next.invariant.so_far (c.in-Some.next.0, item c.in-Some.next.1)
          c.next.new.self (meta c.take.new.self) seen c.in_ok-take.ensures;
      low = c.in-Some.next.1.end;
      within = within.3;
    }

pub returns : goal.returns
returns c =
    let seen = rw c.in_default.is at c.in_ok-next.ensures.ok in
    all_gathered with_meta_field packet_fault (meta c.loop-next.gathered) c.loop-next.fields
    (meta_in (item c.args.element)) c.loop-next.invariant.so_far seen.0
