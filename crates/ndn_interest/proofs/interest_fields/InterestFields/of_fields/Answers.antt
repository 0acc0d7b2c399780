use Rattle.std.proofs.Common.{◌+◌, ◌≤◌, ℕ, length, map, List, None, Some, Option, ap, subst, ◌∙◌, IfSome, arith}
use Rattle.std.proofs.Common.{Bor}
use Rattle.std.proofs.lemmas.Result.{err_from_is_err_and}
use Rattle.ndn_tlv.specs.Listing.{Listing, gathered}
use Rattle.ndn_tlv.specs.Elements.{AreWithin, Item, item}
use Rattle.ndn_tlv.specs.OrderTable.{fields}
use Rattle.ndn_tlv.specs.declared.order_table.FieldError.{FieldError}
use Rattle.ndn_tlv.proofs.Fields.{AreWithin-ends}
use Rattle.ndn_tlv.proofs.Gathers.{all_gathered, ends_at_fault, ends_at_step, goes_on}
use Rattle.ndn_name.specs.Faults.{packet_fault}
use Rattle.ndn_interest.specs.declared.interest_fields.InterestField.{InterestField}
use Rattle.ndn_interest.specs.declared.interest_fields.InterestFields.{InterestFields}
use Rattle.ndn_interest.specs.Interest.{interest_table, no_interest_field, with_interest_field, interest_fields}
use Rattle.ndn_interest.specs.Interest.{interest_so_far, ParametersStartBy}
use Rattle.ndn_interest.proofs.interest_fields.InterestFields.of_fields.Goals as goal

starts_later : (low later : ℕ) (g : InterestFields) → low ≤ later → ParametersStartBy low g → ParametersStartBy later g
starts_later low later g h s = starts_of g.parameters s where
  starts_of : (n : Option (ℕ × Bor (List ℕ))) → IfSome n (λ n. n.0 ≤ low) → IfSome n (λ n. n.0 ≤ later)
  starts_of None s = tt
  starts_of (Some n) s = omega arith

pub loop-next-init : goal.loop-next-init
loop-next-init c = record {
  so_far =
      ap (gathered (with_interest_field c.args.octets.now) packet_fault no_interest_field)
      (c.new-fields.ensures.fields ∙ ap (fields interest_table) c.new-elements.ensures.elements);
  low = c.args.outer.value_start;
  starts = tt;
  within =
      c.new-fields.ensures.within c.args.outer.value_start (c.args.outer.value_start + length c.args.outer.value.now)
      c.new-elements.ensures.within;
}

pub returns-in_err-next-clause-read : goal.returns-in_err-next-clause-read
returns-in_err-next-clause-read c =
    let p = err_from_is_err_and c.from_residual.result c.from_residual.ensures.1 in
    rw (p.1, p.2)
    (ends_at_fault (with_interest_field c.args.octets.now) packet_fault (interest_so_far c.loop-next.gathered)
    c.loop-next.fields (interest_fields c.args.octets.now (item c.args.outer)) c.loop-next.invariant.so_far
    c.in_err-next.field-0.0 c.in_err-next.ensures.fault)

pub returns-in_err-take-clause-read : goal.returns-in_err-take-clause-read
returns-in_err-take-clause-read c =
    let p = err_from_is_err_and c.from_residual-in_err-take.result c.from_residual-in_err-take.ensures.1 in
    let seen = rw c.in-Some.is at c.in_ok-next.ensures.ok in
    rw (p.1, p.2)
    (ends_at_step (with_interest_field c.args.octets.now) packet_fault (interest_so_far c.loop-next.gathered)
    c.loop-next.fields (interest_fields c.args.octets.now (item c.args.outer)) c.loop-next.invariant.so_far
    (c.in-Some.next.0, item c.in-Some.next.1) c.next.new.self c.in_err-take.field-0.0 seen c.in_err-take.ensures.taken)

pub loop-next-preserved : goal.loop-next-preserved
loop-next-preserved c =
    let seen = rw c.in-Some.is at c.in_ok-next.ensures.ok in
    let P : Listing (InterestField × Item) FieldError → Type 0 =
    λ read. AreWithin c.loop-next.invariant.low (c.args.outer.value_start + length c.args.outer.value.now)
    (map (λ f. f.1) read.items) in
    let within = subst P seen c.loop-next.invariant.within in
    record {
      so_far =
          goes_on (with_interest_field c.args.octets.now) packet_fault (interest_so_far c.loop-next.gathered)
          c.loop-next.fields (interest_fields c.args.octets.now (item c.args.outer)) c.loop-next.invariant.so_far
          (c.in-Some.next.0, item c.in-Some.next.1) c.next.new.self (interest_so_far c.take.new.self) seen
          c.in_ok-take.ensures.taken;
      low = c.in-Some.next.1.end;
      starts =
          starts_later c.in-Some.next.1.start c.in-Some.next.1.end c.take.new.self (omega (arith, within.1, within.2))
          c.in_ok-take.ensures.starts;
      within = within.3;
    }

pub returns-clause-starts : goal.returns-clause-starts
returns-clause-starts c =
    starts_later c.loop-next.invariant.low (length c.args.octets.now) c.loop-next.gathered
    (omega (arith, AreWithin-ends _ _ _ c.loop-next.invariant.within)) c.loop-next.invariant.starts

pub returns-clause-read : goal.returns-clause-read
returns-clause-read c =
    let seen = rw c.in_default.is at c.in_ok-next.ensures.ok in
    all_gathered (with_interest_field c.args.octets.now) packet_fault (interest_so_far c.loop-next.gathered)
    c.loop-next.fields (interest_fields c.args.octets.now (item c.args.outer)) c.loop-next.invariant.so_far seen.0

pub take-requires-clause-fits : goal.take-requires-clause-fits
take-requires-clause-fits c =
    let seen = rw c.in-Some.is at c.in_ok-next.ensures.ok in
    let P : Listing (InterestField × Item) FieldError → Type 0 =
    λ read. AreWithin c.loop-next.invariant.low (c.args.outer.value_start + length c.args.outer.value.now)
    (map (λ f. f.1) read.items) in
    let within = subst P seen c.loop-next.invariant.within in
    omega (arith, within.2, AreWithin-ends _ _ _ within.3)

pub take-requires-clause-ends : goal.take-requires-clause-ends
take-requires-clause-ends c =
    let seen = rw c.in-Some.is at c.in_ok-next.ensures.ok in
    let P : Listing (InterestField × Item) FieldError → Type 0 =
    λ read. AreWithin c.loop-next.invariant.low (c.args.outer.value_start + length c.args.outer.value.now)
    (map (λ f. f.1) read.items) in
    let within = subst P seen c.loop-next.invariant.within in
    omega (arith, within.1, within.2, AreWithin-ends _ _ _ within.3)

pub take-requires-clause-starts : goal.take-requires-clause-starts
take-requires-clause-starts c =
    let seen = rw c.in-Some.is at c.in_ok-next.ensures.ok in
    let P : Listing (InterestField × Item) FieldError → Type 0 =
    λ read. AreWithin c.loop-next.invariant.low (c.args.outer.value_start + length c.args.outer.value.now)
    (map (λ f. f.1) read.items) in
    let within = subst P seen c.loop-next.invariant.within in
    starts_later c.loop-next.invariant.low c.in-Some.next.1.start c.loop-next.gathered within.0
    c.loop-next.invariant.starts
