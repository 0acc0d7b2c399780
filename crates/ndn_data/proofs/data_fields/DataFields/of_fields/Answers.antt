use Rattle.std.proofs.Common.{◌+◌, ◌≤◌, ℕ, length, map, List, None, Some, Option, ap, subst, ◌∙◌, IfSome, arith}
use Rattle.std.proofs.Common.{Bor, option_map}
use Rattle.std.proofs.lemmas.Result.{err_from_is_err_and}
use Rattle.ndn_tlv.specs.Listing.{Listing, gathered}
use Rattle.ndn_tlv.specs.Elements.{AreWithin, Item, item}
use Rattle.ndn_tlv.specs.OrderTable.{fields}
use Rattle.ndn_tlv.specs.declared.order_table.FieldError.{FieldError}
use Rattle.ndn_tlv.proofs.Fields.{AreWithin-ends}
use Rattle.ndn_tlv.proofs.Gathers.{all_gathered, ends_at_fault, ends_at_step, goes_on}
use Rattle.ndn_name.specs.Faults.{packet_fault}
use Rattle.ndn_name.specs.Names.{Component}
use Rattle.ndn_data.specs.declared.data_fields.DataField.{DataField}
use Rattle.ndn_data.specs.declared.data_fields.DataFields.{DataFields}
use Rattle.ndn_data.specs.Data.{data_table, no_data_field, with_data_field, data_fields, data_so_far, NameStartsBy}
use Rattle.ndn_data.specs.Signed.{Signs}
use Rattle.ndn_data.proofs.SignedLemmas.{SignatureStands, data_gathers, signs_of}
use Rattle.ndn_packet.proofs.Outers.{value_ends}
use Rattle.ndn_data.proofs.data_fields.DataFields.of_fields.Goals as goal

starts_later : (low later : ℕ) (g : DataFields) → low ≤ later → NameStartsBy low g → NameStartsBy later g
starts_later low later g h s = starts_of g.name s where
  starts_of : (n : Option (ℕ × List Component)) → IfSome n (λ n. n.0 ≤ low) → IfSome n (λ n. n.0 ≤ later)
  starts_of None s = tt
  starts_of (Some n) s = omega arith

pub loop-next-init : goal.loop-next-init
loop-next-init c = record {
  so_far =
      ap (gathered (with_data_field c.args.octets.now) packet_fault no_data_field)
      (c.new-fields.ensures.fields ∙ ap (fields data_table) c.new-elements.ensures.elements);
  low = c.args.outer.value_start;
  starts = tt;
  within =
      c.new-fields.ensures.within c.args.outer.value_start (c.args.outer.value_start + length c.args.outer.value.now)
      c.new-elements.ensures.within;
}

pub returns-in_err-next-clause-read : goal.returns-in_err-next-clause-read
returns-in_err-next-clause-read c =
    let p = err_from_is_err_and c.from_residual.result c.from_residual.ensures.1 in
    rw (p.1, p.2)
    (ends_at_fault (with_data_field c.args.octets.now) packet_fault (data_so_far c.loop-next.gathered)
    c.loop-next.fields (data_fields c.args.octets.now (item c.args.outer)) c.loop-next.invariant.so_far
    c.in_err-next.field-0.0 c.in_err-next.ensures.fault)

pub returns-in_err-take-clause-read : goal.returns-in_err-take-clause-read
returns-in_err-take-clause-read c =
    let p = err_from_is_err_and c.from_residual-in_err-take.result c.from_residual-in_err-take.ensures.1 in
    let seen = rw c.in-Some.is at c.in_ok-next.ensures.ok in
    rw (p.1, p.2)
    (ends_at_step (with_data_field c.args.octets.now) packet_fault (data_so_far c.loop-next.gathered) c.loop-next.fields
    (data_fields c.args.octets.now (item c.args.outer)) c.loop-next.invariant.so_far
    (c.in-Some.next.0, item c.in-Some.next.1) c.next.new.self c.in_err-take.field-0.0 seen c.in_err-take.ensures.taken)

pub loop-next-preserved : goal.loop-next-preserved
loop-next-preserved c =
    let seen = rw c.in-Some.is at c.in_ok-next.ensures.ok in
    let P : Listing (DataField × Item) FieldError → Type 0 =
    λ read. AreWithin c.loop-next.invariant.low (c.args.outer.value_start + length c.args.outer.value.now)
    (map (λ f. f.1) read.items) in
    let within = subst P seen c.loop-next.invariant.within in
    record {
      so_far =
          goes_on (with_data_field c.args.octets.now) packet_fault (data_so_far c.loop-next.gathered) c.loop-next.fields
          (data_fields c.args.octets.now (item c.args.outer)) c.loop-next.invariant.so_far
          (c.in-Some.next.0, item c.in-Some.next.1) c.next.new.self (data_so_far c.take.new.self) seen
          c.in_ok-take.ensures.taken;
      low = c.in-Some.next.1.end;
      starts =
          starts_later c.in-Some.next.1.start c.in-Some.next.1.end c.take.new.self (omega (arith, within.1, within.2))
          c.in_ok-take.ensures.starts;
      within = within.3;
    }

pub returns-clause-read : goal.returns-clause-read
returns-clause-read c =
    let seen = rw c.in_default.is at c.in_ok-next.ensures.ok in
    all_gathered (with_data_field c.args.octets.now) packet_fault (data_so_far c.loop-next.gathered) c.loop-next.fields
    (data_fields c.args.octets.now (item c.args.outer)) c.loop-next.invariant.so_far seen.0

pub take-requires-clause-fits : goal.take-requires-clause-fits
take-requires-clause-fits c =
    let seen = rw c.in-Some.is at c.in_ok-next.ensures.ok in
    let P : Listing (DataField × Item) FieldError → Type 0 =
    λ read. AreWithin c.loop-next.invariant.low (c.args.outer.value_start + length c.args.outer.value.now)
    (map (λ f. f.1) read.items) in
    let within = subst P seen c.loop-next.invariant.within in
    omega (
      arith,
      within.2,
      AreWithin-ends _ _ _ within.3,
      value_ends 0x06 c.args.octets.now (item c.args.outer) c.requires.whole c.requires.placed,
    )

pub take-requires-clause-ends : goal.take-requires-clause-ends
take-requires-clause-ends c =
    let seen = rw c.in-Some.is at c.in_ok-next.ensures.ok in
    let P : Listing (DataField × Item) FieldError → Type 0 =
    λ read. AreWithin c.loop-next.invariant.low (c.args.outer.value_start + length c.args.outer.value.now)
    (map (λ f. f.1) read.items) in
    let within = subst P seen c.loop-next.invariant.within in
    omega (
      arith,
      within.1,
      within.2,
      AreWithin-ends _ _ _ within.3,
      value_ends 0x06 c.args.octets.now (item c.args.outer) c.requires.whole c.requires.placed,
    )

pub take-requires-clause-starts : goal.take-requires-clause-starts
take-requires-clause-starts c =
    let seen = rw c.in-Some.is at c.in_ok-next.ensures.ok in
    let P : Listing (DataField × Item) FieldError → Type 0 =
    λ read. AreWithin c.loop-next.invariant.low (c.args.outer.value_start + length c.args.outer.value.now)
    (map (λ f. f.1) read.items) in
    let within = subst P seen c.loop-next.invariant.within in
    starts_later c.loop-next.invariant.low c.in-Some.next.1.start c.loop-next.gathered within.0
    c.loop-next.invariant.starts

view_signs : (value : List ℕ) (name : Option (ℕ × List Component)) (o : Option (Bor (List ℕ) × Bor (List ℕ)))
    → length value ≤ 8800
    → IfSome (option_map (λ (s : Bor (List ℕ) × Bor (List ℕ)). (s.0.now, s.1.now)) o) (SignatureStands value name)
    → IfSome o (λ s. Signs value s.1.now s.0.now)
view_signs value name None small h = tt
view_signs value name (Some s) small h = signs_of value name (s.0.now, s.1.now) small h

pub returns-clause-signs : goal.returns-clause-signs
returns-clause-signs c =
    let seen = rw c.in_default.is at c.in_ok-next.ensures.ok in
    let read =
    all_gathered (with_data_field c.args.octets.now) packet_fault (data_so_far c.loop-next.gathered) c.loop-next.fields
    (data_fields c.args.octets.now (item c.args.outer)) c.loop-next.invariant.so_far seen.0 in
    let gathers =
    data_gathers c.args.octets.now (item c.args.outer) (data_so_far c.loop-next.gathered)
    (λ i. omega (arith, c.type_inv.octets i)) (omega arith) c.requires.whole c.requires.placed read in
    view_signs c.args.outer.value.now (data_so_far c.loop-next.gathered).name c.loop-next.gathered.signature
    (omega (arith, value_ends 0x06 c.args.octets.now (item c.args.outer) c.requires.whole c.requires.placed))
    gathers.signature
