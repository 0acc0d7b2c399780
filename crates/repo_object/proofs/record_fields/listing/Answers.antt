use Rattle.std.proofs.Common.{false, List, ℕ, sym, subst, arith}
use Rattle.ndn_tlv.specs.Elements.{item}
use Rattle.repo_object.specs.declared.record_fields.DigestReader.{DigestReader}
use Rattle.repo_object.specs.Readers.{IsRow}
use Rattle.repo_object.proofs.RowLemmas.{fields_begin, count_ends, record_row}
use Rattle.repo_object.proofs.record_fields.listing.Goals as goal

pub split_at-requires : goal.split_at-requires
split_at-requires c =
    let second = rw c.in-Ok-Some.field-0-is at c.in-Ok-Some.ensures.ok in
    let name = item c.args.name in
    let count = item c.in-Ok-Some.second.1 in
    let reader : DigestReader = record {
      fields = c.next.new.self;
      indexes = false;
      left =
          c.in_ok-segments.segments;
    } in
    let are =
    fields_begin c.args.content.now c.args.fields reader.fields c.in-Ok-Some.second.0 name count c.requires.fields
    second c.in-SegmentCount-default.is-0 in
    count_ends c.args.content.now (λ i. omega (arith, c.type_inv.content i)) name count reader are

pub returns-clause-row : goal.returns-clause-row
returns-clause-row c =
    let second = rw c.in-Ok-Some.field-0-is at c.in-Ok-Some.ensures.ok in
    let name = item c.args.name in
    let count = item c.in-Ok-Some.second.1 in
    let reader : DigestReader = record {
      fields = c.next.new.self;
      indexes = _;
      left = c.count_listed.result;
    } in
    let are =
    fields_begin c.args.content.now c.args.fields reader.fields c.in-Ok-Some.second.0 name count c.requires.fields
    second c.in-SegmentCount-default.is-0 in
    λ all. subst (λ (octets : List ℕ). IsRow octets reader) (sym c.split_at.ensures.back)
    (record_row c.args.content.now (λ i. omega (arith, c.type_inv.content i)) name count reader are all)
