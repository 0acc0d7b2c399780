-- The contents of records and index packets that were written say what was given.
use Rattle.std.proofs.Common.{◌≡◌, ℕ, ◌+◌, ◌<◌, ◌≤◌, Bool, true, false, cond, List, [], ◌∷◌, ◌++◌, length}
use Rattle.std.proofs.Common.{append_assoc, Some, None, refl, sym}
use Rattle.std.proofs.Common.{ap, ◌∙◌, arith}
use Rattle.std.specs.List.{All, flat_map}
use Rattle.std.proofs.lemmas.List.{append-nil}
use Rattle.std.proofs.lemmas.List.Elements.{All-head, All-tail}
use Rattle.ndn_tlv.specs.declared.order_table.FieldError.{FieldError}
use Rattle.ndn_tlv.specs.declared.order_table.Place.{Place}
use Rattle.ndn_tlv.specs.declared.tlv_fault.TlvFault.{TlvFault}
use Rattle.ndn_tlv.specs.Spelling.{element}
use Rattle.ndn_tlv.specs.Listing.{Listing, ◌then◌}
use Rattle.ndn_tlv.specs.Elements.{Item, placed, elements}
use Rattle.ndn_tlv.specs.NumberField.{number_field}
use Rattle.ndn_tlv.specs.OrderTable.{place_of, fields_among, fields}
use Rattle.ndn_tlv.proofs.Listings.{elements-nil}
use Rattle.ndn_tlv.proofs.NumberFields.{number_of-number_field}
use Rattle.ndn_name.specs.Names.{encoding}
use Rattle.ndn_name.proofs.Encodings.{name_of-encoding}
use Rattle.ndn_packet.proofs.ReadBack.{followed}
use Rattle.repo_object.specs.declared.record_fields.RecordField.{RecordField}
use Rattle.repo_object.specs.declared.record_fields.RecordField.TheVariants as field
use Rattle.repo_object.specs.Publication.{Listed, RecordSays, is_indexed, record_content, index_content}
use Rattle.repo_object.specs.Publication.RecordSays.{Lists, WithdrawsNumber}
use Rattle.repo_object.specs.Records.{record_table, index_table, record_of, index_of}
use Rattle.repo_object.specs.Formats.{IsDigest, IsListing, IsStated, HasListing, HasWithdrawal, as_digests, values}
use Rattle.repo_object.proofs.Sizes.{number_field-two, named_short}
use Rattle.repo_object.proofs.RecordLemmas.{Field, stated, index_from}

abbrev digest_place : Place RecordField
digest_place = record { typ = 0x83; field = field.Digest; repeats = true }

abbrev index_place : Place RecordField
index_place = record { typ = 0x87; field = field.IndexDigest; repeats = true }

-- the elements of digests from an offset on
digest_items : ℕ → ℕ → List (List ℕ) → List Item
digest_items typ o [] = []
digest_items typ o (d ∷ ds) = placed o typ d ∷ digest_items typ (o + length (element typ d)) ds

abbrev only_items : List Item → Listing Item TlvFault
only_items items = record { items = items; fault = None }

abbrev only_fields : List Field → Listing Field FieldError
only_fields items = record { items = items; fault = None }

digests_read : (typ o : ℕ) (ds : List (List ℕ)) → 0 < typ → typ < 253 → All IsDigest ds
    → elements o (flat_map (element typ) ds) ≡ only_items (digest_items typ o ds)
unfolding digest_items
digests_read typ o [] some low long = elements-nil o [] refl
digests_read typ o (d ∷ ds) some low long =
    let first : length d ≡ 32 = All-head IsDigest d ds long in
    followed o typ d (flat_map (element typ) ds) (only_items (digest_items typ (o + length (element typ d)) ds))
    (omega (arith, some)) (omega (arith, low)) (omega (arith, first))
    (digests_read typ (o + length (element typ d)) ds some low (All-tail IsDigest d ds long))

digest_values : (typ o : ℕ) (ds : List (List ℕ)) → values (digest_items typ o ds) ≡ ds
unfolding digest_items
digest_values typ o [] = refl
digest_values typ o (d ∷ ds) =
    ap (λ (xs : List (List ℕ)). d ∷ xs) (digest_values typ (o + length (element typ d)) ds)

-- elements of segments' digests are fields, whatever places follow
digests_are_fields : (others : List (Place RecordField)) (o : ℕ) (ds : List (List ℕ))
    → fields_among (digest_place ∷ others) (digest_items 0x83 o ds) None
    ≡ only_fields (as_digests false (digest_items 0x83 o ds))
unfolding fields_among place_of digest_items
digests_are_fields others o [] = refl
digests_are_fields others o (d ∷ ds) =
    ap (λ (l : Listing Field FieldError). (field.Digest, placed o 0x83 d) then l)
    (digests_are_fields others (o + length (element 0x83 d)) ds)

-- elements of index packets' digests are fields
indexes_are_fields : (o : ℕ) (ds : List (List ℕ))
    → fields_among (index_place ∷ []) (digest_items 0x87 o ds) None
    ≡ only_fields (as_digests true (digest_items 0x87 o ds))
unfolding fields_among place_of digest_items
indexes_are_fields o [] = refl
indexes_are_fields o (d ∷ ds) =
    ap (λ (l : Listing Field FieldError). (field.IndexDigest, placed o 0x87 d) then l)
    (indexes_are_fields (o + length (element 0x87 d)) ds)

abbrev digest_places : List (Place RecordField)
digest_places = digest_place ∷ index_place ∷ []

first_indexes : (o : ℕ) (ds : List (List ℕ))
    → fields_among digest_places (digest_items 0x87 o ds) None
    ≡ only_fields (as_digests true (digest_items 0x87 o ds))
unfolding fields_among place_of digest_items
first_indexes o [] = refl
first_indexes o (d ∷ ds) =
    ap (λ (l : Listing Field FieldError). (field.IndexDigest, placed o 0x87 d) then l)
    (indexes_are_fields (o + length (element 0x87 d)) ds)

abbrev typ_of : Bool → ℕ
typ_of indexes = cond indexes 0x87 0x83

either_kind : (indexes : Bool) (o : ℕ) (ds : List (List ℕ))
    → fields_among digest_places (digest_items (typ_of indexes) o ds) None
    ≡ only_fields (as_digests indexes (digest_items (typ_of indexes) o ds))
either_kind true o ds = first_indexes o ds
either_kind false o ds = digests_are_fields (index_place ∷ []) o ds

typ_some : (indexes : Bool) → 0 < typ_of indexes
typ_some true = omega arith
typ_some false = omega arith

typ_low : (indexes : Bool) → typ_of indexes < 253
typ_low true = omega arith
typ_low false = omega arith

table : (a b : Item) (rest : List Item) → a.typ ≡ 0x07 → b.typ ≡ 0x81
    → fields record_table (a then (b then only_items rest))
    ≡ ((field.Name, a) then ((field.SegmentCount, b) then fields_among digest_places rest None))
unfolding fields_among place_of
table a b rest h k = rw (h, k) refl

written_lists : (l : Listed) → IsListing l → HasListing (record_content (Lists l)) l
written_lists l within =
    let kind = is_indexed l.segments in
    let typ = typ_of kind in
    let n = l.segments in
    let name = encoding l.name in
    let first = element 0x07 name in
    let second = element 0x81 (number_field n) in
    let others = flat_map (element typ) l.digests in
    let o = 0 + length first in
    let p = o + length second in
    let a = placed 0 0x07 name in
    let b = placed o 0x81 (number_field n) in
    let two = number_field-two n (omega (arith, within.few)) in
    let short : length name ≤ 400 = named_short l.name within.named in
    let read : elements 0 (record_content (Lists l)) ≡ (a then (b then only_items (digest_items typ p l.digests))) =
    ap (elements 0) (append_assoc first second others)
    ∙ followed 0 0x07 name (second ++ others) (b then only_items (digest_items typ p l.digests)) (omega arith)
    (omega arith) (omega (arith, short))
    (followed o 0x81 (number_field n) others (only_items (digest_items typ p l.digests)) (omega arith) (omega arith)
    (omega (arith, two)) (digests_read typ p l.digests (typ_some kind) (typ_low kind) within.digests)) in
    record {
      name = a;
      count = b;
      digests = digest_items typ p l.digests;
      fields =
          ap (fields record_table) read
          ∙ table a b (digest_items typ p l.digests) refl refl
          ∙ ap (λ (f : Listing Field FieldError). (field.Name, a) then ((field.SegmentCount, b) then f))
          (either_kind kind p l.digests);
      names = name_of-encoding a.value_start l.name within.name;
      named = within.named;
      counts = number_of-number_field n (omega (arith, within.few));
      few = within.few;
      many = within.count;
      values = digest_values typ p l.digests;
      are = within.digests;
    }

withdrawn : (a : Item) → a.typ ≡ 0x85 → fields record_table (a then only_items [])
    ≡ only_fields ((field.Withdraws, a) ∷ [])
unfolding fields_among place_of
withdrawn a h = rw h refl

written_withdraws : (seq : ℕ) → 0 < seq → seq ≤ 65535 → HasWithdrawal (record_content (WithdrawsNumber seq)) seq
written_withdraws seq some few =
    let value = number_field seq in
    let a = placed 0 0x85 value in
    let two = number_field-two seq (omega (arith, few)) in
    let read : elements 0 (record_content (WithdrawsNumber seq)) ≡ (a then only_items []) =
    ap (elements 0) (sym (append-nil (element 0x85 value)))
    ∙ followed 0 0x85 value [] (only_items []) (omega arith) (omega arith) (omega (arith, two))
    (elements-nil (0 + length (element 0x85 value)) [] refl) in
    record {
      number = a;
      fields = ap (fields record_table) read ∙ withdrawn a refl;
      counts = number_of-number_field seq (omega (arith, few));
      some = some;
      few = few;
    }

-- the content of a record says what was written
pub written_says : (says : RecordSays) → IsStated says → record_of (record_content says) ≡ Some says
written_says (Lists l) within = (stated (record_content (Lists l)) (Lists l)).1 (written_lists l within)
written_says (WithdrawsNumber seq) within =
    (stated (record_content (WithdrawsNumber seq)) (WithdrawsNumber seq)).1 (written_withdraws seq within.0 within.1)

-- the content of an index packet lists the digests that were given
pub written_index : (digests : List (List ℕ)) → All IsDigest digests
    → index_of (index_content digests) (length digests) ≡ Some digests
written_index digests long =
    index_from (index_content digests) (length digests) digests (record {
      items = digest_items 0x83 0 digests;
      fields =
          ap (fields index_table) (digests_read 0x83 0 digests (omega arith) (omega arith) long)
          ∙ digests_are_fields [] 0 digests;
      values = digest_values 0x83 0 digests;
      are = long;
    }) refl
