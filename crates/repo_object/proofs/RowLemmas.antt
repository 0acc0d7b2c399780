-- Digests that fill all that follows a place of a content stand one after another.
use Rattle.std.proofs.Common.{◌≡◌, ℕ, zero, suc, ◌+◌, ◌*◌, ◌^◌, ◌<◌, ◌≤◌, Bool, eqb, List, [], ◌∷◌, ◌++◌, length}
use Rattle.std.proofs.Common.{length-append, append_assoc, length-drop, take, drop, drop_at, drop-drop, map, Option}
use Rattle.std.proofs.Common.{Some, None, slice_get, refl, ap, sym, subst, ◌∙◌, inl, inr, arith}
use Rattle.std.specs.Prelude.{IsSome, unwrap_or}
use Rattle.std.specs.List.{All}
use Rattle.std.proofs.lemmas.Bool.{cases_lt, eqb-true}
use Rattle.std.proofs.lemmas.List.{take_at}
use Rattle.std.proofs.lemmas.List.Elements.{All-head, All-tail}
use Rattle.ndn_tlv.specs.declared.order_table.Place.{Place}
use Rattle.ndn_tlv.specs.Spelling.{number, head, element}
use Rattle.ndn_tlv.specs.Listing.{◌then◌}
use Rattle.ndn_tlv.specs.Elements.{IsOctets, Item, AreWithin, elements}
use Rattle.ndn_tlv.specs.OrderTable.{fields}
use Rattle.ndn_tlv.proofs.Numbers.{number-narrow, number-16, number-32, number-64}
use Rattle.ndn_tlv.proofs.Listings.{elements_are, elements_within_octets}
use Rattle.ndn_tlv.proofs.Fields.{fields_within, AreWithin-ends}
use Rattle.ndn_packet.proofs.Gathering.{Each, Stands, elements_stand}
use Rattle.ndn_packet.proofs.Lengths.{length-element}
use Rattle.repo_object.specs.declared.record_fields.RecordField.{RecordField}
use Rattle.repo_object.specs.declared.record_fields.RecordField.TheVariants as field
use Rattle.repo_object.specs.declared.record_fields.DigestReader.{DigestReader}
use Rattle.repo_object.specs.Records.{record_table, record_fields, index_table, index_fields, digests_among}
use Rattle.repo_object.specs.Readers.{remaining_digests, IsRow}
use Rattle.repo_object.specs.Formats.{IsDigest, as_digests, values}
use Rattle.repo_object.proofs.DigestLemmas.{Fields}
use Rattle.repo_object.proofs.RecordLemmas.{passes_some, elements_of, each_of_fields, digest_fields}

-- ---- an element has two octets at least in front of its value

number_some : (n : ℕ) → 1 ≤ length (number n)
number_some n =
    elim (cases_lt n 253) [
      | inl a ↦ omega (arith, ap length (number-narrow n a))
      | inr a ↦
          elim (cases_lt n (2 ^ 16)) [
            | inl b ↦ omega (arith, ap length (number-16 n a b))
            | inr b ↦
                elim (cases_lt n (2 ^ 32)) [
                  | inl d ↦ omega (arith, ap length (number-32 n b d))
                  | inr d ↦ omega (arith, ap length (number-64 n d))
                ]
          ]
    ]

element_headed : (typ : ℕ) (value : List ℕ) → length value + 2 ≤ length (element typ value)
element_headed typ value =
    omega (
      arith,
      length-element typ value,
      length-append (number typ) (number (length value)),
      number_some typ,
      number_some (length value),
    )

module _ (content : List ℕ) (high : ℕ) where
  -- elements of digests between `low` and `high` have room there: 34 octets each
  digests_room : (low : ℕ) (items : List Item) → AreWithin low high items → Each (Stands content) items
      → All IsDigest (values items)
      → low + 34 * length items ≤ high
  digests_room low [] within stand long = omega (arith, within)
  digests_room low (e ∷ es) within stand long =
      omega (
        arith,
        within.0,
        stand.0.ends,
        element_headed e.typ e.value,
        All-head IsDigest e.value (values es) long,
        digests_room e.end es within.3 stand.1 (All-tail IsDigest e.value (values es) long),
      )

  -- a value after a head of two octets
  value_at : (low : ℕ) (e : Item) → Stands content e → e.start ≡ low → length e.value ≡ 32
      → length (element e.typ e.value) ≡ 34
      → take 32 (drop (low + 2) content) ≡ e.value
  value_at low e stands at long whole =
      let prefix = head e.typ (length e.value) in
      let two : length prefix ≡ 2 = omega (arith, length-element e.typ e.value) in
      let parts : drop low content ≡ prefix ++ (e.value ++ stands.after) =
      ap (λ (n : ℕ). drop n content) (sym at) ∙ stands.parts ∙ simp append_assoc in
      let after : drop (low + 2) content ≡ e.value ++ stands.after =
      sym (drop-drop 2 low content) ∙ ap (drop 2) parts ∙ drop_at prefix (e.value ++ stands.after) 2 two in
      ap (take 32) after ∙ take_at e.value stands.after 32 long

  in_row : (low : ℕ) (items : List Item) → AreWithin low high items → Each (Stands content) items
      → All IsDigest (values items)
      → high ≡ low + 34 * length items → (i : ℕ) → i < length items
      → slice_get (values items) i ≡ Some (take 32 (drop (low + (34 * i + 2)) content))
  in_row low [] within stand long full i lt = absurd (omega (arith, lt))
  in_row low (e ∷ es) within stand long full i lt =
      let first = All-head IsDigest e.value (values es) long in
      let others = All-tail IsDigest e.value (values es) long in
      let room = digests_room e.end es within.3 stand.1 others in
      let headed = element_headed e.typ e.value in
      let starts : e.start ≡ low = omega (arith, within.0, stand.0.ends, headed, first, room, full) in
      let whole : length (element e.typ e.value) ≡ 34 =
      omega (arith, within.0, stand.0.ends, headed, first, room, full) in
      let ends : e.end ≡ low + 34 = omega (arith, starts, whole, stand.0.ends) in
      at i lt (value_at low e stand.0 starts first whole)
      (λ j below. in_row e.end es within.3 stand.1 others (omega (arith, full, ends)) j below) ends
    where
      place : ℕ → Option (List ℕ)
      place n = Some (take 32 (drop n content))

      found : List ℕ → Option (List ℕ)
      found d = Some d

      at : (i : ℕ) → i < length (e ∷ es) → take 32 (drop (low + 2) content) ≡ e.value
          → ((j : ℕ) → j < length es → slice_get (values es) j ≡ Some (take 32 (drop (e.end + (34 * j + 2)) content)))
          → e.end ≡ low + 34 → slice_get (values (e ∷ es)) i ≡ Some (take 32 (drop (low + (34 * i + 2)) content))
      at zero lt here later ends = ap found (sym here)
      at (suc j) lt here later ends = later j (omega (arith, lt)) ∙ ap place (omega (arith, ends))

-- ---- the elements of fields

abbrev pub field_items : List (RecordField × Item) → List Item
field_items fields = map (λ (x : RecordField × Item). x.1) fields

items_of_digests : (indexes : Bool) (items : List Item) → field_items (as_digests indexes items) ≡ items
items_of_digests indexes [] = refl
items_of_digests indexes (e ∷ es) = ap (λ (xs : List Item). e ∷ xs) (items_of_digests indexes es)

length-values : (items : List Item) → length (values items) ≡ length items
length-values [] = refl
length-values (e ∷ es) = ap suc (length-values es)

-- digests that are fields after a place, of which nothing else has room there
row : (content : List ℕ) (start : ℕ) (reader : DigestReader) → start ≤ length content
    → AreWithin start (length content) (field_items reader.fields.items)
    → Each (Stands content) (field_items reader.fields.items)
    → IsSome (remaining_digests reader) → IsRow (drop start content) reader
row content start reader inside within stand all full i lt = go (remaining_digests reader) refl all where
  go : (o : Option (List (List ℕ))) → remaining_digests reader ≡ o → IsSome o
      → slice_get (unwrap_or o []) i ≡ Some (take 32 (drop (34 * i + 2) (drop start content)))
  go None p s = absurd cc
  go (Some digests) p s =
      let counted =
      passes_some (λ (ds : List (List ℕ)). eqb (length ds) reader.left)
      (digests_among reader.indexes reader.fields.items reader.fields.fault) digests p in
      let many : length digests ≡ reader.left = eqb-true (length digests) reader.left counted.1 in
      let ds = digest_fields reader.indexes reader.fields.items reader.fields.fault digests counted.0 in
      let same : field_items reader.fields.items ≡ ds.items =
      ap field_items ds.are ∙ items_of_digests reader.indexes ds.items in
      let in_order = subst (AreWithin start (length content)) same within in
      let at_places = subst (Each (Stands content)) same stand in
      let long = subst (All IsDigest) (sym ds.values) ds.long in
      let size : length ds.items ≡ reader.left = sym (length-values ds.items) ∙ ap length ds.values ∙ many in
      let exact : length content ≡ start + 34 * length ds.items =
      omega (arith, full, size, length-drop start content, inside) in
      let found =
      in_row content (length content) start ds.items in_order at_places long exact i (omega (arith, lt, size)) in
      ap (λ (xs : List (List ℕ)). slice_get xs i) (sym ds.values)
      ∙ found
      ∙ ap (λ (xs : List ℕ). Some (take 32 xs)) (sym (drop-drop (34 * i + 2) start content))

-- two fields that were read are the first ones
pub fields_begin : (content : List ℕ) (fields rest : Fields) (two : RecordField) (name count : Item)
    → record_fields content ≡ ((field.Name, name) then fields) → fields ≡ ((two, count) then rest)
    → two ≡ field.SegmentCount
    → record_fields content ≡ ((field.Name, name) then ((field.SegmentCount, count) then rest))
fields_begin content fields rest two name count first second is_count =
    first
    ∙ ap (λ (f : Fields). (field.Name, name) then f) second
    ∙ ap (λ (x : RecordField). (field.Name, name) then ((x, count) then rest)) is_count

module _ (content : List ℕ) (fits : IsOctets content) where
  -- the elements of fields stand in the content, in order
  fields_in_order : (table : List (Place RecordField))
      → AreWithin 0 (length content) (elements_of (fields table (elements 0 content)))
  fields_in_order table =
      let read = elements 0 content in
      let whole : 0 + length content ≡ length content = omega arith in
      let all = subst (λ (high : ℕ). AreWithin 0 high read.items) whole (elements_within_octets 0 content) in
      fields_within table read.items read.fault 0 (length content) all

  fields_stand : (table : List (Place RecordField)) → Each (Stands content) (elements_of (fields table (elements 0
      content)))
  fields_stand table =
      let read = elements 0 content in
      each_of_fields (Stands content) table read.items read.fault
      (elements_stand content 0 content read.items read.fault refl (elements_are 0 content fits))

  -- after the number of segments
  module _ (name count : Item) (reader : DigestReader)
      (are : record_fields content ≡ ((field.Name, name) then ((field.SegmentCount, count) then reader.fields))) where
    within : AreWithin 0 (length content) (name ∷ count ∷ field_items reader.fields.items)
    within =
        let W : Fields → Type 0 = λ f. AreWithin 0 (length content) (elements_of f) in
        subst W are (fields_in_order record_table)

    pub count_ends : count.end ≤ length content
    count_ends = AreWithin-ends count.end (length content) (field_items reader.fields.items) within.3.3

    pub record_row : IsSome (remaining_digests reader) → IsRow (drop count.end content) reader
    record_row =
        let E : Fields → Type 0 = λ f. Each (Stands content) (elements_of f) in
        let stand = subst E are (fields_stand record_table) in
        row content count.end reader count_ends within.3.3 stand.1.1

  -- in an index packet
  pub index_row : (reader : DigestReader) → reader.fields ≡ index_fields content
      → IsSome (remaining_digests reader) → IsRow content reader
  index_row reader are =
      let W : Fields → Type 0 = λ f. AreWithin 0 (length content) (elements_of f) in
      let E : Fields → Type 0 = λ f. Each (Stands content) (elements_of f) in
      row content 0 reader (omega arith) (subst W (sym are) (fields_in_order index_table))
      (subst E (sym are) (fields_stand index_table))
