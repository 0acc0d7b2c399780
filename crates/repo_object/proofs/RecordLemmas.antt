-- What records and index packets say is what their fields say.
use Rattle.std.proofs.Common.{◌≡◌, ℕ, ◌<◌, ◌↔◌, ◌^◌, Bool, true, false, cond, ◌&&◌, eqb, leb, List, [], ◌∷◌, length}
use Rattle.std.proofs.Common.{length-append, map, Option, Some, None, option_map, Result, Ok, Err, refl, sym, ap, subst}
use Rattle.std.proofs.Common.{◌∙◌, arith}
use Rattle.std.specs.List.{All}
use Rattle.std.specs.Option.{option_and_then}
use Rattle.std.proofs.lemmas.Bool.{eq-eqb, eqb-true, le-leb, leb-true, and_parts, and_from}
use Rattle.std.proofs.lemmas.List.Elements.{All-nil, All-cons, All-head, All-tail}
use Rattle.ndn_tlv.specs.declared.order_table.FieldError.{FieldError}
use Rattle.ndn_tlv.specs.declared.order_table.FieldError.TheVariants.{Critical}
use Rattle.ndn_tlv.specs.declared.order_table.Place.{Place}
use Rattle.ndn_tlv.specs.declared.tlv_fault.TlvFault.{TlvFault}
use Rattle.ndn_tlv.specs.Spelling.{head, element}
use Rattle.ndn_tlv.specs.Listing.{Listing}
use Rattle.ndn_tlv.specs.Elements.{IsOctets, Item, AreElements, elements}
use Rattle.ndn_tlv.specs.NumberField.{number_of}
use Rattle.ndn_tlv.specs.OrderTable.{is_critical_type, place_of, field_then, fields_among, fields}
use Rattle.ndn_tlv.proofs.Listings.{elements_are}
use Rattle.ndn_name.specs.declared.name_fault.NameFault.{NameFault}
use Rattle.ndn_name.specs.Names.{Component, name_of}
use Rattle.ndn_name.proofs.Encodings.{IsOctets-after, IsOctets-before, name_of-encoded}
use Rattle.ndn_name.proofs.ComputedValues.{option_map_some}
use Rattle.ndn_packet.proofs.Gathering.{Each}
use Rattle.repo_object.specs.declared.record_fields.RecordField.{RecordField}
use Rattle.repo_object.specs.declared.record_fields.RecordField.TheVariants as field
use Rattle.repo_object.specs.Objects.{is_object_name}
use Rattle.repo_object.specs.Publication.{Listed, RecordSays, is_indexed, count_listed}
use Rattle.repo_object.specs.Publication.RecordSays.{Lists, WithdrawsNumber}
use Rattle.repo_object.specs.Records.{record_table, that_passes, read_name, object_name_in, segment_count_in, number_in}
use Rattle.repo_object.specs.Records.{digest_in, digests_among, counted_digests, listed_digests, listed_record}
use Rattle.repo_object.specs.Records.{withdrawal_among, listing_among, stated_among, record_fields, record_of}
use Rattle.repo_object.specs.Records.{index_fields, index_of}
use Rattle.repo_object.specs.Formats.{IsDigest, IsListing, IsStated, digest_field, as_digests, values, HasListing}
use Rattle.repo_object.specs.Formats.{HasWithdrawal, HasStated, HasIndex}

abbrev pub Field : Type 0
Field = RecordField × Item

-- ---- the value of a step that did not fail

pub and_then_some : {A B : Type 0} (f : A → Option B) (o : Option A) (y : B) → option_and_then f o ≡ Some y
    → (x : A) × (o ≡ Some x) × (f x ≡ Some y)
and_then_some f None y e = absurd cc
and_then_some f (Some x) y e = (x, refl, e)

pub passes_some : {A : Type 0} (test : A → Bool) (o : Option A) (x : A) → that_passes test o ≡ Some x
    → (o ≡ Some x) × (test x ≡ true)
passes_some test None x e = absurd cc
passes_some {A} test (Some y) x e = by_test (test y) refl e where
  found : A → Option A
  found x = Some x

  same : (x y : A) → found x ≡ found y → x ≡ y
  same x y e = cc

  by_test : (b : Bool) → test y ≡ b → cond b (found y) None ≡ Some x → (found y ≡ Some x) × (test x ≡ true)
  by_test true h e = (e, ap test (sym (same y x e)) ∙ h)
  by_test false h e = absurd cc

some_passes : {A : Type 0} (test : A → Bool) (o : Option A) (x : A) → o ≡ Some x → test x ≡ true
    → that_passes test o ≡ Some x
some_passes test o x e h = ap (that_passes test) e ∙ rw h refl

same_listing : (a b : Listing Field FieldError) → a.items ≡ b.items → a.fault ≡ b.fault → a ≡ b
same_listing a b i f =
    let with_items : List Field → Listing Field FieldError = λ items. record { items = items; fault = a.fault } in
    let with_fault : Option FieldError → Listing Field FieldError =
    λ fault. record { items = b.items; fault = fault } in
    ap with_items i ∙ ap with_fault f

-- ---- digests

pub record DigestFields (indexes : Bool) (fields : List Field) (fault : Option FieldError) (digests : List (List ℕ))
    : Type 0 where
  pub items : List Item
  pub are : fields ≡ as_digests indexes items
  pub values : values items ≡ digests
  pub ended : fault ≡ None
  pub long : All IsDigest digests

abbrev IsField : Bool → Field → List ℕ → Type 0
IsField indexes first d = (first ≡ (digest_field indexes, first.1)) × (first.1.value ≡ d) × (length d ≡ 32)

long_value : (e : Item) (d : List ℕ) → cond (eqb (length e.value) 32) (Some e.value) None ≡ Some d
    → (e.value ≡ d) × (length d ≡ 32)
long_value e d h = by_test (eqb (length e.value) 32) refl h where
  found : List ℕ → Option (List ℕ)
  found x = Some x

  same : (x y : List ℕ) → found x ≡ found y → x ≡ y
  same x y e = cc

  by_test : (b : Bool) → eqb (length e.value) 32 ≡ b → cond b (found e.value) None ≡ Some d
      → (e.value ≡ d) × (length d ≡ 32)
  by_test true g k = let is = same e.value d k in (is, ap length (sym is) ∙ eqb-true (length e.value) 32 g)
  by_test false g k = absurd cc

first_digest : (indexes : Bool) (first : Field) (d : List ℕ) → digest_in indexes first ≡ Some d
    → IsField indexes first d
first_digest true (field.Withdraws, e) d h = absurd cc
first_digest true (field.Name, e) d h = absurd cc
first_digest true (field.SegmentCount, e) d h = absurd cc
first_digest true (field.Digest, e) d h = absurd cc
first_digest true (field.IndexDigest, e) d h = let v = long_value e d h in (refl, v.0, v.1)
first_digest false (field.Withdraws, e) d h = absurd cc
first_digest false (field.Name, e) d h = absurd cc
first_digest false (field.SegmentCount, e) d h = absurd cc
first_digest false (field.Digest, e) d h = let v = long_value e d h in (refl, v.0, v.1)
first_digest false (field.IndexDigest, e) d h = absurd cc

pub digest_fields : (indexes : Bool) (fields : List Field) (fault : Option FieldError) (digests : List (List ℕ))
    → digests_among indexes fields fault ≡ Some digests → DigestFields indexes fields fault digests
unfolding digests_among
digest_fields indexes [] None digests h =
    let none : [] ≡ digests = cc in
    record { items = []; are = refl; values = none; ended = refl; long = subst (All IsDigest) none (All-nil IsDigest) }
digest_fields indexes [] (Some fault) digests h = absurd cc
digest_fields indexes (first ∷ fields) fault digests h =
    let b =
    and_then_some
    (λ (digest : List ℕ). option_map (λ (ds : List (List ℕ)). digest ∷ ds) (digests_among indexes fields fault))
    (digest_in indexes first) digests h in
    let m = option_map_some (λ (ds : List (List ℕ)). b.0 ∷ ds) (digests_among indexes fields fault) digests b.2 in
    let rest = digest_fields indexes fields fault m.0 m.1 in
    let here = first_digest indexes first b.0 b.1 in
    record {
      items = first.1 ∷ rest.items;
      are = ap (λ (x : Field). x ∷ fields) here.0 ∙ ap (λ (xs : List Field). (digest_field indexes, first.1) ∷ xs)
          rest.are;
      values =
          ap (λ (x : List ℕ). x ∷ values rest.items) here.1
          ∙ ap (λ (xs : List (List ℕ)). b.0 ∷ xs) rest.values
          ∙ m.2;
      ended = rest.ended;
      long = subst (All IsDigest) m.2 (All-cons IsDigest b.0 m.0 here.2 rest.long);
    }

digests_of_fields : (indexes : Bool) (items : List Item) → All IsDigest (values items)
    → digests_among indexes (as_digests indexes items) None ≡ Some (values items)
unfolding digests_among
digests_of_fields indexes [] long = refl
digests_of_fields true (e ∷ es) long =
    let rest = digests_of_fields true es (All-tail IsDigest e.value (values es) long) in
    rw (eq-eqb (length e.value) 32 (All-head IsDigest e.value (values es) long), rest) refl
digests_of_fields false (e ∷ es) long =
    let rest = digests_of_fields false es (All-tail IsDigest e.value (values es) long) in
    rw (eq-eqb (length e.value) 32 (All-head IsDigest e.value (values es) long), rest) refl

-- fields of `n` digests are read as these, where no fault ends them
counted_fields : (indexes : Bool) (n : ℕ) (items : List Item) (digests : List (List ℕ)) → values items ≡ digests
    → All IsDigest digests → length digests ≡ n
    → counted_digests indexes n (record { items = as_digests indexes items; fault = None }) ≡ Some digests
counted_fields indexes n items digests same are many =
    some_passes (λ (ds : List (List ℕ)). eqb (length ds) n) (digests_among indexes (as_digests indexes items) None)
    digests
    (digests_of_fields indexes items (subst (All IsDigest) (sym same) are) ∙ ap (λ (ds : List (List ℕ)). all ds) same)
    (eq-eqb (length digests) n many)
  where
    all : List (List ℕ) → Option (List (List ℕ))
    all ds = Some ds

-- ---- the fields of a record

record BeginsNamed (fields : List Field) (fault : Option FieldError) (l : Listed) : Type 0 where
  name : Item
  count : Item
  digests : List Field
  are : fields ≡ (field.Name, name) ∷ (field.SegmentCount, count) ∷ digests
  lists : listing_among name count digests fault ≡ Some (Lists l)

withdraws_no_listing : (w : Item) (fields : List Field) (fault : Option FieldError) (l : Listed)
    → withdrawal_among w fields fault ≡ Some (Lists l) → ⊥
withdraws_no_listing w [] None l h =
    let m = option_map_some (λ (n : ℕ). WithdrawsNumber n) (number_in w) (Lists l) h in other m.0 m.2
  where
    other : (n : ℕ) → WithdrawsNumber n ≡ Lists l → ⊥
    other n e = cc
withdraws_no_listing w [] (Some f) l h = cc
withdraws_no_listing w (f ∷ fs) fault l h = cc

begins_named : (fields : List Field) (fault : Option FieldError) (l : Listed) → stated_among fields fault
    ≡ Some (Lists l)
    → BeginsNamed fields fault l
begins_named [] fault l h = absurd cc
begins_named ((field.Withdraws, w) ∷ fs) fault l h = absurd (withdraws_no_listing w fs fault l h)
begins_named ((field.SegmentCount, e) ∷ fs) fault l h = absurd cc
begins_named ((field.Digest, e) ∷ fs) fault l h = absurd cc
begins_named ((field.IndexDigest, e) ∷ fs) fault l h = absurd cc
begins_named ((field.Name, n) ∷ []) fault l h = absurd cc
begins_named ((field.Name, n) ∷ (field.Withdraws, c) ∷ ds) fault l h = absurd cc
begins_named ((field.Name, n) ∷ (field.Name, c) ∷ ds) fault l h = absurd cc
begins_named ((field.Name, n) ∷ (field.Digest, c) ∷ ds) fault l h = absurd cc
begins_named ((field.Name, n) ∷ (field.IndexDigest, c) ∷ ds) fault l h = absurd cc
begins_named ((field.Name, n) ∷ (field.SegmentCount, c) ∷ ds) fault l h =
    record { name = n; count = c; digests = ds; are = refl; lists = h }

-- a name that was read
named_ok : (r : Result (List Component) NameFault) (name : List Component) → read_name r ≡ Some name → r ≡ Ok name
named_ok (Ok n) name h = let same : n ≡ name = cc in ap (λ (x : List Component). ok x) same where
  ok : List Component → Result (List Component) NameFault
  ok x = Ok x
named_ok (Err fault) name h = absurd cc

-- what follows the name, and what follows the number of segments
abbrev digests_after : List Field → Option FieldError → List Component → ℕ → Option RecordSays
digests_after items fault name segments = option_map (listed_record name segments) (listed_digests segments items
    fault)

abbrev count_after : Item → List Field → Option FieldError → List Component → Option RecordSays
count_after c items fault name = option_and_then (digests_after items fault name) (segment_count_in c)

pub listing_stated : (content : List ℕ) (l : Listed) → record_of content ≡ Some (Lists l) → HasListing content l
listing_stated content l h =
    let read = record_fields content in
    let b = begins_named read.items read.fault l h in
    let n = and_then_some (count_after b.count b.digests read.fault) (object_name_in b.name) (Lists l) b.lists in
    let c = and_then_some (digests_after b.digests read.fault n.0) (segment_count_in b.count) (Lists l) n.2 in
    let m = option_map_some (listed_record n.0 c.0) (listed_digests c.0 b.digests read.fault) (Lists l) c.2 in
    let counted =
    passes_some (λ (ds : List (List ℕ)). eqb (length ds) (count_listed c.0))
    (digests_among (is_indexed c.0) b.digests read.fault) m.0 m.1 in
    let name = passes_some is_object_name (read_name (name_of b.name.value_start b.name.value)) n.0 n.1 in
    let count = passes_some (λ (k : ℕ). leb k 20000) (number_of b.count.value) c.0 c.1 in
    let ds = digest_fields (is_indexed c.0) b.digests read.fault m.0 counted.0 in
    let whole : List Field → List Field = λ fs. (field.Name, b.name) ∷ (field.SegmentCount, b.count) ∷ fs in
    let rest : whole b.digests ≡ whole (as_digests (is_indexed c.0) ds.items) = ap whole ds.are in
    let all : read.items ≡ whole (as_digests (is_indexed c.0) ds.items) = b.are ∙ rest in
    subst (HasListing content) (same_lists (record { name = n.0; segments = c.0; digests = m.0 }) l m.2) (record {
      name = b.name;
      count = b.count;
      digests = ds.items;
      fields =
          same_listing read
          (record { items = whole (as_digests (is_indexed c.0) ds.items); fault = None }) all ds.ended;
      names = named_ok (name_of b.name.value_start b.name.value) n.0 name.0;
      named = name.1;
      counts = count.0;
      few = leb-true c.0 20000 count.1;
      many = eqb-true (length m.0) (count_listed c.0) counted.1;
      values = ds.values;
      are = ds.long;
    })
  where
    same_lists : (a b : Listed) → Lists a ≡ Lists b → a ≡ b
    same_lists a b e = cc

pub listing_from : (content : List ℕ) (l : Listed) → HasListing content l → record_of content ≡ Some (Lists l)
listing_from content l s =
    let items = as_digests (is_indexed l.segments) s.digests in
    let name =
    some_passes is_object_name (read_name (name_of s.name.value_start s.name.value)) l.name (ap read_name s.names)
    s.named in
    let count =
    some_passes (λ (k : ℕ). leb k 20000) (number_of s.count.value) l.segments s.counts (le-leb l.segments 20000
    s.few) in
    let counted =
    counted_fields (is_indexed l.segments) (count_listed l.segments) s.digests l.digests s.values s.are s.many in
    ap (λ (f : Listing Field FieldError). stated_among f.items f.fault) s.fields
    ∙ ap (option_and_then (count_after s.count items None)) name
    ∙ ap (option_and_then (digests_after items None l.name)) count
    ∙ ap (option_map (listed_record l.name l.segments)) counted

record BeginsWithdrawn (fields : List Field) (fault : Option FieldError) (seq : ℕ) : Type 0 where
  number : Item
  are : fields ≡ (field.Withdraws, number) ∷ []
  ended : fault ≡ None
  stated : number_in number ≡ Some seq

listing_no_withdrawal : (n c : Item) (ds : List Field) (fault : Option FieldError) (seq : ℕ)
    → listing_among n c ds fault ≡ Some (WithdrawsNumber seq) → ⊥
listing_no_withdrawal n c ds fault seq h =
    let a = and_then_some (count_after c ds fault) (object_name_in n) (WithdrawsNumber seq) h in
    let b = and_then_some (digests_after ds fault a.0) (segment_count_in c) (WithdrawsNumber seq) a.2 in
    let m = option_map_some (listed_record a.0 b.0) (listed_digests b.0 ds fault) (WithdrawsNumber seq) b.2 in
    other (record { name = a.0; segments = b.0; digests = m.0 }) m.2
  where
    other : (l : Listed) → Lists l ≡ WithdrawsNumber seq → ⊥
    other l e = cc

begins_withdrawn : (fields : List Field) (fault : Option FieldError) (seq : ℕ)
    → stated_among fields fault ≡ Some (WithdrawsNumber seq) → BeginsWithdrawn fields fault seq
begins_withdrawn [] fault seq h = absurd cc
begins_withdrawn ((field.Withdraws, w) ∷ []) None seq h =
    let m = option_map_some (λ (n : ℕ). WithdrawsNumber n) (number_in w) (WithdrawsNumber seq) h in
    record { number = w; are = refl; ended = refl; stated = m.1 ∙ ap (λ (n : ℕ). some_number n) (same m.0 seq m.2) }
  where
    some_number : ℕ → Option ℕ
    some_number n = Some n

    same : (m n : ℕ) → WithdrawsNumber m ≡ WithdrawsNumber n → m ≡ n
    same m n e = cc
begins_withdrawn ((field.Withdraws, w) ∷ []) (Some f) seq h = absurd cc
begins_withdrawn ((field.Withdraws, w) ∷ f ∷ fs) fault seq h = absurd cc
begins_withdrawn ((field.SegmentCount, e) ∷ fs) fault seq h = absurd cc
begins_withdrawn ((field.Digest, e) ∷ fs) fault seq h = absurd cc
begins_withdrawn ((field.IndexDigest, e) ∷ fs) fault seq h = absurd cc
begins_withdrawn ((field.Name, n) ∷ []) fault seq h = absurd cc
begins_withdrawn ((field.Name, n) ∷ (field.Withdraws, c) ∷ ds) fault seq h = absurd cc
begins_withdrawn ((field.Name, n) ∷ (field.Name, c) ∷ ds) fault seq h = absurd cc
begins_withdrawn ((field.Name, n) ∷ (field.Digest, c) ∷ ds) fault seq h = absurd cc
begins_withdrawn ((field.Name, n) ∷ (field.IndexDigest, c) ∷ ds) fault seq h = absurd cc
begins_withdrawn ((field.Name, n) ∷ (field.SegmentCount, c) ∷ ds) fault seq h =
    absurd (listing_no_withdrawal n c ds fault seq h)

withdrawal_stated : (content : List ℕ) (seq : ℕ) → record_of content ≡ Some (WithdrawsNumber seq)
    → HasWithdrawal content seq
withdrawal_stated content seq h =
    let read = record_fields content in
    let b = begins_withdrawn read.items read.fault seq h in
    let number = passes_some (λ (n : ℕ). leb 1 n && leb n 65535) (number_of b.number.value) seq b.stated in
    let within = and_parts (leb 1 seq) (leb seq 65535) number.1 in
    record {
      number = b.number;
      fields = same_listing read (record { items = (field.Withdraws, b.number) ∷ []; fault = None }) b.are b.ended;
      counts = number.0;
      some = omega (arith, leb-true 1 seq within.0);
      few = leb-true seq 65535 within.1;
    }

withdrawal_from : (content : List ℕ) (seq : ℕ) → HasWithdrawal content seq
    → record_of content ≡ Some (WithdrawsNumber seq)
withdrawal_from content seq s =
    let number =
    some_passes (λ (n : ℕ). leb 1 n && leb n 65535) (number_of s.number.value) seq s.counts
    (and_from (leb 1 seq) (leb seq 65535) (le-leb 1 seq (omega (arith, s.some))) (le-leb seq 65535 s.few)) in
    ap (λ (f : Listing Field FieldError). stated_among f.items f.fault) s.fields
    ∙ ap (option_map (λ (n : ℕ). WithdrawsNumber n)) number

pub stated : (content : List ℕ) (says : RecordSays) → (record_of content ≡ Some says) ↔ HasStated content says
stated content (Lists l) = (listing_stated content l, listing_from content l)
stated content (WithdrawsNumber seq) = (withdrawal_stated content seq, withdrawal_from content seq)

-- ---- index packets

pub index_stated : (content : List ℕ) (count : ℕ) (digests : List (List ℕ)) → index_of content count ≡ Some digests
    → HasIndex content digests × (length digests ≡ count)
index_stated content count digests h =
    let read = index_fields content in
    let counted =
    passes_some (λ (ds : List (List ℕ)). eqb (length ds) count) (digests_among false read.items read.fault) digests h in
    let ds = digest_fields false read.items read.fault digests counted.0 in (
      record {
        items = ds.items;
        fields = same_listing read (record { items = as_digests false ds.items; fault = None }) ds.are ds.ended;
        values = ds.values;
        are = ds.long;
      },
      eqb-true (length digests) count counted.1,
    )

pub index_from : (content : List ℕ) (count : ℕ) (digests : List (List ℕ)) → HasIndex content digests
    → length digests ≡ count → index_of content count ≡ Some digests
index_from content count digests s many =
    ap (counted_digests false count) s.fields ∙ counted_fields false count s.items digests s.values s.are many

-- ---- what was read is within the limits

record Fits (e : Item) : Type 0 where
  octets : IsOctets e.value
  long : length e.value < 2 ^ 64

elements_fit : (offset : ℕ) (octets : List ℕ) (es : List Item) (fault : Option TlvFault) → IsOctets octets
    → length octets < 2 ^ 64 → AreElements offset octets es fault → Each Fits es
elements_fit offset octets [] fault fits short are = tt
elements_fit offset octets (e ∷ es) fault fits short are =
    let split = rw are.1 at fits in
    let size = ap length are.1 ∙ length-append (element e.typ e.value) are.0 in
    let inner = length-append (head e.typ (length e.value)) e.value in (
      record {
        octets =
            IsOctets-after (head e.typ (length e.value)) e.value (IsOctets-before (element e.typ e.value) are.0 split);
        long = omega (arith, size, inner);
      },
      elements_fit e.end are.0 es fault (IsOctets-after (element e.typ e.value) are.0 split) (omega (arith, size))
          are.5,
    )

abbrev pub elements_of : Listing Field FieldError → List Item
elements_of read = map (λ (x : Field). x.1) read.items

module _ (P : Item → Type 0) where
  each_stranger : (fault : FieldError) (others : Listing Field FieldError) (b : Bool) → Each P (elements_of others)
      → Each P (elements_of (cond b (record { items = []; fault = Some fault }) others))
  each_stranger fault others true h = tt
  each_stranger fault others false h = h

  each_field : (others : List (Place RecordField) → Listing Field FieldError) (table : List (Place RecordField))
      (e : Item) (place : Option (RecordField × List (Place RecordField)))
      → P e
      → ((places : List (Place RecordField)) → Each P (elements_of (others places)))
      → Each P (elements_of (field_then others table e place))
  each_field others table e None fits h =
      each_stranger (critical e) (others table) (is_critical_type e.typ) (h table) where
        critical : Item → FieldError
        critical e = Critical e.typ e.start
  each_field others table e (Some place) fits h = (fits, h place.1)

  -- what is so of each element is so of each field
  pub each_of_fields : (table : List (Place RecordField)) (es : List Item) (fault : Option TlvFault) → Each P es
      → Each P (elements_of (fields_among table es fault))
  unfolding fields_among
  each_of_fields table [] None fits = tt
  each_of_fields table [] (Some f) fits = tt
  each_of_fields table (e ∷ es) fault fits =
      each_field (λ places. fields_among places es fault) table e (place_of e.typ table) fits.0
      (λ places. each_of_fields places es fault fits.1)

pub stated_within : (content : List ℕ) (says : RecordSays) → IsOctets content → length content < 2 ^ 64
    → record_of content ≡ Some says → IsStated says
stated_within content (WithdrawsNumber seq) fits short h =
    let s = withdrawal_stated content seq h in (s.some, s.few)
stated_within content (Lists l) fits short h =
    let s = listing_stated content l h in
    let read = elements 0 content in
    let each =
    each_of_fields Fits record_table read.items read.fault
    (elements_fit 0 content read.items read.fault fits short (elements_are 0 content fits)) in
    let Q : Listing Field FieldError → Type 0 = λ f. Each Fits (elements_of f) in
    let first = (subst Q s.fields each).0 in
    record {
      name = (name_of-encoded s.name.value_start s.name.value l.name first.octets first.long s.names).0;
      named = s.named;
      few = s.few;
      count = s.many;
      digests = s.are;
    }

-- a listing whose name, number of segments and digests were read
pub listing_read : (content : List ℕ) (name : List Component) (segments : ℕ) (digests : List (List ℕ))
    (read : Option (List (List ℕ)))
    → IsOctets content → length content < 2 ^ 64
    → record_of content ≡ option_map (listed_record name segments) read → read ≡ Some digests
    → IsListing (record { name = name; segments = segments; digests = digests })
listing_read content name segments digests read fits short is found =
    stated_within content (listed_record name segments digests) fits short
    (is ∙ ap (option_map (listed_record name segments)) found)
