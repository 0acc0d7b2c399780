-- What a Data packet's signature signs stands in the packet, from the Name on.
use Rattle.std.proofs.Common.{◌≡◌, ℕ, zero, suc, ◌+◌, ◌-◌, ◌^◌, ◌<◌, ◌≤◌, Bool, false, cond, List, ◌++◌, length}
use Rattle.std.proofs.Common.{length-append, length-drop, take, drop, Option, Some, None, slice_get, slice_range}
use Rattle.std.proofs.Common.{drop_at, Result, Ok, Err, IfSome, refl, sym, ap, subst, ◌∙◌, arith}
use Rattle.std.proofs.Math.Seq.{take-append-add}
use Rattle.std.proofs.lemmas.List.{append-nil, nil_from_length}
use Rattle.std.proofs.lemmas.List.Folds.{drop_split}
use Rattle.ndn_tlv.specs.Spelling.{head, element}
use Rattle.ndn_tlv.specs.Listing.{◌>>=◌}
use Rattle.ndn_tlv.specs.Elements.{Item, IsOctets, placed, elements}
use Rattle.ndn_tlv.specs.OrderTable.{fields}
use Rattle.ndn_tlv.proofs.Numbers.{IsOctets-drop}
use Rattle.ndn_tlv.proofs.Listings.{elements_are, elements_within_octets}
use Rattle.ndn_tlv.proofs.Places.{fields_stand}
use Rattle.ndn_tlv.specs.declared.order_table.Place.{Place}
use Rattle.ndn_name.specs.declared.fault.PacketFault.{PacketFault}
use Rattle.ndn_name.specs.declared.fault.Field.TheVariants as field
use Rattle.ndn_name.specs.declared.fault.PacketFault.TheVariants.{BadField, Missing}
use Rattle.ndn_name.specs.declared.name_fault.NameFault.{NameFault}
use Rattle.ndn_name.specs.Names.{Component, encoding, name_of}
use Rattle.ndn_tlv.proofs.Steps.{bind_ok, ok_is}
use Rattle.ndn_name.proofs.Encodings.{IsOctets-before, IsOctets-after, name_of-encoded}
use Rattle.ndn_packet.specs.Contents.{ok_or, name_or, name_in}
use Rattle.ndn_packet.specs.SignatureInfo.{Info, info_in}
use Rattle.ndn_packet.proofs.Gathering.{none_before, Stands, elements_stand, keeps}
use Rattle.ndn_data.specs.declared.data_fields.DataField.{DataField}
use Rattle.ndn_data.specs.declared.data_fields.DataField.TheVariants.{Name, MetaInfo, Content, SignatureInfo}
use Rattle.ndn_data.specs.declared.data_fields.DataField.TheVariants.{SignatureValue}
use Rattle.ndn_data.specs.Signed.{Signs}
use Rattle.ndn_data.specs.MetaInfo.{Meta, meta_in}
use Rattle.ndn_data.specs.Data.{data_table, Data, DataSoFar, no_data_field, signed_before, with_data_field, data_fields}
use Rattle.ndn_data.specs.Data.{data_from, data_of, DataIsSpelled}
use Rattle.ndn_packet.specs.Outer.{outer_of}
use Rattle.ndn_packet.proofs.Outers.{outer_ok}

-- ---- the places of the table

abbrev place_number : DataField → ℕ
place_number Name = 0
place_number MetaInfo = 1
place_number Content = 2
place_number SignatureInfo = 3
place_number SignatureValue = 4

abbrev type_of : DataField → ℕ
type_of Name = 0x07
type_of MetaInfo = 0x14
type_of Content = 0x15
type_of SignatureInfo = 0x16
type_of SignatureValue = 0x17

record IsPlace (k : ℕ) (place : Place DataField) : Type 0 where
  number : k ≡ place_number place.field
  typ : place.typ ≡ type_of place.field
  once : place.repeats ≡ false

abbrev place_for : DataField → Place DataField
place_for f = record { typ = type_of f; field = f; repeats = false }

place_is : (f : DataField) (place : Place DataField) → Some (place_for f) ≡ Some place → IsPlace (place_number f) place
place_is f place e =
    let same : place_for f ≡ place = cc in
    subst (IsPlace (place_number f)) same (record { number = refl; typ = refl; once = refl })

place_at : (k : ℕ) (place : Place DataField) → slice_get data_table k ≡ Some place → IsPlace k place
place_at zero place e = place_is Name place e
place_at (suc zero) place e = place_is MetaInfo place e
place_at (suc (suc zero)) place e = place_is Content place e
place_at (suc (suc (suc zero))) place e = place_is SignatureInfo place e
place_at (suc (suc (suc (suc zero)))) place e = place_is SignatureValue place e
place_at (suc (suc (suc (suc (suc k))))) place e = absurd cc

-- ---- what the fields keep true

abbrev Named : Type 0
Named = ℕ × List Component

abbrev Signature : Type 0
Signature = List ℕ × List ℕ

-- the Name element stands in the packet before an offset
pub record NameStands (whole : List ℕ) (start low : ℕ) (name : Named) : Type 0 where
  pub after_start : start ≤ name.0
  pub after : List ℕ
  pub parts : drop name.0 whole ≡ element 0x07 (encoding name.1) ++ after
  pub ends : name.0 + length (element 0x07 (encoding name.1)) ≤ low

-- the octets begin with the Name element
pub record BeginsWith (signed : List ℕ) (name : Named) : Type 0 where
  pub more : List ℕ
  pub parts : signed ≡ element 0x07 (encoding name.1) ++ more

-- the SignatureValue stands right after what it signs
pub record SignatureStands (value : List ℕ) (name : Option Named) (g : Signature) : Type 0 where
  pub before : List ℕ
  pub after : List ℕ
  pub parts : value ≡ before ++ (g.1 ++ (element 0x17 g.0 ++ after))
  pub named : IfSome name (BeginsWith g.1)

pub record Keeps (whole : List ℕ) (start from low : ℕ) (s : DataSoFar) : Type 0 where
  pub above : start ≤ low
  pub name : IfSome s.name (NameStands whole start low)
  pub signature : IfSome s.signature (SignatureStands (drop start whole) s.name)
  pub last : IfSome s.signature (λ _. 5 ≤ from)

name_later : (whole : List ℕ) (start low more : ℕ) (name : Option Named) → low ≤ more
    → IfSome name (NameStands whole start low) → IfSome name (NameStands whole start more)
name_later whole start low more None h s = tt
name_later whole start low more (Some n) h s =
    record { after_start = s.after_start; after = s.after; parts = s.parts; ends = omega (arith, s.ends) }

later : (whole : List ℕ) (start from low more : ℕ) (s : DataSoFar) → low ≤ more
    → Keeps whole start from low s → Keeps whole start from more s
later whole start from low more s h j =
    record {
      above = omega (arith, j.above);
      name = name_later whole start low more s.name h j.name;
      signature = j.signature;
      last = j.last;
    }

abbrev done : DataSoFar → Result DataSoFar PacketFault
done s = Ok s

-- a name that was read is spelled in its element
pub name_or_ok : (bad : PacketFault) (r : Result (List Component) NameFault) (name : List Component)
    → name_or bad r ≡ Ok name → r ≡ Ok name
name_or_ok bad (Ok n) name e = let same : n ≡ name = cc in ap (λ (x : List Component). Ok x) same
name_or_ok bad (Err f) name e = absurd cc

-- ---- what a signature signs

signs : (whole : List ℕ) (start low : ℕ) (name : Option Named) (e : Item) → start ≤ e.start → low ≤ e.start
    → e.typ ≡ 0x17 → Stands whole e → IfSome name (NameStands whole start low)
    → SignatureStands (drop start whole) name (e.value, signed_before whole name e.start)
signs whole start low None e above le typ stands n =
    let tail : drop e.start whole ≡ element 0x17 e.value ++ stands.after =
    stands.parts ∙ ap (λ (t : ℕ). element t e.value ++ stands.after) typ in
    let before = slice_range whole start e.start in
    record {
      before = before;
      after = stands.after;
      parts = drop_split whole start e.start above ∙ ap (λ (r : List ℕ). before ++ r) tail;
      named = tt;
    }
signs whole start low (Some name) e above le typ stands n =
    let tail : drop e.start whole ≡ element 0x17 e.value ++ stands.after =
    stands.parts ∙ ap (λ (t : ℕ). element t e.value ++ stands.after) typ in
    let before = slice_range whole start name.0 in
    let signed = slice_range whole name.0 e.start in
    let first = element 0x07 (encoding name.1) in
    let left = e.start - name.0 - length first in
    let long : e.start - name.0 ≡ length first + left = omega (arith, n.ends) in
    record {
      before = before;
      after = stands.after;
      parts =
          drop_split whole start name.0 n.after_start
          ∙ ap (λ (r : List ℕ). before ++ r)
          (drop_split whole name.0 e.start (omega (arith, n.ends)) ∙ ap (λ (r : List ℕ). signed ++ r) tail);
      named = record {
        more = take left n.after;
        parts =
            ap (λ (r : List ℕ). take (e.start - name.0) r) n.parts
            ∙ ap (λ (k : ℕ). take k (first ++ n.after)) long
            ∙ take-append-add first n.after left;
      };
    }

-- ---- field by field

module _ (whole : List ℕ) (start : ℕ) (fits : IsOctets whole) (short : length whole < 2 ^ 64) where
  octets_of : (e : Item) → Stands whole e → IsOctets e.value
  octets_of e stands =
      let octets = subst IsOctets stands.parts (IsOctets-drop e.start whole fits) in
      IsOctets-after (head e.typ (length e.value)) e.value
      (IsOctets-before (element e.typ e.value) stands.after octets)

  length_of : (e : Item) → Stands whole e → length e.value < 2 ^ 64
  length_of e stands =
      omega (
        arith,
        ap length stands.parts,
        length-drop e.start whole,
        length-append (element e.typ e.value) stands.after,
        length-append (head e.typ (length e.value)) e.value,
      )

  with_name : (from low : ℕ) (s t : DataSoFar) (e : Item) → from ≤ 0 → e.typ ≡ 0x07 → Keeps whole start from low s
      → low ≤ e.start → e.start < e.value_start → e.value_start + length e.value ≡ e.end → Stands whole e
      → with_data_field whole s (Name, e) ≡ Ok t → Keeps whole start 1 e.end t
  with_name from low s t e le typ j above begins long stands h =
      let b =
      bind_ok (name_in (BadField field.Name e.start) e)
      (λ (name : List Component). done (record s { name = Some (e.start, name) })) t h in
      let name = b.0 in
      let read = name_or_ok (BadField field.Name e.start) (name_of e.value_start e.value) name b.1 in
      let spelled = (name_of-encoded e.value_start e.value name (octets_of e stands) (length_of e stands) read).1 in
      let first : element e.typ e.value ≡ element 0x07 (encoding name) =
      ap (λ (k : ℕ). element k e.value) typ ∙ ap (λ (v : List ℕ). element 0x07 v) spelled in
      let stands_here : NameStands whole start e.end (e.start, name) = record {
        after_start = omega (arith, j.above);
        after = stands.after;
        parts = stands.parts ∙ ap (λ (v : List ℕ). v ++ stands.after) first;
        ends = omega (arith, stands.ends, ap length first);
      } in
      subst (Keeps whole start 1 e.end) (ok_is (record s { name = Some (e.start, name) }) t b.2) (record {
        above = omega (arith, j.above);
        name = stands_here;
        signature =
            none_before s.signature 5 (SignatureStands (drop start whole) (Some (e.start, name))) from 0 j.last le
            (omega arith);
        last = none_before s.signature 5 (λ _. 5 ≤ 1) from 0 j.last le (omega arith);
      })

  -- a field that changes neither the name nor the signature
  passes : (from low k : ℕ) (s u t : DataSoFar) (e : Item) → from ≤ k → k < 4 → Keeps whole start from low s
      → low ≤ e.end → s.name ≡ u.name → s.signature ≡ u.signature → done u ≡ Ok t → Keeps whole start (suc k) e.end t
  passes from low k s u t e le below j above same_name same_signature h =
      let P : Option Named → Option Signature → Type 0 =
      λ name signature. IfSome name (NameStands whole start e.end)
      × IfSome signature (SignatureStands (drop start whole) name)
      × IfSome signature (λ _. 5 ≤ suc k) in
      let here : P s.name s.signature = (
        name_later whole start low e.end s.name above j.name,
        j.signature,
        none_before s.signature 5 (λ _. 5 ≤ suc k) from k j.last le (omega arith),
      ) in
      let Q : Option Named → Type 0 = λ name. P name s.signature in
      let named = subst Q same_name here in
      let R : Option Signature → Type 0 = λ signature. P u.name signature in
      let all = subst R same_signature named in
      subst (Keeps whole start (suc k) e.end) (ok_is u t h)
      (record { above = omega (arith, j.above); name = all.0; signature = all.1; last = all.2 })

  with_signature : (from low : ℕ) (s t : DataSoFar) (e : Item) → e.typ ≡ 0x17 → Keeps whole start from low s
      → low ≤ e.start → low ≤ e.end → Stands whole e
      → with_data_field whole s (SignatureValue, e) ≡ Ok t → Keeps whole start 5 e.end t
  with_signature from low s t e typ j above end stands h =
      subst (Keeps whole start 5 e.end)
      (ok_is (record s { signature = Some (e.value, signed_before whole s.name e.start) }) t h) (record {
        above = omega (arith, j.above);
        name = name_later whole start low e.end s.name end j.name;
        signature = signs whole start low s.name e (omega (arith, j.above)) above typ stands j.name;
        last = omega arith;
      })

  with_field : (f : DataField) (from low : ℕ) (s t : DataSoFar) (e : Item) → from ≤ place_number f → e.typ ≡ type_of f
      → Keeps whole start from low s
      → low ≤ e.start → e.start < e.value_start → e.value_start + length e.value ≡ e.end → Stands whole e
      → with_data_field whole s (f, e) ≡ Ok t → Keeps whole start (suc (place_number f)) e.end t
  with_field Name from low s t e le typ j above begins long stands h =
      with_name from low s t e le typ j above begins long stands h
  with_field MetaInfo from low s t e le typ j above begins long stands h =
      let b = bind_ok (meta_in e) (λ (m : Meta). done (record s { meta = m })) t h in
      passes from low 1 s (record s { meta = b.0 }) t e le (omega arith) j (omega arith) refl refl b.2
  with_field Content from low s t e le typ j above begins long stands h =
      passes from low 2 s (record s { content = e.value }) t e le (omega arith) j (omega arith) refl refl h
  with_field SignatureInfo from low s t e le typ j above begins long stands h =
      let b = bind_ok (info_in e) (λ (i : Info). done (record s { info = Some i })) t h in
      passes from low 3 s (record s { info = Some b.0 }) t e le (omega arith) j (omega arith) refl refl b.2
  with_field SignatureValue from low s t e le typ j above begins long stands h =
      with_signature from low s t e typ j above (omega arith) stands h

  at_place : (from low k : ℕ) (place : Place DataField) (s t : DataSoFar) (e : Item) → from ≤ k
      → slice_get data_table k ≡ Some place → place.typ ≡ e.typ → Keeps whole start from low s
      → low ≤ e.start → e.start < e.value_start → e.value_start + length e.value ≡ e.end → Stands whole e
      → with_data_field whole s (place.field, e) ≡ Ok t → Keeps whole start (cond place.repeats k (suc k)) e.end t
  at_place from low k place s t e le at same j above begins long stands h =
      let is = place_at k place at in
      let kept =
      with_field place.field from low s t e (omega (arith, is.number)) (sym same ∙ is.typ) j above begins long stands
      h in
      let P : ℕ → Type 0 = λ (n : ℕ). Keeps whole start n e.end t in
      let Q : Bool → Type 0 = λ (b : Bool). Keeps whole start (cond b k (suc k)) e.end t in
      subst Q (sym is.once) (subst P (ap suc (sym is.number)) kept)

-- what the fields of a whole packet come to
pub record Gathers (value : List ℕ) (s : DataSoFar) : Type 0 where
  pub signature : IfSome s.signature (SignatureStands value s.name)

pub data_gathers : (octets : List ℕ) (e : Item) (s : DataSoFar) → IsOctets octets → length octets < 2 ^ 64
    → octets ≡ element 0x06 e.value → e ≡ placed 0 0x06 e.value → data_fields octets e ≡ Ok s → Gathers e.value s
data_gathers octets e s fits short whole at h =
    let start : e.value_start ≡ length (head 0x06 (length e.value)) =
    omega (arith, ap (λ (x : Item). x.value_start) at) in
    let value : drop e.value_start octets ≡ e.value =
    ap (λ (n : ℕ). drop n octets) start
    ∙ ap (drop (length (head 0x06 (length e.value)))) whole
    ∙ drop_at (head 0x06 (length e.value)) e.value (length (head 0x06 (length e.value))) refl in
    let octet = IsOctets-after (head 0x06 (length e.value)) e.value (subst IsOctets whole fits) in
    let read = elements e.value_start e.value in
    let are = elements_are e.value_start e.value octet in
    let stand = elements_stand octets e.value_start e.value read.items read.fault value are in
    let first : Keeps octets e.value_start 0 e.value_start no_data_field =
    record { above = omega arith; name = tt; signature = tt; last = tt } in
    let kept =
    keeps data_table (with_data_field octets) (e.value_start + length e.value) (Stands octets)
    (Keeps octets e.value_start) (at_place octets e.value_start fits short)
    (λ from low more t le j. later octets e.value_start from low more t le j)
    0 read.items read.fault (fields data_table read) (fields_stand data_table read.fault read.items 0 data_table refl)
    e.value_start no_data_field s first (elements_within_octets e.value_start e.value) stand h in
    let P : List ℕ → Type 0 = λ v. IfSome s.signature (SignatureStands v s.name) in
    record { signature = subst P value kept.holds.signature }

-- ---- the whole packet

pub some_is : {A : Type 0} (fault : PacketFault) (o : Option A) (x : A) → ok_or o fault ≡ Ok x → o ≡ Some x
some_is fault (Some y) x e = cc
some_is fault None x e = absurd cc

pub data_spelled : (octets : List ℕ) (d : Data) → IsOctets octets → data_of octets ≡ Ok d → DataIsSpelled octets d
data_spelled octets d fits h =
    let b = bind_ok (outer_of 0x06 octets) (λ (e : Item). data_fields octets e >>= data_from e.value) d h in
    let e = b.0 in
    let outer = outer_ok 0x06 octets e fits b.1 in
    let f = bind_ok (data_fields octets e) (data_from e.value) d b.2 in
    let s = f.0 in
    let gathers = data_gathers octets e s fits (omega (arith, outer.short)) outer.whole outer.is_placed f.1 in
    spelled octets e.value s d outer.whole gathers f.2 where
      made : List ℕ → DataSoFar → Named → Info → Signature → Data
      made value s name info signature =
          record {
            name = name.1;
            content = s.content;
            content_type = s.meta.content_type;
            last = s.meta.last;
            signature_type = info.signature_type;
            locator = info.locator;
            signature = signature.0;
            signed = signature.1;
            value = value;
          }

      finish : Data → Result Data PacketFault
      finish d = Ok d

      same : (c d : Data) → finish c ≡ finish d → c ≡ d
      same c d e = cc

      spelled : (octets value : List ℕ) (s : DataSoFar) (d : Data) → octets ≡ element 0x06 value → Gathers value s
          → data_from value s ≡ Ok d → DataIsSpelled octets d
      spelled octets value s d whole gathers h =
          let last =
          λ (name : Named) (info : Info) (signature : Signature). finish (made value s name info signature) in
          let second =
          λ (name : Named) (info : Info). ok_or s.signature (Missing field.SignatureValue) >>= last name info in
          let first = λ (name : Named). ok_or s.info (Missing field.SignatureInfo) >>= second name in
          let n = bind_ok (ok_or s.name (Missing field.Name)) first d h in
          let i = bind_ok (ok_or s.info (Missing field.SignatureInfo)) (second n.0) d n.2 in
          let g = bind_ok (ok_or s.signature (Missing field.SignatureValue)) (last n.0 i.0) d i.2 in
          let Q : Option Signature → Type 0 = λ o. IfSome o (SignatureStands value s.name) in
          let R : Option Named → Type 0 = λ o. SignatureStands value o g.0 in
          let signed = subst Q (some_is (Missing field.SignatureValue) s.signature g.0 g.1) gathers.signature in
          let stands = subst R (some_is (Missing field.Name) s.name n.0 n.1) signed in
          subst (DataIsSpelled octets) (same (made value s n.0 i.0 g.0) d g.2) (record {
            before = stands.before;
            fields = stands.named.more;
            after = stands.after;
            packet = whole;
            value = stands.parts;
            signed = stands.named.parts;
          })

-- ---- what the view keeps

pub signs_of : (value : List ℕ) (name : Option Named) (g : Signature) → length value ≤ 8800
    → SignatureStands value name g → Signs value g.1 g.0
signs_of value name g small stands =
    let last = element 0x17 g.0 in
    let long = ap length stands.parts ∙ length-append stands.before (g.1 ++ (last ++ stands.after)) in
    let inner = length-append g.1 (last ++ stands.after) in
    let inmost = length-append last stands.after in
    record {
      short = omega (arith, long, inner, inmost, length-append (head 0x17 (length g.0)) g.0);
      whole = λ same.
          let before = nil_from_length stands.before (omega (arith, long, inner, inmost)) in
          let after = nil_from_length stands.after (omega (arith, long, inner, inmost)) in
          stands.parts
          ∙ ap (λ (b : List ℕ). b ++ (g.1 ++ (last ++ stands.after))) before
          ∙ ap (λ (b : List ℕ). g.1 ++ (last ++ b)) after
          ∙ ap (λ (b : List ℕ). g.1 ++ b) (append-nil last);
    }
