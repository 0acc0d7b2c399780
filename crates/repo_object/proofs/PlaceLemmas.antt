-- Where the name and the content of a Data packet lie in its octets.
use Rattle.std.proofs.Common.{◌≡◌, ℕ, ◌+◌, ◌-◌, ◌<◌, ◌≤◌, eqb, List, [], ◌∷◌, ◌++◌, length, length-append, length-drop}
use Rattle.std.proofs.Common.{take, drop, take_at, drop_at, append_assoc, slice_range, Option, Some, None, Result, Ok}
use Rattle.std.proofs.Common.{Err, IsOk, inl, inr, refl, sym, ap, subst, ◌∙◌, arith}
use Rattle.std.proofs.lemmas.List.{drop-drop}
use Rattle.ndn_tlv.specs.Spelling.{head}
use Rattle.ndn_tlv.specs.Listing.{◌>>=◌}
use Rattle.ndn_tlv.specs.Elements.{Item, IsOctets, AreWithin, elements}
use Rattle.ndn_tlv.specs.OrderTable.{fields}
use Rattle.ndn_tlv.proofs.Steps.{chosen, bind_ok, ok_is}
use Rattle.ndn_tlv.proofs.Numbers.{IsOctets-drop}
use Rattle.ndn_tlv.proofs.Listings.{elements_are, elements_within_octets}
use Rattle.ndn_tlv.proofs.Places.{fields_stand}
use Rattle.ndn_name.specs.declared.fault.Field.TheVariants as field_names
use Rattle.ndn_name.specs.declared.fault.PacketFault.TheVariants.{Missing}
use Rattle.ndn_name.specs.Names.{Component, IsName, encoding}
use Rattle.ndn_name.proofs.Encodings.{IsOctets-before, IsOctets-after, name_of-encoded}
use Rattle.ndn_packet.specs.Contents.{ok_or}
use Rattle.ndn_packet.specs.Outer.{outer_of}
use Rattle.ndn_packet.proofs.Gathering.{Each, Stands, elements_stand}
use Rattle.ndn_packet.proofs.Outers.{outer_ok}
use Rattle.ndn_data.specs.Data.{data_table, Data, DataSoFar, no_data_field, data_fields, data_from, data_of}
use Rattle.ndn_data.proofs.SignedLemmas.{some_is}
use Rattle.repo_object.specs.Packets.{IsPacket, packet_name, packet_content}
use Rattle.repo_object.specs.Bodies.{first_of_type, value_of, value_in, first_value}
use Rattle.repo_object.proofs.ReadNames.{name_of-read, content_of-read}
use Rattle.repo_object.proofs.FieldLemmas.{content_from, name_comes, content_comes}

-- ---- where it stands

-- an element stands whole where its offsets say
record StandsWhole (whole : List ℕ) (e : Item) : Type 0 where
  stands : Stands whole e
  begins : e.start < e.value_start
  long : e.value_start + length e.value ≡ e.end

found_stands : (whole : List ℕ) (typ low high : ℕ) (es : List Item) (found : Item) → Each (Stands whole) es
    → AreWithin low high es → first_of_type typ es ≡ Some found → StandsWhole whole found
found_stands whole typ low high [] found each w h = absurd cc
found_stands whole typ low high (e ∷ es) found each w h =
    elim (chosen (eqb e.typ typ) (Some e) (first_of_type typ es) (Some found) h) [
      | inl a ↦
          let same : e ≡ found = let both = a.1 in cc in
          subst (StandsWhole whole) same (record { stands = each.0; begins = w.1; long = w.2 })
      | inr a ↦ found_stands whole typ e.end high es found each.1 w.3 a.1
    ]

-- the value of an element lies between its offsets
pub record Lies (octets : List ℕ) (e : Item) : Type 0 where
  pub ordered : e.value_start ≤ e.end
  pub within : e.end ≤ length octets
  pub there : slice_range octets e.value_start e.end ≡ e.value
  pub own : IsOctets e.value
  pub short : length e.value ≤ length octets

lies : (octets : List ℕ) (e : Item) → IsOctets octets → StandsWhole octets e → Lies octets e
lies octets e fits there =
    let prefix = head e.typ (length e.value) in
    let after = there.stands.after in
    let parts : drop e.start octets ≡ prefix ++ (e.value ++ after) =
    there.stands.parts ∙ append_assoc prefix e.value after in
    let size = length-append prefix e.value in
    let starts : e.value_start ≡ e.start + length prefix = omega (arith, there.stands.ends, there.long, size) in
    let all = ap length parts ∙ length-append prefix (e.value ++ after) in
    let rest = length-drop e.start octets in
    let both = length-append e.value after in
    let value : drop e.value_start octets ≡ e.value ++ after =
    ap (λ (n : ℕ). drop n octets) starts
    ∙ sym (drop-drop (length prefix) e.start octets)
    ∙ ap (drop (length prefix)) parts
    ∙ drop_at prefix (e.value ++ after) (length prefix) refl in
    let long : e.end - e.value_start ≡ length e.value = omega (arith, there.long) in
    record {
      ordered = omega (arith, there.long);
      within = omega (arith, all, rest, both, there.begins, there.long, starts);
      there =
          ap (take (e.end - e.value_start)) value
          ∙ ap (λ (n : ℕ). take n (e.value ++ after)) long
          ∙ take_at e.value after (length e.value) refl;
      own =
          IsOctets-before e.value after
          (IsOctets-after prefix (e.value ++ after) (subst IsOctets parts (IsOctets-drop e.start octets fits)));
      short = omega (arith, all, rest, both);
    }

-- the first field of a type lies in the packet
pub first_lies : (octets : List ℕ) (e : Item) → IsOctets octets → outer_of 0x06 octets ≡ Ok e → (typ : ℕ) (found : Item)
    → first_of_type typ (elements e.value_start e.value).items ≡ Some found → Lies octets found
first_lies octets e fits outer typ found first =
    let o = outer_ok 0x06 octets e fits outer in
    let prefix = head 0x06 (length e.value) in
    let start : e.value_start ≡ length prefix = omega (arith, ap (λ (x : Item). x.value_start) o.is_placed) in
    let value : drop e.value_start octets ≡ e.value =
    ap (λ (n : ℕ). drop n octets) start
    ∙ ap (drop (length prefix)) o.whole
    ∙ drop_at prefix e.value (length prefix) refl in
    let read = elements e.value_start e.value in
    let are =
    elements_are e.value_start e.value (IsOctets-after prefix e.value (subst IsOctets o.whole fits)) in
    lies octets found fits
    (found_stands octets typ e.value_start (e.value_start + length e.value) read.items found
    (elements_stand octets e.value_start e.value read.items read.fault value are)
    (elements_within_octets e.value_start e.value) first)

pub first_value_is : (typ : ℕ) (octets : List ℕ) (e : Item) → outer_of 0x06 octets ≡ Ok e
    → first_value typ octets ≡ value_of (first_of_type typ (elements e.value_start e.value).items)
unfolding first_value
first_value_is typ octets e outer = ap (value_in typ) outer

-- ---- the whole packet

-- a packet has a name among its fields
record HasName (s : DataSoFar) (d : Data) : Type 0 where
  start : ℕ
  name : s.name ≡ Some (start, d.name)

has_name : (value : List ℕ) (s : DataSoFar) (d : Data) → data_from value s ≡ Ok d → HasName s d
has_name value s d h =
    let n = bind_ok (ok_or s.name (Missing field_names.Name)) _ d h in
    let i = bind_ok (ok_or s.info (Missing field_names.SignatureInfo)) _ d n.2 in
    let g = bind_ok (ok_or s.signature (Missing field_names.SignatureValue)) _ d i.2 in
    let made : n.0.1 ≡ d.name = ap (λ (x : Data). x.name) (ok_is _ d g.2) in
    record {
      start = n.0.0;
      name =
          some_is (Missing field_names.Name) s.name n.0 n.1
          ∙ ap (λ (x : List Component). Some (n.0.0, x)) made;
    }

has_content : (value : List ℕ) (s : DataSoFar) (d : Data) → data_from value s ≡ Ok d → s.content ≡ d.content
has_content value s d h =
    let n = bind_ok (ok_or s.name (Missing field_names.Name)) _ d h in
    let i = bind_ok (ok_or s.info (Missing field_names.SignatureInfo)) _ d n.2 in
    let g = bind_ok (ok_or s.signature (Missing field_names.SignatureValue)) _ d i.2 in
    ap (λ (x : Data). x.content) (ok_is _ d g.2)

-- what a packet's fields come to
record IsRead (octets : List ℕ) (d : Data) : Type 0 where
  outer : Item
  is_outer : outer_of 0x06 octets ≡ Ok outer
  fields : DataSoFar
  are_fields : data_fields octets outer ≡ Ok fields
  name : HasName fields d
  content : fields.content ≡ d.content

is_read : (octets : List ℕ) (d : Data) → data_of octets ≡ Ok d → IsRead octets d
is_read octets d h =
    let o = bind_ok (outer_of 0x06 octets) (λ e. data_fields octets e >>= data_from e.value) d h in
    let f = bind_ok (data_fields octets o.0) (data_from o.0.value) d o.2 in
    record {
      outer = o.0;
      is_outer = o.1;
      fields = f.0;
      are_fields = f.1;
      name = has_name o.0.value f.0 d f.2;
      content = has_content o.0.value f.0 d f.2;
    }

-- the name is the first field of its type
pub first_name : (octets : List ℕ) (d : Data) → IsOctets octets → data_of octets ≡ Ok d
    → IsName d.name × (first_value 0x07 octets ≡ encoding d.name)
first_name octets d fits h =
    let r = is_read octets d h in
    let e = r.outer in
    let read = elements e.value_start e.value in
    let comes =
    name_comes octets read.items read.fault (fields data_table read)
    (fields_stand data_table read.fault read.items 0 data_table refl) no_data_field r.fields (r.name.start, d.name) refl
    r.name.name r.are_fields in
    let there = first_lies octets e fits r.is_outer 0x07 comes.element comes.first in
    let short = (outer_ok 0x06 octets e fits r.is_outer).short in
    let encoded =
    name_of-encoded comes.element.value_start comes.element.value d.name there.own
    (omega (arith, short, there.short)) comes.read in
    (encoded.0, first_value_is 0x07 octets e r.is_outer ∙ ap value_of comes.first ∙ encoded.1)

from_nothing : (r : Option Item) → content_from [] r ≡ value_of r
from_nothing None = refl
from_nothing (Some e) = refl

-- the content is the first field of its type, or nothing
pub first_content : (octets : List ℕ) (d : Data) → data_of octets ≡ Ok d → first_value 0x15 octets ≡ d.content
first_content octets d h =
    let r = is_read octets d h in
    let e = r.outer in
    let read = elements e.value_start e.value in
    let comes =
    content_comes octets 0 read.items read.fault (fields data_table read)
    (fields_stand data_table read.fault read.items 0 data_table refl) no_data_field r.fields r.are_fields in
    first_value_is 0x15 octets e r.is_outer
    ∙ sym (from_nothing (first_of_type 0x15 read.items))
    ∙ sym comes.0
    ∙ r.content

-- ---- what a packet is made with

ok_value : {A E : Type 0} (r : Result A E) → IsOk r → (x : A) × (r ≡ Ok x)
ok_value (Ok x) h = (x, refl)
ok_value (Err f) h = absurd cc

pub is_packet : (octets : List ℕ) → IsOctets octets → IsOk (data_of octets) → IsPacket octets
is_packet octets fits is_data =
    let d = ok_value (data_of octets) is_data in
    record { packet = d.0; read = d.1; name = (first_name octets d.0 fits d.1).0 }

pub first_is_name : (octets : List ℕ) → IsOctets octets → IsOk (data_of octets)
    → first_value 0x07 octets ≡ packet_name octets
first_is_name octets fits is_data =
    let d = ok_value (data_of octets) is_data in
    (first_name octets d.0 fits d.1).1 ∙ sym (name_of-read octets d.0 d.1)

pub first_is_content : (octets : List ℕ) → IsOk (data_of octets) → first_value 0x15 octets ≡ packet_content octets
first_is_content octets is_data =
    let d = ok_value (data_of octets) is_data in
    first_content octets d.0 d.1 ∙ sym (content_of-read octets d.0 d.1)
