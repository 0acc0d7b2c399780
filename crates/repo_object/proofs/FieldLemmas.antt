-- The name and the content of a Data packet are its first elements of their types.
use Rattle.std.proofs.Common.{◌≡◌, ◌⊎◌, ℕ, zero, suc, ◌<◌, Bool, true, false, cond, eqb, List, ◌∷◌, Option}
use Rattle.std.proofs.Common.{Some, None, slice_get, Result, Ok, inl, inr, refl, sym, ap, subst, ◌∙◌, arith}
use Rattle.std.proofs.lemmas.Bool.{eqb-true, false_from_ne_true}
use Rattle.ndn_tlv.specs.Listing.{Listing, ◌>>=◌, gather, gathered}
use Rattle.ndn_tlv.specs.Elements.{Item}
use Rattle.ndn_tlv.specs.OrderTable.{AreFields, is_critical_type}
use Rattle.ndn_tlv.specs.OrderTable.AreFields.{ended, broken, field, stranger, critical}
use Rattle.ndn_tlv.specs.declared.tlv_fault.TlvFault.{TlvFault}
use Rattle.ndn_tlv.specs.declared.order_table.Place.{Place}
use Rattle.ndn_tlv.specs.declared.order_table.FieldError.{FieldError}
use Rattle.ndn_tlv.proofs.Steps.{bind_ok, ok_is}
use Rattle.ndn_name.specs.declared.fault.Field.TheVariants as field_names
use Rattle.ndn_name.specs.declared.fault.PacketFault.{PacketFault}
use Rattle.ndn_name.specs.declared.fault.PacketFault.TheVariants.{BadField}
use Rattle.ndn_name.specs.Faults.{packet_fault}
use Rattle.ndn_name.specs.Names.{Component, name_of}
use Rattle.ndn_packet.specs.Contents.{name_in}
use Rattle.ndn_packet.specs.SignatureInfo.{Info, info_in}
use Rattle.ndn_data.specs.MetaInfo.{Meta, meta_in}
use Rattle.ndn_data.specs.Data.{data_table, DataSoFar, signed_before, with_data_field}
use Rattle.ndn_data.proofs.SignedLemmas.{name_or_ok}
use Rattle.repo_object.specs.Bodies.{first_of_type}

-- ---- the places of the table

-- what the places of a table stand for
abbrev field_of : {F : Type 0} → List (Place F) → Type 0
field_of {F} table = F

abbrev DataField : Type 0
DataField = field_of data_table

same_place : (there place : Place DataField) → Some there ≡ Some place → there ≡ place
same_place there place get = cc

after_first : (repeats : Bool) (k : ℕ) → 0 < k → 0 < cond repeats k (suc k)
after_first true k after = after
after_first false k after = omega arith

-- ---- what the fields come to

abbrev Named : Type 0
Named = ℕ × List Component

-- the first element of a name's type is read as this name
pub record IsFirstName (items : List Item) (name : List Component) : Type 0 where
  pub element : Item
  pub first : first_of_type 0x07 items ≡ Some element
  pub read : name_of element.value_start element.value ≡ Ok name

-- what an element's value leaves of a content
abbrev pub content_from : List ℕ → Option Item → List ℕ
content_from content None = content
content_from content (Some e) = e.value

later_still : (repeats : Bool) (k : ℕ) → 2 < k → 2 < cond repeats k (suc k)
later_still true k later = later
later_still false k later = omega arith

-- an element of a content's type isn't passed over
understood : true ≡ false → ⊥
understood h = cc

abbrev done : DataSoFar → Result DataSoFar PacketFault
done s = Ok s

module _ (whole : List ℕ) where
  -- what is taken at a place that the table has
  taken_at : (place there : Place DataField) (e : Item) (s t : DataSoFar) → Some there ≡ Some place
      → with_data_field whole s (place.field, e) ≡ Ok t → with_data_field whole s (there.field, e) ≡ Ok t
  taken_at place there e s t get h =
      let same : place ≡ there = cc in
      subst (λ (p : Place DataField). with_data_field whole s (p.field, e) ≡ Ok t) same h

  -- a field at another place than the first leaves the name as it is
  keeps_name : (k : ℕ) (place : Place DataField) (e : Item) (s t : DataSoFar) → 0 < k
      → slice_get data_table k ≡ Some place → with_data_field whole s (place.field, e) ≡ Ok t → t.name ≡ s.name
  keeps_name zero place e s t after get h = absurd (omega arith)
  keeps_name (suc zero) place e s t after get h =
      let taken = taken_at place _ e s t get h in
      let b = bind_ok (meta_in e) (λ (m : Meta). done (record s { meta = m })) t taken in
      ap (λ (x : DataSoFar). x.name) (sym (ok_is (record s { meta = b.0 }) t b.2))
  keeps_name (suc (suc zero)) place e s t after get h =
      let taken = taken_at place _ e s t get h in
      ap (λ (x : DataSoFar). x.name) (sym (ok_is (record s { content = e.value }) t taken))
  keeps_name (suc (suc (suc zero))) place e s t after get h =
      let taken = taken_at place _ e s t get h in
      let b = bind_ok (info_in e) (λ (i : Info). done (record s { info = Some i })) t taken in
      ap (λ (x : DataSoFar). x.name) (sym (ok_is (record s { info = Some b.0 }) t b.2))
  keeps_name (suc (suc (suc (suc zero)))) place e s t after get h =
      let taken = taken_at place _ e s t get h in
      let signed = signed_before whole s.name e.start in
      ap (λ (x : DataSoFar). x.name) (sym (ok_is (record s { signature = Some (e.value, signed) }) t taken))
  keeps_name (suc (suc (suc (suc (suc k))))) place e s t after get h = absurd cc

  -- after the first place no name comes
  name_stays : (from : ℕ) (es : List Item) (fault : Option TlvFault) (read : Listing (DataField × Item) FieldError)
      → AreFields data_table from es fault read → 0 < from → (s t : DataSoFar)
      → gathered (with_data_field whole) packet_fault s read ≡ Ok t → t.name ≡ s.name
  unfolding gather
  name_stays from es fault read ended after s t e = ap (λ (x : DataSoFar). x.name) (sym (ok_is s t e))
  name_stays from es fault read broken after s t e = absurd cc
  name_stays from es fault read (field {read = others} k place above get same free rest) after s t e =
      let b =
      bind_ok (with_data_field whole s (place.field, _))
      (λ u. gathered (with_data_field whole) packet_fault u others) t e in
      let later : 0 < k = omega arith in
      name_stays (cond place.repeats k (suc k)) _ fault _ rest (after_first place.repeats k later) b.0 t b.2
      ∙ keeps_name k place _ s b.0 later get b.1
  name_stays from es fault read (stranger none not_critical rest) after s t e =
      name_stays from _ fault read rest after s t e
  name_stays from es fault read (critical none is_critical) after s t e = absurd cc

  -- what is taken of a name's element
  record NameRead (e : Item) (s t : DataSoFar) : Type 0 where
    name : List Component
    read : name_of e.value_start e.value ≡ Ok name
    kept : t.name ≡ Some (e.start, name)
    content : t.content ≡ s.content

  name_read : (e : Item) (s t : DataSoFar)
      → name_in (BadField field_names.Name e.start) e
      >>= (λ name. done (record s { name = Some (e.start, name) })) ≡ Ok t → NameRead e s t
  name_read e s t h =
      let bad = BadField field_names.Name e.start in
      let b =
      bind_ok (name_in bad e) (λ (name : List Component). done (record s { name = Some (e.start, name) })) t h in
      let made : DataSoFar = record s { name = Some (e.start, b.0) } in
      record {
        name = b.0;
        read = name_or_ok bad (name_of e.value_start e.value) b.0 b.1;
        kept = ap (λ (x : DataSoFar). x.name) (sym (ok_is made t b.2));
        content = ap (λ (x : DataSoFar). x.content) (sym (ok_is made t b.2));
      }

  -- a field at the first place is the name, and at another place it comes too late
  name_or_late : (k : ℕ) (place : Place DataField) (e : Item) (es : List Item) (fault : Option TlvFault)
      (read : Listing (DataField × Item) FieldError) (s u t : DataSoFar) (n : Named)
      → slice_get data_table k ≡ Some place → place.typ ≡ e.typ
      → AreFields data_table (cond place.repeats k (suc k)) es fault read
      → s.name ≡ None → t.name ≡ Some n → with_data_field whole s (place.field, e) ≡ Ok u
      → gathered (with_data_field whole) packet_fault u read ≡ Ok t → IsFirstName (e ∷ es) n.1
  name_or_late zero place e es fault read s u t n get same rest none some taken e_rest =
      let is = same_place _ place get in
      let typ : 0x07 ≡ e.typ = ap (λ (p : Place DataField). p.typ) is ∙ same in
      let r = name_read e s u (taken_at place _ e s u get taken) in
      let later : 0 < cond place.repeats 0 1 =
      subst (λ (p : Place DataField). 0 < cond p.repeats 0 1) is (omega arith) in
      let named = name_stays (cond place.repeats 0 1) es fault read rest later u t e_rest ∙ r.kept in
      let all : Some (e.start, r.name) ≡ Some n = sym named ∙ some in
      let pair : (e.start, r.name) ≡ n = cc in
      record {
        element = e;
        first = ap (λ (x : ℕ). cond (eqb x 0x07) (Some e) (first_of_type 0x07 es)) (sym typ);
        read = r.read ∙ ap (λ (x : Named). Ok x.1) pair;
      }
  name_or_late (suc k) place e es fault read s u t n get same rest none some taken e_rest =
      let after : 0 < suc k = omega arith in
      let later = after_first place.repeats (suc k) after in
      let named =
      name_stays (cond place.repeats (suc k) (suc (suc k))) es fault read rest later u t e_rest
      ∙ keeps_name (suc k) place e s u after get taken
      ∙ none in
      absurd cc

  -- where the name comes, it is the first element of its type
  pub name_comes : (es : List Item) (fault : Option TlvFault) (read : Listing (DataField × Item) FieldError)
      → AreFields data_table 0 es fault read → (s t : DataSoFar) (n : Named) → s.name ≡ None → t.name ≡ Some n
      → gathered (with_data_field whole) packet_fault s read ≡ Ok t → IsFirstName es n.1
  unfolding gather
  name_comes es fault read ended s t n none some h =
      let same : s.name ≡ t.name = ap (λ (x : DataSoFar). x.name) (ok_is s t h) in
      absurd cc
  name_comes es fault read broken s t n none some h = absurd cc
  name_comes (e ∷ es) fault read (field {read = others} k place above get same free rest) s t n none some h =
      let b =
      bind_ok (with_data_field whole s (place.field, e))
      (λ u. gathered (with_data_field whole) packet_fault u others) t h in
      name_or_late k place e es fault others s b.0 t n get same rest none some b.1 b.2
  name_comes (e ∷ es) fault read (stranger none_there not_critical rest) s t n none some h =
      let f = name_comes es fault read rest s t n none some h in
      let other : eqb e.typ 0x07 ≡ false =
      false_from_ne_true _ (λ is. none_there 0 _ (omega arith) refl (sym (eqb-true e.typ 0x07 is))) in
      record {
        element = f.element;
        first = ap (λ (b : Bool). cond b (Some e) (first_of_type 0x07 es)) other ∙ f.first;
        read = f.read;
      }
  name_comes es fault read (critical none_there is_critical) s t n none some h = absurd cc

  -- a field leaves the content as it is, or its type is the content's, and then it is the content
  content_step : (k : ℕ) (place : Place DataField) (e : Item) (s t : DataSoFar)
      → slice_get data_table k ≡ Some place → place.typ ≡ e.typ → with_data_field whole s (place.field, e) ≡ Ok t
      → ((k ≡ 2) × (2 < cond place.repeats k (suc k)) × (eqb e.typ 0x15 ≡ true) × (t.content ≡ e.value))
      ⊎ ((eqb e.typ 0x15 ≡ false) × (t.content ≡ s.content))
  content_step zero place e s t get same h =
      let typ : 0x07 ≡ e.typ = ap (λ (p : Place DataField). p.typ) (same_place _ place get) ∙ same in
      let r = name_read e s t (taken_at place _ e s t get h) in
      inr (ap (λ (n : ℕ). eqb n 0x15) (sym typ), r.content)
  content_step (suc zero) place e s t get same h =
      let typ : 0x14 ≡ e.typ = ap (λ (p : Place DataField). p.typ) (same_place _ place get) ∙ same in
      let taken = taken_at place _ e s t get h in
      let b = bind_ok (meta_in e) (λ (m : Meta). done (record s { meta = m })) t taken in
      inr (
        ap (λ (n : ℕ). eqb n 0x15) (sym typ),
        ap (λ (x : DataSoFar). x.content) (sym (ok_is (record s { meta = b.0 }) t b.2)),
      )
  content_step (suc (suc zero)) place e s t get same h =
      let is = same_place _ place get in
      let typ : 0x15 ≡ e.typ = ap (λ (p : Place DataField). p.typ) is ∙ same in
      let taken = taken_at place _ e s t get h in
      inl (
        refl,
        subst (λ (p : Place DataField). 2 < cond p.repeats 2 3) is (omega arith),
        ap (λ (n : ℕ). eqb n 0x15) (sym typ),
        ap (λ (x : DataSoFar). x.content) (sym (ok_is (record s { content = e.value }) t taken)),
      )
  content_step (suc (suc (suc zero))) place e s t get same h =
      let typ : 0x16 ≡ e.typ = ap (λ (p : Place DataField). p.typ) (same_place _ place get) ∙ same in
      let taken = taken_at place _ e s t get h in
      let b = bind_ok (info_in e) (λ (i : Info). done (record s { info = Some i })) t taken in
      inr (
        ap (λ (n : ℕ). eqb n 0x15) (sym typ),
        ap (λ (x : DataSoFar). x.content) (sym (ok_is (record s { info = Some b.0 }) t b.2)),
      )
  content_step (suc (suc (suc (suc zero)))) place e s t get same h =
      let typ : 0x17 ≡ e.typ = ap (λ (p : Place DataField). p.typ) (same_place _ place get) ∙ same in
      let taken = taken_at place _ e s t get h in
      let signed = signed_before whole s.name e.start in
      inr (
        ap (λ (n : ℕ). eqb n 0x15) (sym typ),
        ap (λ (x : DataSoFar). x.content) (sym (ok_is (record s { signature = Some (e.value, signed) }) t taken)),
      )
  content_step (suc (suc (suc (suc (suc k))))) place e s t get same h = absurd cc

  -- where a content comes, it is the first element of its type, and it comes by the third place
  pub content_comes : (from : ℕ) (es : List Item) (fault : Option TlvFault)
      (read : Listing (DataField × Item) FieldError) → AreFields data_table from es fault read → (s t : DataSoFar)
      → gathered (with_data_field whole) packet_fault s read ≡ Ok t
      → (t.content ≡ content_from s.content (first_of_type 0x15 es)) × (2 < from → first_of_type 0x15 es ≡ None)
  unfolding gather
  content_comes from es fault read ended s t h =
      (ap (λ (x : DataSoFar). x.content) (sym (ok_is s t h)), λ late. refl)
  content_comes from es fault read broken s t h = absurd cc
  content_comes from (e ∷ es) fault read (field {read = others} k place above get same free rest) s t h =
      let b =
      bind_ok (with_data_field whole s (place.field, e))
      (λ u. gathered (with_data_field whole) packet_fault u others) t h in
      let later = content_comes (cond place.repeats k (suc k)) es fault others rest b.0 t b.2 in
      let first : Bool → Option Item = λ is. cond is (Some e) (first_of_type 0x15 es) in
      elim (content_step k place e s b.0 get same b.1) [
        | inl a ↦ (
          later.0
              ∙ ap (content_from b.0.content) (later.1 a.1)
              ∙ a.3
              ∙ ap (λ (is : Bool). content_from s.content (first is)) (sym a.2),
          λ late. absurd (omega (arith, late, above, a.0)),
        )
        | inr a ↦ (
          later.0
              ∙ ap (λ (c : List ℕ). content_from c (first_of_type 0x15 es)) a.1
              ∙ ap (λ (is : Bool). content_from s.content (first is)) (sym a.0),
          λ late. ap first a.0 ∙ later.1 (later_still place.repeats k (omega (arith, late, above))),
        )
      ]
  content_comes from (e ∷ es) fault read (stranger none not_critical rest) s t h =
      let later = content_comes from es fault read rest s t h in
      let first : Bool → Option Item = λ is. cond is (Some e) (first_of_type 0x15 es) in
      let other : eqb e.typ 0x15 ≡ false =
      false_from_ne_true _ (λ is. understood (sym (ap is_critical_type (eqb-true e.typ 0x15 is)) ∙ not_critical)) in (
        later.0 ∙ ap (λ (is : Bool). content_from s.content (first is)) (sym other),
        λ late. ap first other ∙ later.1 late,
      )
  content_comes from es fault read (critical none is_critical) s t h = absurd cc
