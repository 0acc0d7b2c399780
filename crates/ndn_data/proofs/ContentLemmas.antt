-- The content of a packet is no longer than a packet may be.
use Rattle.std.proofs.Common.{◌≡◌, ◌⊎◌, inl, inr, ℕ, ◌+◌, ◌≤◌, Bool, true, false, cond, List, [], ◌∷◌, map, length}
use Rattle.std.proofs.Common.{refl, sym, ap, subst, Option, Some, None, arith}
use Rattle.std.specs.Prelude.{Result, Ok, Err, nat_lt, ◌==◌}
use Rattle.std.proofs.lemmas.Bool.{ltb-false}
use Rattle.ndn_tlv.specs.declared.tlv_fault.TlvFault.{TlvFault}
use Rattle.ndn_tlv.specs.declared.order_table.FieldError.{FieldError}
use Rattle.ndn_tlv.specs.Listing.{gather, ◌>>=◌}
use Rattle.ndn_tlv.specs.Elements.{Item, elements, AreWithin}
use Rattle.ndn_tlv.specs.OrderTable.{fields}
use Rattle.ndn_tlv.proofs.Steps.{bind_ok, ok_is}
use Rattle.ndn_tlv.proofs.Fields.{AreWithin-ends, fields_within}
use Rattle.ndn_tlv.proofs.Listings.{elements_within_octets}
use Rattle.ndn_name.specs.declared.fault.PacketFault.{PacketFault}
use Rattle.ndn_name.specs.declared.fault.PacketFault.TheVariants.{BadField, Tlv, Missing, PacketTooLong, WrongType}
use Rattle.ndn_name.specs.declared.fault.PacketFault.TheVariants.{TrailingOctets}
use Rattle.ndn_name.specs.declared.fault.Field.TheVariants as field
use Rattle.ndn_tlv.specs.declared.tlv_fault.TlvFault.TheVariants.{Truncated}
use Rattle.ndn_name.specs.Faults.{packet_fault}
use Rattle.ndn_packet.specs.Contents.{ok_or, name_in, first_among, first_of}
use Rattle.ndn_packet.specs.SignatureInfo.{info_in}
use Rattle.ndn_packet.specs.Outer.{only_of, outer_of}
use Rattle.ndn_data.specs.MetaInfo.{meta_in}
use Rattle.ndn_data.specs.declared.data_fields.DataField.{DataField}
use Rattle.ndn_data.specs.declared.data_fields.DataField.TheVariants as data_field
use Rattle.ndn_data.specs.Data.{data_table, Data, DataSoFar, no_data_field, with_data_field, data_fields, data_from}
use Rattle.ndn_data.specs.Data.{data_of}

err_is_ok : {A E : Type 0} (e : E) (y : A) → let r : Result A E = Err e in r ≡ Ok y → ⊥
err_is_ok e y h = cc

-- each field leaves the content, or is it
content_step : (octets : List ℕ) (s t : DataSoFar) (x : DataField × Item) → with_data_field octets s x ≡ Ok t
    → (t.content ≡ s.content) ⊎ (t.content ≡ x.1.value)
content_step octets s t (data_field.Name, e) h =
    let at =
    bind_ok (name_in (BadField field.Name e.start) e) (λ name. Ok (record s { name = Some (e.start, name) })) t h in
    inl (ap (λ (u : DataSoFar). u.content) (sym (ok_is (record s { name = Some (e.start, at.0) }) t at.2)))
content_step octets s t (data_field.MetaInfo, e) h =
    let at = bind_ok (meta_in e) (λ m. Ok (record s { meta = m })) t h in
    inl (ap (λ (u : DataSoFar). u.content) (sym (ok_is (record s { meta = at.0 }) t at.2)))
content_step octets s t (data_field.Content, e) h =
    inr (ap (λ (u : DataSoFar). u.content) (sym (ok_is (record s { content = e.value }) t h)))
content_step octets s t (data_field.SignatureInfo, e) h =
    let at = bind_ok (info_in e) (λ i. Ok (record s { info = Some i })) t h in
    inl (ap (λ (u : DataSoFar). u.content) (sym (ok_is (record s { info = Some at.0 }) t at.2)))
content_step octets s t (data_field.SignatureValue, e) h = inl (ap (λ (u : DataSoFar). u.content) (sym (ok_is _ t h)))

value_fits : (n low high : ℕ) (e : Item) (es : List Item) → high ≤ low + n → AreWithin low high (e ∷ es)
    → length e.value ≤ n
value_fits n low high e es h w = omega (arith, w.0, w.1, w.2, AreWithin-ends e.end high es w.3)

content_fits :
    (octets : List ℕ) (n low high : ℕ) (items : List (DataField × Item)) (fault : Option FieldError) (s t : DataSoFar)
    → AreWithin low high (map (λ x. x.1) items) → high ≤ low + n → length s.content ≤ n
    → gather (with_data_field octets) packet_fault s items fault ≡ Ok t → length t.content ≤ n
unfolding gather
content_fits octets n low high [] None s t w h fits read =
    subst (λ (u : DataSoFar). length u.content ≤ n) (ok_is s t read) fits
content_fits octets n low high [] (Some f) s t w h fits read = absurd (err_is_ok (packet_fault f) t read)
content_fits octets n low high (x ∷ items) fault s t w h fits read =
    let at =
    bind_ok (with_data_field octets s x) (λ u. gather (with_data_field octets) packet_fault u items fault) t read in
    let here : length at.0.content ≤ n = elim (content_step octets s at.0 x at.1) [
      | inl same ↦ subst (λ (c : List ℕ). length c ≤ n) (sym same) fits
      | inr same ↦
          subst (λ (c : List ℕ). length c ≤ n) (sym same) (value_fits n low high x.1 (map (λ y. y.1) items) h w)
    ] in
    let less : high ≤ x.1.end + n = omega (arith, w.0, w.1, w.2, h) in
    content_fits octets n x.1.end high items fault at.0 t w.3 less here at.2

-- the packet's element is all of the octets at most
first_fits : (es : List Item) (fault : Option TlvFault) (absent : PacketFault) (e : Item) (low high : ℕ)
    → AreWithin low high es → first_among absent es fault ≡ Ok e → low + length e.value ≤ high
first_fits [] None absent e low high w h = absurd (err_is_ok absent e h)
first_fits [] (Some f) absent e low high w h = absurd (err_is_ok (Tlv f) e h)
first_fits (x ∷ es) fault absent e low high w h =
    subst (λ (y : Item). low + length y.value ≤ high) (ok_is x e h)
    (omega (arith, w.0, w.1, w.2, AreWithin-ends x.end high es w.3))

only_same : (typ len : ℕ) (x e : Item) → only_of typ len x ≡ Ok e → x ≡ e
only_same typ len x e h = go (x.typ == typ) (nat_lt x.end len) h where
  go : (b c : Bool) → cond b (cond c (Err (TrailingOctets x.end)) (Ok x)) (Err (WrongType x.typ)) ≡ Ok e → x ≡ e
  go true true p = absurd (err_is_ok (TrailingOctets x.end) e p)
  go true false p = ok_is x e p
  go false c p = absurd (err_is_ok (WrongType x.typ) e p)

outer_fits : (typ : ℕ) (octets : List ℕ) (e : Item) → outer_of typ octets ≡ Ok e → length e.value ≤ 8800
outer_fits typ octets e h = go (nat_lt 8800 (length octets)) refl h where
  go : (b : Bool) → nat_lt 8800 (length octets) ≡ b
      → cond b (Err PacketTooLong) (first_of (Tlv (Truncated 0)) 0 octets >>= only_of typ (length octets)) ≡ Ok e
      → length e.value ≤ 8800
  go true p q = absurd (err_is_ok PacketTooLong e q)
  go false p q =
      let at = bind_ok (first_of (Tlv (Truncated 0)) 0 octets) (only_of typ (length octets)) e q in
      let short : length octets ≤ 8800 = ltb-false 8800 (length octets) p in
      let fits =
      first_fits (elements 0 octets).items (elements 0 octets).fault (Tlv (Truncated 0)) at.0 0 (0 + length octets)
      (elements_within_octets 0 octets) at.1 in
      subst (λ (y : Item). length y.value ≤ 8800) (only_same typ (length octets) at.0 e at.2)
      (omega (arith, fits, short))

from_content : (value : List ℕ) (s : DataSoFar) (d : Data) → data_from value s ≡ Ok d → d.content ≡ s.content
from_content value s d h =
    let at = bind_ok (ok_or s.name (Missing field.Name)) _ d h in
    let info = bind_ok (ok_or s.info (Missing field.SignatureInfo)) _ d at.2 in
    let signature = bind_ok (ok_or s.signature (Missing field.SignatureValue)) _ d info.2 in
    ap (λ (y : Data). y.content) (sym (ok_is _ d signature.2))

pub data_content_short : (octets : List ℕ) (d : Data) → data_of octets ≡ Ok d → length d.content ≤ 8800
data_content_short octets d h =
    let outer = bind_ok (outer_of 0x06 octets) (λ e. data_fields octets e >>= data_from e.value) d h in
    let read = bind_ok (data_fields octets outer.0) (data_from outer.0.value) d outer.2 in
    let within =
    fields_within data_table (elements outer.0.value_start outer.0.value).items
    (elements outer.0.value_start outer.0.value).fault outer.0.value_start (outer.0.value_start + length outer.0.value)
    (elements_within_octets outer.0.value_start outer.0.value) in
    let short = outer_fits 0x06 octets outer.0 outer.1 in
    let fits =
    content_fits octets 8800 outer.0.value_start (outer.0.value_start + length outer.0.value)
    (fields data_table (elements outer.0.value_start outer.0.value)).items
    (fields data_table (elements outer.0.value_start outer.0.value)).fault no_data_field read.0 within
    (omega (arith, short)) (omega arith) read.1 in
    subst (λ (c : List ℕ). length c ≤ 8800) (sym (from_content outer.0.value read.0 d read.2)) fits
