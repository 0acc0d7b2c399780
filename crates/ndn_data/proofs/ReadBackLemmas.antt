-- A Data packet that was written is read back.
use Rattle.std.proofs.Common.{◌≡◌, ℕ, ◌+◌, ◌-◌, ◌^◌, ◌<◌, ◌≤◌, List, [], ◌∷◌, ◌++◌, length, length-append, take}
use Rattle.std.proofs.Common.{append_assoc, slice_range, Option, Some, None, Result, Ok, refl}
use Rattle.std.proofs.Common.{ap, ◌∙◌, arith}
use Rattle.ndn_tlv.specs.declared.tlv_fault.TlvFault.{TlvFault}
use Rattle.ndn_tlv.specs.Spelling.{head, element}
use Rattle.ndn_tlv.specs.Listing.{Listing, nothing, ◌then◌, gather, gathered, ◌>>=◌}
use Rattle.ndn_tlv.specs.Elements.{Item, placed, elements}
use Rattle.ndn_tlv.specs.NumberField.{number_field}
use Rattle.ndn_tlv.specs.OrderTable.{place_of, fields_among, fields}
use Rattle.ndn_name.specs.declared.fault.PacketFault.{PacketFault}
use Rattle.ndn_name.specs.declared.fault.PacketFault.TheVariants.{BadField}
use Rattle.ndn_name.specs.declared.fault.Field.TheVariants as field
use Rattle.ndn_name.specs.declared.name_fault.NameFault.{NameFault}
use Rattle.ndn_name.specs.declared.name_fault.NameFault.TheVariants as name_faults
use Rattle.ndn_name.specs.Names.{Component, IsName, encoding, with_component, name_of}
use Rattle.ndn_name.specs.Faults.{packet_fault}
use Rattle.ndn_sign.specs.Hmac.{hmac}
use Rattle.ndn_packet.specs.Contents.{name_or}
use Rattle.ndn_packet.specs.Outer.{outer_of}
use Rattle.ndn_packet.specs.SignatureInfo.{Info}
use Rattle.ndn_packet.specs.Written.{written_info}
use Rattle.ndn_packet.proofs.Lengths.{length-element}
use Rattle.ndn_packet.proofs.ReadBack.{alone, followed, portion_is, outer_again, name_again, info_again, gathers}
use Rattle.ndn_packet.proofs.ReadBack.{gathered-nothing}
use Rattle.ndn_data.specs.declared.meta_info.MetaField.TheVariants.{FinalBlockId}
use Rattle.ndn_data.specs.declared.data_fields.DataField.TheVariants.{Name, MetaInfo, Content, SignatureInfo}
use Rattle.ndn_data.specs.declared.data_fields.DataField.TheVariants.{SignatureValue}
use Rattle.ndn_data.specs.MetaInfo.{meta_info_table, Meta, plain, only_component, final_block_in, with_meta_field}
use Rattle.ndn_data.specs.MetaInfo.{meta_in}
use Rattle.ndn_data.specs.Data.{data_table, Data, DataSoFar, no_data_field, with_data_field, data_fields, data_from}
use Rattle.ndn_data.specs.Data.{data_of}
use Rattle.ndn_data.specs.WrittenData.{final_block, written_signed, signed, written_data, read_back}

regroup : (a b c d e : List ℕ) → (((a ++ b) ++ c) ++ d) ++ e ≡ a ++ (b ++ (c ++ (d ++ e)))
regroup a b c d e = simp append_assoc

-- ---- the meta info

meta_table : (a : Item) → a.typ ≡ 0x1a → fields meta_info_table (a then nothing) ≡ ((FinalBlockId, a) then nothing)
unfolding fields_among place_of
meta_table a h = rw h refl

one_component : (o : ℕ) (value : List ℕ)
    → gathered with_component name_faults.Tlv [] (placed o 0x32 value then nothing) ≡ Ok ((0x32, value) ∷ [])
unfolding gather
one_component o value = refl

abbrev last_of : ℕ → Meta
last_of n = record { content_type = 0; last = Some (0x32, number_field n) }

meta_again : (o n : ℕ) → length (element 0x14 (final_block n)) ≤ 8800
    → meta_in (placed o 0x14 (final_block n)) ≡ Ok (last_of n)
meta_again o n short =
    let v = (placed o 0x14 (final_block n)).value_start in
    let component = element 0x32 (number_field n) in
    let a = placed v 0x1a component in
    let bad = BadField field.FinalBlockId a.start in
    let outer = length-element 0x14 (final_block n) in
    let middle = length-element 0x1a component in
    let inner = length-element 0x32 (number_field n) in
    let read = alone v 0x1a component (omega arith) (omega arith) (omega arith) in
    let name : name_of a.value_start component ≡ Ok ((0x32, number_field n) ∷ []) =
    ap (gathered with_component name_faults.Tlv [])
    (alone a.value_start 0x32 (number_field n) (omega arith) (omega arith) (omega arith))
    ∙ one_component a.value_start (number_field n) in
    let block : final_block_in a ≡ Ok (0x32, number_field n) =
    ap (λ (r : Result (List Component) NameFault). name_or bad r >>= only_component bad) name in
    let step : with_meta_field plain (FinalBlockId, a) ≡ Ok (last_of n) =
    ap (λ (r : Result Component PacketFault). r >>= λ c. Ok (record plain { last = Some c })) block in
    ap (λ (l : Listing Item TlvFault). gathered with_meta_field packet_fault plain (fields meta_info_table l)) read
    ∙ ap (gathered with_meta_field packet_fault plain) (meta_table a refl)
    ∙ gathers with_meta_field packet_fault plain (last_of n) (FinalBlockId, a) nothing step
    ∙ gathered-nothing with_meta_field packet_fault (last_of n)

-- ---- the fields

plain_table : (a b c d : Item) → a.typ ≡ 0x07 → b.typ ≡ 0x15 → c.typ ≡ 0x16 → d.typ ≡ 0x17
    → fields data_table (a then (b then (c then (d then nothing))))
    ≡ ((Name, a) then ((Content, b) then ((SignatureInfo, c) then ((SignatureValue, d) then nothing))))
unfolding fields_among place_of
plain_table a b c d h i j k = rw (h, i, j, k) refl

whole_table : (a m b c d : Item) → a.typ ≡ 0x07 → m.typ ≡ 0x14 → b.typ ≡ 0x15 → c.typ ≡ 0x16 → d.typ ≡ 0x17
    → fields data_table (a then (m then (b then (c then (d then nothing)))))
    ≡ ((Name, a) then
    ((MetaInfo, m) then ((Content, b) then ((SignatureInfo, c) then ((SignatureValue, d) then nothing)))))
unfolding fields_among place_of
whole_table a m b c d h l i j k = rw (h, l, i, j, k) refl

module _ (name key_name : List Component) (content mac : List ℕ) (octets : List ℕ) (valid : IsName name)
    (key_valid : IsName key_name) where
  abbrev info : Info
  info = record { signature_type = 4; locator = Some key_name }

  -- what is left to read after the meta info
  abbrev after : List ℕ
  after = element 0x15 content ++ (element 0x16 (written_info key_name) ++ element 0x17 mac)

  after_read : (o : ℕ) → length after ≤ 8800
      → elements o after
      ≡ (placed o 0x15 content then
      (placed (o + length (element 0x15 content)) 0x16 (written_info key_name) then
      (placed (o + length (element 0x15 content) + length (element 0x16 (written_info key_name))) 0x17 mac then
      nothing)))
  after_read o short =
      let a = length-append (element 0x15 content) (element 0x16 (written_info key_name) ++ element 0x17 mac) in
      let b = length-append (element 0x16 (written_info key_name)) (element 0x17 mac) in
      let c = length-element 0x15 content in
      let d = length-element 0x16 (written_info key_name) in
      let e = length-element 0x17 mac in
      followed o 0x15 content (element 0x16 (written_info key_name) ++ element 0x17 mac) _ (omega arith) (omega arith)
      (omega arith)
      (followed (o + length (element 0x15 content)) 0x16 (written_info key_name) (element 0x17 mac) _ (omega arith)
      (omega arith) (omega arith)
      (alone (o + length (element 0x15 content) + length (element 0x16 (written_info key_name))) 0x17 mac (omega arith)
      (omega arith) (omega arith)))

  abbrev named : ℕ → DataSoFar
  named o = record no_data_field { name = Some (o, name) }

  abbrev all_fields : ℕ → ℕ → Meta → DataSoFar
  all_fields o p m = record {
    name = Some (o, name);
    meta = m;
    content = content;
    info = Some info;
    signature = Some (mac, slice_range octets o p);
  }

  name_step : (o : ℕ) → with_data_field octets no_data_field (Name, placed o 0x07 (encoding name)) ≡ Ok (named o)
  name_step o =
      ap (λ (r : Result (List Component) PacketFault). r >>= λ n. Ok (record no_data_field { name = Some (o, n) }))
      (name_again (BadField field.Name o) o 0x07 name valid)

  meta_step : (o p n : ℕ) → length (element 0x14 (final_block n)) ≤ 8800
      → with_data_field octets (named o) (MetaInfo, placed p 0x14 (final_block n))
      ≡ Ok (record (named o) { meta = last_of n })
  meta_step o p n short =
      ap (λ (r : Result Meta PacketFault). r >>= λ m. Ok (record (named o) { meta = m })) (meta_again p n short)

  -- the fields after the meta info
  others : (o p q r : ℕ) (m : Meta) → length (written_info key_name) < 2 ^ 64
      → gathered (with_data_field octets) packet_fault (record (named o) { meta = m })
      ((Content, placed p 0x15 content) then
      ((SignatureInfo, placed q 0x16 (written_info key_name)) then ((SignatureValue, placed r 0x17 mac) then nothing)))
      ≡ Ok (all_fields o r m)
  others o p q r m fits =
      let take = with_data_field octets in
      let s = record (named o) { meta = m } in
      let t : DataSoFar = record s { content = content } in
      let u : DataSoFar = record t { info = Some info } in
      let c = placed p 0x15 content in
      let i = placed q 0x16 (written_info key_name) in
      let v = placed r 0x17 mac in
      let second : take t (SignatureInfo, i) ≡ Ok u =
      ap (λ (r : Result Info PacketFault). r >>= λ x. Ok (record t { info = Some x }))
      (info_again q 0x16 key_name key_valid fits) in
      gathers take packet_fault s t (Content, c) ((SignatureInfo, i) then ((SignatureValue, v) then nothing)) refl
      ∙ gathers take packet_fault t u (SignatureInfo, i) ((SignatureValue, v) then nothing) second
      ∙ gathers take packet_fault u (all_fields o r m) (SignatureValue, v) nothing refl
      ∙ gathered-nothing take packet_fault (all_fields o r m)

  abbrev made : List ℕ → Meta → List ℕ → Result Data PacketFault
  made value m portion =
      Ok (record {
        name = name;
        content = content;
        content_type = m.content_type;
        last = m.last;
        signature_type = 4;
        locator = Some key_name;
        signature = mac;
        signed = portion;
        value = value;
      })

  -- the packet that the fields make
  finished : (value portion : List ℕ) (o p : ℕ) (m : Meta) → octets ≡ element 0x06 value → length octets ≤ 8800
      → data_fields octets (placed 0 0x06 value) ≡ Ok (all_fields o p m) → slice_range octets o p ≡ portion
      → data_of octets ≡ made value m portion
  finished value portion o p m whole short fields signed =
      let outer : outer_of 0x06 octets ≡ Ok (placed 0 0x06 value) =
      ap (outer_of 0x06) whole ∙ outer_again 0x06 value (omega arith) (omega arith) (omega (arith, ap length whole)) in
      ap (λ (r : Result Item PacketFault). r >>= λ e. data_fields octets e >>= data_from e.value) outer
      ∙ ap (λ (r : Result DataSoFar PacketFault). r >>= data_from value) fields
      ∙ ap (made value m) signed

-- ---- the two forms

plain_again : (name key_name : List Component) (content key : List ℕ) → IsName name → IsName key_name
    → length (written_data name None content key_name key) ≤ 8800
    → data_of (written_data name None content key_name key) ≡ Ok (read_back name None content key_name key)
plain_again name key_name content key valid key_valid short =
    let portion = written_signed name None content key_name in
    let mac = hmac key portion in
    let value = portion ++ element 0x17 mac in
    let octets = element 0x06 value in
    let info = written_info key_name in
    let first = element 0x07 (encoding name) in
    let second = element 0x15 content in
    let third = element 0x16 info in
    let rest = after name key_name content mac octets valid key_valid in
    let o = (placed 0 0x06 value).value_start in
    let p = o + length first in
    let q = p + length second in
    let r = q + length third in
    let parts : value ≡ first ++ rest = regroup first [] second third (element 0x17 mac) in
    let size = length-element 0x06 value in
    let long = ap length parts ∙ length-append first rest in
    let size_name = length-element 0x07 (encoding name) in
    let size_rest = length-append second (third ++ element 0x17 mac) in
    let size_last = length-append third (element 0x17 mac) in
    let size_info = length-element 0x16 info in
    let read =
    ap (elements o) parts
    ∙ followed o 0x07 (encoding name) rest _ (omega arith) (omega arith) (omega arith)
    (after_read name key_name content mac octets valid key_valid p (omega arith)) in
    let take = with_data_field octets in
    let fields_read : data_fields octets (placed 0 0x06 value)
    ≡ Ok (all_fields name key_name content mac octets valid key_valid o r plain) =
    ap (λ (l : Listing Item TlvFault). gathered take packet_fault no_data_field (fields data_table l)) read
    ∙ ap (gathered take packet_fault no_data_field)
    (plain_table (placed o 0x07 (encoding name)) (placed p 0x15 content) (placed q 0x16 info) (placed r 0x17 mac) refl
    refl refl refl)
    ∙ gathers take packet_fault no_data_field (named name key_name content mac octets valid key_valid o)
    (Name, placed o 0x07 (encoding name)) _ (name_step name key_name content mac octets valid key_valid o)
    ∙ others name key_name content mac octets valid key_valid o p q r plain (omega arith) in
    let counted : length portion ≡ length first + length second + length third =
    omega (
      arith,
      length-append ((first ++ []) ++ second) third,
      length-append (first ++ []) second,
      length-append first [],
    ) in
    finished name key_name content mac octets valid key_valid value portion o r plain refl short fields_read
    (portion_is (head 0x06 (length value)) portion (element 0x17 mac) o r (omega arith) (omega arith))

last_again : (name key_name : List Component) (n : ℕ) (content key : List ℕ) → IsName name → IsName key_name
    → length (written_data name (Some n) content key_name key) ≤ 8800
    → data_of (written_data name (Some n) content key_name key) ≡ Ok (read_back name (Some n) content key_name key)
last_again name key_name n content key valid key_valid short =
    let portion = written_signed name (Some n) content key_name in
    let mac = hmac key portion in
    let value = portion ++ element 0x17 mac in
    let octets = element 0x06 value in
    let info = written_info key_name in
    let first = element 0x07 (encoding name) in
    let meta = element 0x14 (final_block n) in
    let second = element 0x15 content in
    let third = element 0x16 info in
    let rest = after name key_name content mac octets valid key_valid in
    let o = (placed 0 0x06 value).value_start in
    let k = o + length first in
    let p = k + length meta in
    let q = p + length second in
    let r = q + length third in
    let parts : value ≡ first ++ (meta ++ rest) = regroup first meta second third (element 0x17 mac) in
    let size = length-element 0x06 value in
    let long = ap length parts ∙ length-append first (meta ++ rest) in
    let size_name = length-element 0x07 (encoding name) in
    let size_meta = length-append meta rest in
    let size_block = length-element 0x14 (final_block n) in
    let size_rest = length-append second (third ++ element 0x17 mac) in
    let size_last = length-append third (element 0x17 mac) in
    let size_info = length-element 0x16 info in
    let read =
    ap (elements o) parts ∙ followed o 0x07 (encoding name) (meta ++ rest) _ (omega arith) (omega arith) (omega arith)
    (followed k 0x14 (final_block n) rest _ (omega arith) (omega arith) (omega arith)
    (after_read name key_name content mac octets valid key_valid p (omega arith))) in
    let take = with_data_field octets in
    let fields_read : data_fields octets (placed 0 0x06 value)
    ≡ Ok (all_fields name key_name content mac octets valid key_valid o r (last_of n)) =
    ap (λ (l : Listing Item TlvFault). gathered take packet_fault no_data_field (fields data_table l)) read
    ∙ ap (gathered take packet_fault no_data_field)
    (whole_table (placed o 0x07 (encoding name)) (placed k 0x14 (final_block n)) (placed p 0x15 content)
    (placed q 0x16 info) (placed r 0x17 mac) refl refl refl refl refl)
    ∙ gathers take packet_fault no_data_field (named name key_name content mac octets valid key_valid o)
    (Name, placed o 0x07 (encoding name)) _ (name_step name key_name content mac octets valid key_valid o)
    ∙ gathers take packet_fault (named name key_name content mac octets valid key_valid o)
    (record (named name key_name content mac octets valid key_valid o) { meta = last_of n })
    (MetaInfo, placed k 0x14 (final_block n)) _
    (meta_step name key_name content mac octets valid key_valid o k n (omega arith))
    ∙ others name key_name content mac octets valid key_valid o p q r (last_of n) (omega arith) in
    let counted : length portion ≡ length first + length meta + length second + length third =
    omega (
      arith,
      length-append ((first ++ meta) ++ second) third,
      length-append (first ++ meta) second,
      length-append first meta,
    ) in
    finished name key_name content mac octets valid key_valid value portion o r (last_of n) refl short fields_read
    (portion_is (head 0x06 (length value)) portion (element 0x17 mac) o r (omega arith) (omega arith))

pub data_again : (name key_name : List Component) (last : Option ℕ) (content key : List ℕ) → IsName name
    → IsName key_name
    → length (written_data name last content key_name key) ≤ 8800
    → data_of (written_data name last content key_name key) ≡ Ok (read_back name last content key_name key)
data_again name key_name None content key valid key_valid short =
    plain_again name key_name content key valid key_valid short
data_again name key_name (Some n) content key valid key_valid short =
    last_again name key_name n content key valid key_valid short
