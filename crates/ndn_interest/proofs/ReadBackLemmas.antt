-- An Interest that was written is read back.
use Rattle.std.proofs.Common.{◌≡◌, ℕ, ◌+◌, ◌-◌, ◌<◌, ◌≤◌, Bool, true, false, cond, not, List, [], ◌∷◌, ◌++◌, length}
use Rattle.std.proofs.Common.{length-append, take, drop, drop_at, append_assoc, slice_range, Some, None}
use Rattle.std.proofs.Common.{Result, Ok, Err, refl, sym, ap, ◌∙◌, arith}
use Rattle.std.proofs.lemmas.List.{append-nil}
use Rattle.sha2.specs.Sha256.{sha256}
use Rattle.sha2.proofs.Facts256.{length-sha256}
use Rattle.ndn_tlv.specs.declared.tlv_fault.TlvFault.{TlvFault}
use Rattle.ndn_tlv.specs.Spelling.{head, element}
use Rattle.ndn_tlv.specs.Listing.{Listing, nothing, ◌then◌, gathered, ◌>>=◌}
use Rattle.ndn_tlv.specs.Elements.{Item, placed, elements}
use Rattle.ndn_tlv.specs.OrderTable.{place_of, fields_among, fields}
use Rattle.ndn_name.specs.declared.fault.PacketFault.{PacketFault}
use Rattle.ndn_name.specs.declared.fault.PacketFault.TheVariants.{BadField, Missing}
use Rattle.ndn_name.specs.declared.fault.Field.TheVariants as field
use Rattle.ndn_name.specs.Names.{Component, IsComponent, IsName, encoding}
use Rattle.ndn_name.specs.Faults.{packet_fault}
use Rattle.ndn_name.proofs.Encodings.{IsName-append}
use Rattle.ndn_sign.specs.Hmac.{hmac}
use Rattle.ndn_packet.specs.SignatureInfo.{Info}
use Rattle.ndn_packet.specs.Written.{written_info}
use Rattle.ndn_packet.proofs.Lengths.{length-element}
use Rattle.ndn_packet.proofs.ReadBack.{alone, followed, portion_is, outer_again, name_again, info_again, gathers}
use Rattle.ndn_packet.proofs.ReadBack.{gathered-nothing}
use Rattle.ndn_interest.specs.declared.interest_fields.InterestField.TheVariants.{Name, CanBePrefix}
use Rattle.ndn_interest.specs.declared.interest_fields.InterestField.TheVariants.{ApplicationParameters}
use Rattle.ndn_interest.specs.declared.interest_fields.InterestField.TheVariants.{InterestSignatureInfo}
use Rattle.ndn_interest.specs.declared.interest_fields.InterestField.TheVariants.{InterestSignatureValue}
use Rattle.ndn_interest.specs.Interest.{interest_table, Interest, InterestSoFar, no_interest_field, some_name}
use Rattle.ndn_interest.specs.Interest.{interest_name_in, with_interest_field, interest_fields, last_component}
use Rattle.ndn_interest.specs.Interest.{without_last, interest_from, interest_of}
use Rattle.ndn_interest.specs.WrittenInterest.{written_plain, written_signed_parameters, written_digested}
use Rattle.ndn_interest.specs.WrittenInterest.{written_interest, read_plain, read_signed}
use Rattle.ndn_interest.proofs.DigestLemmas.{IsOctets-sha256}
use Rattle.ndn_interest.proofs.LastLemmas.{last-push, without-push, ends-push}

-- ---- names

some_again : (bad : PacketFault) (name : List Component) → 0 < length name → some_name bad name ≡ Ok name
some_again bad [] h = absurd (omega arith)
some_again bad (c ∷ cs) h = refl

interest_name_again : (o : ℕ) (name : List Component) → IsName name → 0 < length name
    → interest_name_in (placed o 0x07 (encoding name)) ≡ Ok name
interest_name_again o name valid some =
    let bad = BadField field.Name o in
    ap (λ (r : Result (List Component) PacketFault). r >>= some_name bad) (name_again bad o 0x07 name valid)
    ∙ some_again bad name some

digest_component : (digested : List ℕ) → IsComponent (2, sha256 digested)
digest_component digested =
    record {
      above = omega arith;
      below = omega arith;
      digest = λ h. length-sha256 digested;
      long = omega (arith, length-sha256 digested);
      octets = IsOctets-sha256 digested;
    }

-- ---- the tables

flag_table : (a b : Item) → a.typ ≡ 0x07 → b.typ ≡ 0x21
    → fields interest_table (a then (b then nothing)) ≡ ((Name, a) then ((CanBePrefix, b) then nothing))
unfolding fields_among place_of
flag_table a b h k = rw (h, k) refl

name_table : (a : Item) → a.typ ≡ 0x07 → fields interest_table (a then nothing) ≡ ((Name, a) then nothing)
unfolding fields_among place_of
name_table a h = rw h refl

signed_table : (a b c d : Item) → a.typ ≡ 0x07 → b.typ ≡ 0x24 → c.typ ≡ 0x2c → d.typ ≡ 0x2e
    → fields interest_table (a then (b then (c then (d then nothing))))
    ≡ ((Name, a) then
    ((ApplicationParameters, b) then ((InterestSignatureInfo, c) then ((InterestSignatureValue, d) then nothing))))
unfolding fields_among place_of
signed_table a b c d h i j k = rw (h, i, j, k) refl

-- ---- the whole

abbrev named : List Component → InterestSoFar
named name = record no_interest_field { name = Some name }

name_step : (octets : List ℕ) (o : ℕ) (name : List Component) → IsName name → 0 < length name
    → with_interest_field octets no_interest_field (Name, placed o 0x07 (encoding name)) ≡ Ok (named name)
name_step octets o name valid some =
    ap (λ (r : Result (List Component) PacketFault). r >>= λ n. Ok (record no_interest_field { name = Some n }))
    (interest_name_again o name valid some)

-- the Interest that the fields make
finished : (value : List ℕ) (s : InterestSoFar) (result : Result Interest PacketFault)
    → length (element 0x05 value) ≤ 8800
    → interest_fields (element 0x05 value) (placed 0 0x05 value) ≡ Ok s → interest_from (element 0x05 value) s ≡ result
    → interest_of (element 0x05 value) ≡ result
finished value s result short read made =
    let octets = element 0x05 value in
    ap (λ (r : Result Item PacketFault). r >>= λ e. interest_fields octets e >>= interest_from octets)
    (outer_again 0x05 value (omega arith) (omega arith) short)
    ∙ ap (λ (r : Result InterestSoFar PacketFault). r >>= interest_from octets) read
    ∙ made

pub plain_again : (name : List Component) (b : Bool) → IsName name → 0 < length name
    → length (written_plain name b) ≤ 8800
    → interest_of (written_plain name b) ≡ Ok (read_plain name b)
plain_again name true valid some short =
    let first = element 0x07 (encoding name) in
    let flag = element 0x21 [] in
    let value = first ++ flag in
    let octets = element 0x05 value in
    let o = (placed 0 0x05 value).value_start in
    let p = o + length first in
    let size = length-element 0x05 value in
    let long = length-append first flag in
    let size_name = length-element 0x07 (encoding name) in
    let read =
    followed o 0x07 (encoding name) flag (placed p 0x21 [] then nothing) (omega arith) (omega arith) (omega arith)
    (alone p 0x21 [] (omega arith) (omega arith) (omega arith)) in
    let take = with_interest_field octets in
    let t = record (named name) { can_be_prefix = true } in
    let all : interest_fields octets (placed 0 0x05 value) ≡ Ok t =
    ap (λ (l : Listing Item TlvFault). gathered take packet_fault no_interest_field (fields interest_table l)) read
    ∙ ap (gathered take packet_fault no_interest_field)
    (flag_table (placed o 0x07 (encoding name)) (placed p 0x21 []) refl refl)
    ∙ gathers take packet_fault no_interest_field (named name) (Name, placed o 0x07 (encoding name))
    ((CanBePrefix, placed p 0x21 []) then nothing) (name_step octets o name valid some)
    ∙ gathers take packet_fault (named name) t (CanBePrefix, placed p 0x21 []) nothing refl
    ∙ gathered-nothing take packet_fault t in
    finished value t (Ok (read_plain name true)) short all refl
plain_again name false valid some short =
    let first = element 0x07 (encoding name) in
    let value = first ++ [] in
    let octets = element 0x05 value in
    let o = (placed 0 0x05 value).value_start in
    let size = length-element 0x05 value in
    let long = length-append first [] in
    let size_name = length-element 0x07 (encoding name) in
    let read =
    ap (elements o) (append-nil first) ∙ alone o 0x07 (encoding name) (omega arith) (omega arith) (omega arith) in
    let take = with_interest_field octets in
    let all : interest_fields octets (placed 0 0x05 value) ≡ Ok (named name) =
    ap (λ (l : Listing Item TlvFault). gathered take packet_fault no_interest_field (fields interest_table l)) read
    ∙ ap (gathered take packet_fault no_interest_field) (name_table (placed o 0x07 (encoding name)) refl)
    ∙ gathers take packet_fault no_interest_field (named name) (Name, placed o 0x07 (encoding name)) nothing
    (name_step octets o name valid some)
    ∙ gathered-nothing take packet_fault (named name) in
    finished value (named name) (Ok (read_plain name false)) short all refl

-- ---- a signed Interest

-- octets from a place on
after_is : (prefix tail : List ℕ) (from : ℕ) → from ≡ length prefix → drop from (prefix ++ tail) ≡ tail
after_is prefix tail from f = drop_at prefix tail from (sym f)

module _ (name key_name : List Component) (parameters key : List ℕ) where
  abbrev portion : List ℕ
  portion = written_signed_parameters parameters key_name

  abbrev mac : List ℕ
  mac = hmac key (encoding name ++ portion)

  abbrev digested : List ℕ
  digested = written_digested name parameters key_name key

  abbrev full : List Component
  full = name ++ (2, sha256 digested) ∷ []

  abbrev first : List ℕ
  first = element 0x07 (encoding full)

  abbrev value : List ℕ
  value = first ++ digested

  abbrev octets : List ℕ
  octets = element 0x05 value

  abbrev info : Info
  info = record { signature_type = 4; locator = Some key_name }

  abbrev all_fields : ℕ → ℕ → InterestSoFar
  all_fields p r =
      record (named full) {
        parameters = Some (p, parameters);
        info = Some info;
        signature = Some (mac, Some (slice_range octets p r));
      }

  abbrev made : List Component → List ℕ → List ℕ → Result Interest PacketFault
  made prefix second third =
      Ok (record {
        name = full;
        can_be_prefix = false;
        must_be_fresh = false;
        nonce = None;
        lifetime = None;
        hop_limit = None;
        parameters = Some parameters;
        signature_type = Some 4;
        locator = Some key_name;
        signature = Some mac;
        signed = Some (encoding prefix, second);
        digested = Some third;
      })

  makes : (p r : ℕ) → slice_range octets p r ≡ portion → drop p octets ≡ digested
      → interest_from octets (all_fields p r) ≡ made name portion digested
  makes p r signed after =
      ap (λ (b : Bool). cond (not b) (Err (Missing field.ParametersDigest))
      (made (without_last full) (slice_range octets p r) (drop p octets))) (ends-push name (sha256 digested))
      ∙ ap (λ (n : List Component). made n (slice_range octets p r) (drop p octets))
      (without-push name (2, sha256 digested))
      ∙ ap (λ (s : List ℕ). made name s (drop p octets)) signed
      ∙ ap (made name portion) after

  pub signed_again : IsName name → IsName key_name → length (written_interest name parameters key_name key) ≤ 8800
      → interest_of (written_interest name parameters key_name key) ≡ Ok (read_signed name parameters key_name key)
  signed_again valid key_valid short =
      let infos = element 0x2c (written_info key_name) in
      let params = element 0x24 parameters in
      let last = element 0x2e mac in
      let full_valid = IsName-append name ((2, sha256 digested) ∷ []) valid (digest_component digested, tt) in
      let some : 0 < length full = omega (arith, length-append name ((2, sha256 digested) ∷ [])) in
      let o = (placed 0 0x05 value).value_start in
      let p = o + length first in
      let q = p + length params in
      let r = q + length infos in
      let parts : digested ≡ params ++ (infos ++ last) = append_assoc params infos last in
      let size = length-element 0x05 value in
      let long = length-append first digested in
      let size_name = length-element 0x07 (encoding full) in
      let size_digested = ap length parts ∙ length-append params (infos ++ last) in
      let size_params = length-element 0x24 parameters in
      let size_rest = length-append infos last in
      let size_info = length-element 0x2c (written_info key_name) in
      let size_mac = length-element 0x2e mac in
      let counted : length portion ≡ length params + length infos = length-append params infos in
      let tail =
      ap (elements p) parts ∙ followed p 0x24 parameters (infos ++ last) _ (omega arith) (omega arith) (omega arith)
      (followed q 0x2c (written_info key_name) last _ (omega arith) (omega arith) (omega arith)
      (alone r 0x2e mac (omega arith) (omega arith) (omega arith))) in
      let read = followed o 0x07 (encoding full) digested _ (omega arith) (omega arith) (omega arith) tail in
      let take = with_interest_field octets in
      let a = placed o 0x07 (encoding full) in
      let b = placed p 0x24 parameters in
      let c = placed q 0x2c (written_info key_name) in
      let d = placed r 0x2e mac in
      let t = record (named full) { parameters = Some (p, parameters) } in
      let u = record t { info = Some info } in
      let infos_read : take t (InterestSignatureInfo, c) ≡ Ok u =
      ap (λ (x : Result Info PacketFault). x >>= λ i. Ok (record t { info = Some i }))
      (info_again q 0x2c key_name key_valid (omega arith)) in
      let all : interest_fields octets (placed 0 0x05 value) ≡ Ok (all_fields p r) =
      ap (λ (l : Listing Item TlvFault). gathered take packet_fault no_interest_field (fields interest_table l)) read
      ∙ ap (gathered take packet_fault no_interest_field) (signed_table a b c d refl refl refl refl)
      ∙ gathers take packet_fault no_interest_field (named full) (Name, a)
      ((ApplicationParameters, b) then ((InterestSignatureInfo, c) then ((InterestSignatureValue, d) then nothing)))
      (name_step octets o full full_valid some)
      ∙ gathers take packet_fault (named full) t (ApplicationParameters, b)
      ((InterestSignatureInfo, c) then ((InterestSignatureValue, d) then nothing)) refl
      ∙ gathers take packet_fault t u (InterestSignatureInfo, c) ((InterestSignatureValue, d) then nothing) infos_read
      ∙ gathers take packet_fault u (all_fields p r) (InterestSignatureValue, d) nothing refl
      ∙ gathered-nothing take packet_fault (all_fields p r) in
      let prefix = head 0x05 (length value) ++ first in
      let whole : octets ≡ prefix ++ digested = sym (append_assoc (head 0x05 (length value)) first digested) in
      let at : p ≡ length prefix = omega (arith, length-append (head 0x05 (length value)) first) in
      let after : drop p octets ≡ digested = ap (drop p) whole ∙ after_is prefix digested p at in
      let between : slice_range octets p r ≡ portion =
      ap (λ (x : List ℕ). slice_range x p r) whole ∙ portion_is prefix portion last p r at (omega arith) in
      finished value (all_fields p r) (made name portion digested) short all (makes p r between after)

  pub has_digest : last_component full ≡ Some (2, sha256 digested)
  has_digest = last-push name (2, sha256 digested)
