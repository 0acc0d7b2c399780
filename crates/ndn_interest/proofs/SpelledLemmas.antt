-- What an Interest signs and digests stands in the packet.
use Rattle.std.proofs.Common.{◌≡◌, ℕ, zero, suc, ◌+◌, ◌-◌, ◌<◌, ◌≤◌, Bool, true, false, cond, not, ◌&&◌, List, [], ◌∷◌}
use Rattle.std.proofs.Common.{◌++◌, length, take, drop, drop_at, Option, Some, None, slice_get, slice_range, Result, Ok}
use Rattle.std.proofs.Common.{Err, IfSome, MatchOption, refl, sym, ap, subst, ◌∙◌, arith}
use Rattle.std.specs.Prelude.{option_map, is_some, is_none}
use Rattle.std.specs.Option.{option_map_or}
use Rattle.std.proofs.Math.Seq.{take-append-add}
use Rattle.std.proofs.lemmas.Bool.{not-false}
use Rattle.std.proofs.lemmas.List.Folds.{drop_split}
use Rattle.std.proofs.lemmas.Option.{slice_get_within}
use Rattle.ndn_tlv.specs.Spelling.{head, element}
use Rattle.ndn_tlv.specs.Listing.{◌>>=◌}
use Rattle.ndn_tlv.specs.Elements.{Item, IsOctets, placed, elements}
use Rattle.ndn_tlv.specs.OrderTable.{fields}
use Rattle.ndn_tlv.proofs.Listings.{elements_are, elements_within_octets}
use Rattle.ndn_tlv.proofs.Places.{fields_stand}
use Rattle.ndn_tlv.specs.declared.order_table.Place.{Place}
use Rattle.ndn_name.specs.declared.fault.PacketFault.{PacketFault}
use Rattle.ndn_name.specs.declared.fault.Field.TheVariants as field
use Rattle.ndn_name.specs.declared.fault.PacketFault.TheVariants.{Missing}
use Rattle.ndn_name.specs.Names.{Component, encoding}
use Rattle.ndn_tlv.proofs.Steps.{bind_ok, ok_is}
use Rattle.ndn_name.proofs.Encodings.{IsOctets-after}
use Rattle.ndn_packet.specs.Contents.{ok_or, number_in}
use Rattle.ndn_packet.specs.Outer.{outer_of}
use Rattle.ndn_packet.specs.SignatureInfo.{Info, info_in}
use Rattle.ndn_packet.proofs.Outers.{outer_ok}
use Rattle.ndn_packet.proofs.Gathering.{none_before, Stands, elements_stand, keeps}
use Rattle.ndn_interest.specs.declared.interest_fields.InterestField.{InterestField}
use Rattle.ndn_interest.specs.declared.interest_fields.InterestField.TheVariants.{Name, CanBePrefix, MustBeFresh}
use Rattle.ndn_interest.specs.declared.interest_fields.InterestField.TheVariants.{ForwardingHint, Nonce}
use Rattle.ndn_interest.specs.declared.interest_fields.InterestField.TheVariants.{InterestLifetime, HopLimit}
use Rattle.ndn_interest.specs.declared.interest_fields.InterestField.TheVariants.{ApplicationParameters}
use Rattle.ndn_interest.specs.declared.interest_fields.InterestField.TheVariants.{InterestSignatureInfo}
use Rattle.ndn_interest.specs.declared.interest_fields.InterestField.TheVariants.{InterestSignatureValue}
use Rattle.ndn_interest.specs.Interest.{interest_table, Interest, InterestSoFar, no_interest_field, interest_name_in}
use Rattle.ndn_interest.specs.Interest.{flag_in, nonce_in, hop_limit_in, with_interest_field, interest_fields}
use Rattle.ndn_interest.specs.Interest.{last_component, without_last, ends_in_digest, signed_of, interest_named}
use Rattle.ndn_interest.specs.Interest.{interest_from, interest_of, IsDigestedFrom, IsSignedUpTo, InterestIsSpelled}
use Rattle.ndn_interest.proofs.LastLemmas.{found, split_at}

-- ---- the places of the table

abbrev place_number : InterestField → ℕ
place_number Name = 0
place_number CanBePrefix = 1
place_number MustBeFresh = 2
place_number ForwardingHint = 3
place_number Nonce = 4
place_number InterestLifetime = 5
place_number HopLimit = 6
place_number ApplicationParameters = 7
place_number InterestSignatureInfo = 8
place_number InterestSignatureValue = 9

abbrev type_of : InterestField → ℕ
type_of Name = 0x07
type_of CanBePrefix = 0x21
type_of MustBeFresh = 0x12
type_of ForwardingHint = 0x1e
type_of Nonce = 0x0a
type_of InterestLifetime = 0x0c
type_of HopLimit = 0x22
type_of ApplicationParameters = 0x24
type_of InterestSignatureInfo = 0x2c
type_of InterestSignatureValue = 0x2e

record IsPlace (k : ℕ) (place : Place InterestField) : Type 0 where
  number : k ≡ place_number place.field
  typ : place.typ ≡ type_of place.field
  once : place.repeats ≡ false

abbrev place_for : InterestField → Place InterestField
place_for f = record { typ = type_of f; field = f; repeats = false }

place_is : (f : InterestField) (place : Place InterestField) → Some (place_for f) ≡ Some place
    → IsPlace (place_number f) place
place_is f place e =
    let same : place_for f ≡ place = cc in
    subst (IsPlace (place_number f)) same (record { number = refl; typ = refl; once = refl })

place_at : (k : ℕ) (place : Place InterestField) → slice_get interest_table k ≡ Some place → IsPlace k place
place_at zero place e = place_is Name place e
place_at (suc zero) place e = place_is CanBePrefix place e
place_at (suc (suc zero)) place e = place_is MustBeFresh place e
place_at (suc (suc (suc zero))) place e = place_is ForwardingHint place e
place_at (suc (suc (suc (suc zero)))) place e = place_is Nonce place e
place_at (suc (suc (suc (suc (suc zero))))) place e = place_is InterestLifetime place e
place_at (suc (suc (suc (suc (suc (suc zero)))))) place e = place_is HopLimit place e
place_at (suc (suc (suc (suc (suc (suc (suc zero))))))) place e = place_is ApplicationParameters place e
place_at (suc (suc (suc (suc (suc (suc (suc (suc zero)))))))) place e = place_is InterestSignatureInfo place e
place_at (suc (suc (suc (suc (suc (suc (suc (suc (suc zero))))))))) place e = place_is InterestSignatureValue place e
place_at (suc (suc (suc (suc (suc (suc (suc (suc (suc (suc k)))))))))) place e = absurd cc

-- ---- what the fields keep true

abbrev Parameters : Type 0
Parameters = ℕ × List ℕ

abbrev Signature : Type 0
Signature = List ℕ × Option (List ℕ)

-- the element of the parameters stands in the packet before an offset
pub record ParametersStand (whole : List ℕ) (start low : ℕ) (p : Parameters) : Type 0 where
  pub after_start : start ≤ p.0
  pub after : List ℕ
  pub parts : drop p.0 whole ≡ element 0x24 p.1 ++ after
  pub ends : p.0 + length (element 0x24 p.1) ≤ low

-- a signature covers the octets from the parameters up to it
pub record Covers (whole : List ℕ) (g : Signature) (p : Parameters) : Type 0 where
  pub portion : List ℕ
  pub more : List ℕ
  pub after : List ℕ
  pub is : g.1 ≡ Some portion
  pub begins : portion ≡ element 0x24 p.1 ++ more
  pub parts : drop p.0 whole ≡ portion ++ (element 0x2e g.0 ++ after)

abbrev pub SignatureStands : List ℕ → Option Parameters → Signature → Type 0
SignatureStands whole parameters g = MatchOption parameters (g.1 ≡ None) (Covers whole g)

pub record Keeps (whole : List ℕ) (start from low : ℕ) (s : InterestSoFar) : Type 0 where
  pub above : start ≤ low
  pub parameters : IfSome s.parameters (ParametersStand whole start low)
  pub signature : IfSome s.signature (SignatureStands whole s.parameters)
  pub last : IfSome s.signature (λ _. 10 ≤ from)

stands_later : (whole : List ℕ) (start low more : ℕ) (p : Option Parameters) → low ≤ more
    → IfSome p (ParametersStand whole start low) → IfSome p (ParametersStand whole start more)
stands_later whole start low more None h s = tt
stands_later whole start low more (Some p) h s =
    record { after_start = s.after_start; after = s.after; parts = s.parts; ends = omega (arith, s.ends) }

later : (whole : List ℕ) (start from low more : ℕ) (s : InterestSoFar) → low ≤ more
    → Keeps whole start from low s → Keeps whole start from more s
later whole start from low more s h j =
    record {
      above = omega (arith, j.above);
      parameters = stands_later whole start low more s.parameters h j.parameters;
      signature = j.signature;
      last = j.last;
    }

abbrev done : InterestSoFar → Result InterestSoFar PacketFault
done s = Ok s

-- what a signature covers
covers : (whole : List ℕ) (start low : ℕ) (p : Option Parameters) (e : Item) → low ≤ e.start → e.typ ≡ 0x2e
    → Stands whole e
    → IfSome p (ParametersStand whole start low)
    → SignatureStands whole p (e.value, option_map (λ (q : Parameters). slice_range whole q.0 e.start) p)
covers whole start low None e le typ stands n = refl
covers whole start low (Some p) e le typ stands n =
    let tail : drop e.start whole ≡ element 0x2e e.value ++ stands.after =
    stands.parts ∙ ap (λ (t : ℕ). element t e.value ++ stands.after) typ in
    let portion = slice_range whole p.0 e.start in
    let first = element 0x24 p.1 in
    let left = e.start - p.0 - length first in
    let long : e.start - p.0 ≡ length first + left = omega (arith, n.ends) in
    record {
      portion = portion;
      more = take left n.after;
      after = stands.after;
      is = refl;
      begins =
          ap (λ (r : List ℕ). take (e.start - p.0) r) n.parts
          ∙ ap (λ (k : ℕ). take k (first ++ n.after)) long
          ∙ take-append-add first n.after left;
      parts = drop_split whole p.0 e.start (omega (arith, n.ends)) ∙ ap (λ (r : List ℕ). portion ++ r) tail;
    }

-- ---- field by field

module _ (whole : List ℕ) (start : ℕ) where
  with_parameters : (from low : ℕ) (s t : InterestSoFar) (e : Item) → from ≤ 7 → e.typ ≡ 0x24
      → Keeps whole start from low s
      → low ≤ e.start → low ≤ e.end → Stands whole e
      → with_interest_field whole s (ApplicationParameters, e) ≡ Ok t → Keeps whole start 8 e.end t
  with_parameters from low s t e le typ j above end stands h =
      let here : ParametersStand whole start e.end (e.start, e.value) = record {
        after_start = omega (arith, j.above);
        after = stands.after;
        parts = stands.parts ∙ ap (λ (k : ℕ). element k e.value ++ stands.after) typ;
        ends = omega (arith, stands.ends, ap (λ (k : ℕ). length (element k e.value)) typ);
      } in
      subst (Keeps whole start 8 e.end) (ok_is (record s { parameters = Some (e.start, e.value) }) t h) (record {
        above = omega (arith, j.above);
        parameters = here;
        signature =
            none_before s.signature 10 (SignatureStands whole (Some (e.start, e.value))) from 7 j.last le (omega arith);
        last = none_before s.signature 10 (λ _. 10 ≤ 8) from 7 j.last le (omega arith);
      })

  -- a field that changes neither the parameters nor the signature
  passes : (from low k : ℕ) (s u t : InterestSoFar) (e : Item) → from ≤ k → k < 9 → Keeps whole start from low s
      → low ≤ e.end → s.parameters ≡ u.parameters → s.signature ≡ u.signature → done u ≡ Ok t
      → Keeps whole start (suc k) e.end t
  passes from low k s u t e le below j above same_parameters same_signature h =
      let P : Option Parameters → Option Signature → Type 0 =
      λ p signature. IfSome p (ParametersStand whole start e.end)
      × IfSome signature (SignatureStands whole p)
      × IfSome signature (λ _. 10 ≤ suc k) in
      let here : P s.parameters s.signature = (
        stands_later whole start low e.end s.parameters above j.parameters,
        j.signature,
        none_before s.signature 10 (λ _. 10 ≤ suc k) from k j.last le (omega arith),
      ) in
      let Q : Option Parameters → Type 0 = λ p. P p s.signature in
      let moved = subst Q same_parameters here in
      let R : Option Signature → Type 0 = λ signature. P u.parameters signature in
      let all = subst R same_signature moved in
      subst (Keeps whole start (suc k) e.end) (ok_is u t h)
      (record { above = omega (arith, j.above); parameters = all.0; signature = all.1; last = all.2 })

  with_signature : (from low : ℕ) (s t : InterestSoFar) (e : Item) → e.typ ≡ 0x2e → Keeps whole start from low s
      → low ≤ e.start → low ≤ e.end → Stands whole e
      → with_interest_field whole s (InterestSignatureValue, e) ≡ Ok t → Keeps whole start 10 e.end t
  with_signature from low s t e typ j above end stands h =
      subst (Keeps whole start 10 e.end)
      (ok_is (record s {
        signature = Some (e.value, option_map (λ (q : Parameters). slice_range whole q.0 e.start) s.parameters);
      }) t h) (record {
        above = omega (arith, j.above);
        parameters = stands_later whole start low e.end s.parameters end j.parameters;
        signature = covers whole start low s.parameters e above typ stands j.parameters;
        last = omega arith;
      })

  with_field : (f : InterestField) (from low : ℕ) (s t : InterestSoFar) (e : Item) → from ≤ place_number f
      → e.typ ≡ type_of f → Keeps whole start from low s
      → low ≤ e.start → e.start < e.value_start → e.value_start + length e.value ≡ e.end → Stands whole e
      → with_interest_field whole s (f, e) ≡ Ok t → Keeps whole start (suc (place_number f)) e.end t
  with_field Name from low s t e le typ j above begins long stands h =
      let b = bind_ok (interest_name_in e) (λ (n : List Component). done (record s { name = Some n })) t h in
      passes from low 0 s (record s { name = Some b.0 }) t e le (omega arith) j (omega arith) refl refl b.2
  with_field CanBePrefix from low s t e le typ j above begins long stands h =
      let b = bind_ok (flag_in field.CanBePrefix e) (λ (x : Bool). done (record s { can_be_prefix = x })) t h in
      passes from low 1 s (record s { can_be_prefix = b.0 }) t e le (omega arith) j (omega arith) refl refl b.2
  with_field MustBeFresh from low s t e le typ j above begins long stands h =
      let b = bind_ok (flag_in field.MustBeFresh e) (λ (x : Bool). done (record s { must_be_fresh = x })) t h in
      passes from low 2 s (record s { must_be_fresh = b.0 }) t e le (omega arith) j (omega arith) refl refl b.2
  with_field ForwardingHint from low s t e le typ j above begins long stands h =
      passes from low 3 s s t e le (omega arith) j (omega arith) refl refl h
  with_field Nonce from low s t e le typ j above begins long stands h =
      let b = bind_ok (nonce_in e) (λ (n : ℕ). done (record s { nonce = Some n })) t h in
      passes from low 4 s (record s { nonce = Some b.0 }) t e le (omega arith) j (omega arith) refl refl b.2
  with_field InterestLifetime from low s t e le typ j above begins long stands h =
      let b = bind_ok (number_in field.InterestLifetime e) (λ (n : ℕ). done (record s { lifetime = Some n })) t h in
      passes from low 5 s (record s { lifetime = Some b.0 }) t e le (omega arith) j (omega arith) refl refl b.2
  with_field HopLimit from low s t e le typ j above begins long stands h =
      let b = bind_ok (hop_limit_in e) (λ (n : ℕ). done (record s { hop_limit = Some n })) t h in
      passes from low 6 s (record s { hop_limit = Some b.0 }) t e le (omega arith) j (omega arith) refl refl b.2
  with_field ApplicationParameters from low s t e le typ j above begins long stands h =
      with_parameters from low s t e le typ j above (omega arith) stands h
  with_field InterestSignatureInfo from low s t e le typ j above begins long stands h =
      let b = bind_ok (info_in e) (λ (i : Info). done (record s { info = Some i })) t h in
      passes from low 8 s (record s { info = Some b.0 }) t e le (omega arith) j (omega arith) refl refl b.2
  with_field InterestSignatureValue from low s t e le typ j above begins long stands h =
      with_signature from low s t e typ j above (omega arith) stands h

  at_place : (from low k : ℕ) (place : Place InterestField) (s t : InterestSoFar) (e : Item) → from ≤ k
      → slice_get interest_table k ≡ Some place → place.typ ≡ e.typ → Keeps whole start from low s
      → low ≤ e.start → e.start < e.value_start → e.value_start + length e.value ≡ e.end → Stands whole e
      → with_interest_field whole s (place.field, e) ≡ Ok t → Keeps whole start (cond place.repeats k (suc k)) e.end t
  at_place from low k place s t e le at same j above begins long stands h =
      let is = place_at k place at in
      let kept =
      with_field place.field from low s t e (omega (arith, is.number)) (sym same ∙ is.typ) j above begins long stands
      h in
      let P : ℕ → Type 0 = λ (n : ℕ). Keeps whole start n e.end t in
      let Q : Bool → Type 0 = λ (b : Bool). Keeps whole start (cond b k (suc k)) e.end t in
      subst Q (sym is.once) (subst P (ap suc (sym is.number)) kept)

-- what the fields of a whole packet come to
pub record Gathers (octets value : List ℕ) (start : ℕ) (s : InterestSoFar) : Type 0 where
  pub low : ℕ
  pub parameters : IfSome s.parameters (ParametersStand octets start low)
  pub signature : IfSome s.signature (SignatureStands octets s.parameters)
  pub at : drop start octets ≡ value

pub interest_gathers : (octets : List ℕ) (e : Item) (s : InterestSoFar) → IsOctets octets
    → octets ≡ element 0x05 e.value → e ≡ placed 0 0x05 e.value → interest_fields octets e ≡ Ok s
    → Gathers octets e.value e.value_start s
interest_gathers octets e s fits whole at h =
    let start : e.value_start ≡ length (head 0x05 (length e.value)) =
    omega (arith, ap (λ (x : Item). x.value_start) at) in
    let value : drop e.value_start octets ≡ e.value =
    ap (λ (n : ℕ). drop n octets) start
    ∙ ap (drop (length (head 0x05 (length e.value)))) whole
    ∙ drop_at (head 0x05 (length e.value)) e.value (length (head 0x05 (length e.value))) refl in
    let octet = IsOctets-after (head 0x05 (length e.value)) e.value (subst IsOctets whole fits) in
    let read = elements e.value_start e.value in
    let are = elements_are e.value_start e.value octet in
    let stand = elements_stand octets e.value_start e.value read.items read.fault value are in
    let first : Keeps octets e.value_start 0 e.value_start no_interest_field =
    record { above = omega arith; parameters = tt; signature = tt; last = tt } in
    let kept =
    keeps interest_table (with_interest_field octets) (e.value_start + length e.value) (Stands octets)
    (Keeps octets e.value_start) (at_place octets e.value_start)
    (λ from low more t le j. later octets e.value_start from low more t le j)
    0 read.items read.fault (fields interest_table read)
    (fields_stand interest_table read.fault read.items 0 interest_table refl) e.value_start no_interest_field s first
    (elements_within_octets e.value_start e.value) stand h in
    record { low = kept.low; parameters = kept.holds.parameters; signature = kept.holds.signature; at = value }

-- ---- the whole packet

digests : (octets value : List ℕ) (start low : ℕ) (i : Interest) (p : Option Parameters) → drop start octets ≡ value
    → i.digested ≡ option_map (λ (q : Parameters). drop q.0 octets) p → IfSome p (ParametersStand octets start low)
    → MatchOption (option_map (λ (q : Parameters). q.1) p) (i.digested ≡ None) (IsDigestedFrom value i)
digests octets value start low i None at is n = is
digests octets value start low i (Some p) at is n =
    let before = slice_range octets start p.0 in
    record {
      before = before;
      after = n.after;
      digested = is ∙ ap (λ (d : List ℕ). Some d) n.parts;
      parts = sym at ∙ drop_split octets start p.0 n.after_start ∙ ap (λ (r : List ℕ). before ++ r) n.parts;
    }

abbrev pair : ℕ → List ℕ → Component
pair t v = (t, v)

signs : (octets : List ℕ) (i : Interest) (name : List Component) (p : Option Parameters) (info : Option Info)
    (g : Option Signature)
    → i.name ≡ name → i.parameters ≡ option_map (λ (q : Parameters). q.1) p
    → i.signature ≡ option_map (λ (q : Signature). q.0) g
    → i.digested ≡ option_map (λ (q : Parameters). drop q.0 octets) p → (is_some p && not (ends_in_digest name)) ≡ false
    → IfSome g (SignatureStands octets p) → IfSome (signed_of name (is_some p && is_some info) g) (IsSignedUpTo i)
signs octets i name None info g a b c d h n = tt
signs octets i name (Some p) None g a b c d h n = tt
signs octets i name (Some p) (Some x) None a b c d h n = tt
signs octets i name (Some p) (Some x) (Some g) a b c d h n =
    let f = found (last_component name) (not-false (ends_in_digest name) h) in
    let last = f.0 in
    let within = slice_get_within name (length name - 1) last f.1 in
    let ends : name ≡ without_last name ++ (2, last.1) ∷ [] =
    split_at name (length name - 1) last (omega (arith, within)) f.1
    ∙ ap (λ (t : ℕ). without_last name ++ pair t last.1 ∷ []) f.2 in
    let here : IsSignedUpTo i (encoding (without_last name), n.portion) = record {
      prefix = without_last name;
      digest = last.1;
      parameters = p.1;
      signature = g.0;
      fields = n.more;
      after = n.after;
      name = a ∙ ends;
      has_parameters = b;
      has_signature = c;
      first = refl;
      second = n.begins;
      digested = d ∙ ap (λ (o : List ℕ). Some o) n.parts;
    } in
    let P : Option (List ℕ) → Type 0 =
    λ o. IfSome (option_map (λ (portion : List ℕ). (encoding (without_last name), portion)) o) (IsSignedUpTo i) in
    subst P (sym n.is) here

abbrev finish : Interest → Result Interest PacketFault
finish i = Ok i

passed : (a b : Bool) (f g : PacketFault) (r i : Interest) → cond a (Err f) (cond b (Err g) (finish r)) ≡ finish i
    → (a ≡ false) × (r ≡ i)
passed true b f g r i h = absurd cc
passed false true f g r i h = absurd cc
passed false false f g r i h = let same : r ≡ i = cc in (refl, same)

abbrev made : List ℕ → InterestSoFar → List Component → Interest
made octets s name =
    record {
      name = name;
      can_be_prefix = s.can_be_prefix;
      must_be_fresh = s.must_be_fresh;
      nonce = s.nonce;
      lifetime = s.lifetime;
      hop_limit = s.hop_limit;
      parameters = option_map (λ (p : Parameters). p.1) s.parameters;
      signature_type = option_map (λ (i : Info). i.signature_type) s.info;
      locator = option_map_or (λ (i : Info). i.locator) s.info None;
      signature = option_map (λ (g : Signature). g.0) s.signature;
      signed = signed_of name (is_some s.parameters && is_some s.info) s.signature;
      digested = option_map (λ (p : Parameters). drop p.0 octets) s.parameters;
    }

pub interest_spelled : (octets : List ℕ) (i : Interest) → IsOctets octets → interest_of octets ≡ Ok i
    → InterestIsSpelled octets i
interest_spelled octets i fits h =
    let b = bind_ok (outer_of 0x05 octets) (λ (e : Item). interest_fields octets e >>= interest_from octets) i h in
    let e = b.0 in
    let outer = outer_ok 0x05 octets e fits b.1 in
    let f = bind_ok (interest_fields octets e) (interest_from octets) i b.2 in
    let s = f.0 in
    let gathers = interest_gathers octets e s fits outer.whole outer.is_placed f.1 in
    let n = bind_ok (ok_or s.name (Missing field.Name)) (interest_named octets s) i f.2 in
    let name = n.0 in
    let ok =
    passed (is_some s.parameters && not (ends_in_digest name)) (is_some s.info && is_none s.signature)
    (Missing field.ParametersDigest) (Missing field.SignatureValue) (made octets s name) i n.2 in
    subst (InterestIsSpelled octets) ok.1 (record {
      value = e.value;
      packet = outer.whole;
      digested =
          digests octets e.value e.value_start gathers.low (made octets s name) s.parameters gathers.at refl
          gathers.parameters;
      signed =
          signs octets (made octets s name) name s.parameters s.info s.signature refl refl refl refl ok.0
          gathers.signature;
    })

-- ---- which Interests count as signed

abbrev pieces : List Component → List ℕ → List ℕ × List ℕ
pieces name portion = (encoding (without_last name), portion)

complete : (octets : List ℕ) (name : List Component) (p : Option Parameters) (info : Option Info) (g : Option Signature)
    → IfSome g (SignatureStands octets p)
    → is_some (signed_of name (is_some p && is_some info) g)
    ≡ (is_some (option_map (λ (q : Parameters). q.1) p) && is_some (option_map (λ (i : Info). i.signature_type) info)
    && is_some (option_map (λ (q : Signature). q.0) g))
complete octets name None info g n = refl
complete octets name (Some p) None g n = refl
complete octets name (Some p) (Some x) None n = refl
complete octets name (Some p) (Some x) (Some g) n =
    ap (λ (o : Option (List ℕ)). is_some (option_map (pieces name) o)) n.is

pub interest_complete : (octets : List ℕ) (i : Interest) → IsOctets octets → interest_of octets ≡ Ok i
    → is_some i.signed ≡ (is_some i.parameters && is_some i.signature_type && is_some i.signature)
interest_complete octets i fits h =
    let b = bind_ok (outer_of 0x05 octets) (λ (e : Item). interest_fields octets e >>= interest_from octets) i h in
    let e = b.0 in
    let outer = outer_ok 0x05 octets e fits b.1 in
    let f = bind_ok (interest_fields octets e) (interest_from octets) i b.2 in
    let s = f.0 in
    let gathers = interest_gathers octets e s fits outer.whole outer.is_placed f.1 in
    let n = bind_ok (ok_or s.name (Missing field.Name)) (interest_named octets s) i f.2 in
    let name = n.0 in
    let ok =
    passed (is_some s.parameters && not (ends_in_digest name)) (is_some s.info && is_none s.signature)
    (Missing field.ParametersDigest) (Missing field.SignatureValue) (made octets s name) i n.2 in
    let P : Interest → Type 0 =
    λ x. is_some x.signed ≡ (is_some x.parameters && is_some x.signature_type && is_some x.signature) in
    subst P ok.1 (complete octets name s.parameters s.info s.signature gathers.signature)
