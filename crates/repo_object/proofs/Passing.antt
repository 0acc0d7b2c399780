-- Octets pass for a want exactly where they pass every check.
use Rattle.std.proofs.Common.{◌≡◌, ℕ, Bool, true, false, not, cond, ◌||◌, is_some, eqb, zero, suc, ◌<◌, ◌↔◌, List, []}
use Rattle.std.proofs.Common.{◌∷◌, ◌++◌, length, slice_get, Option, Some, None, option_map, Result, Ok, Err, IsOk, refl}
use Rattle.std.proofs.Common.{sym, ap, subst, ◌∙◌, inl, inr, arith}
use Rattle.std.specs.Prelude.{IsTrue, IsSome, IfSome}
use Rattle.std.specs.Option.{option_and_then}
use Rattle.std.proofs.lemmas.Bool.{and_parts, and_from, eqb-true, eq-eqb, cases_eq, ne_eqb}
use Rattle.std.proofs.lemmas.Bool.Decides.{same_from_decides}
use Rattle.std.proofs.lemmas.List.{append-nil}
use Rattle.std.proofs.lemmas.Option.{same_Some}
use Rattle.std.proofs.lemmas.Slice.Eq.{bytes_eq-Decides}
use Rattle.std.specs.Str.{bytes_eq}
use Rattle.sha2.specs.Sha256.{sha256}
use Rattle.ndn_tlv.specs.Spelling.{element}
use Rattle.ndn_tlv.specs.Listing.{◌>>=◌}
use Rattle.ndn_name.specs.declared.fault.PacketFault.{PacketFault}
use Rattle.ndn_name.specs.Names.{Component, encoding}
use Rattle.ndn_tlv.proofs.Steps.{bind_ok}
use Rattle.ndn_sign.specs.Hmac.{hmac}
use Rattle.ndn_sign.specs.Ring.{NamedKey}
use Rattle.ndn_data.specs.Data.{Data, data_of}
use Rattle.repo_object.specs.declared.part_refusal.PartRefusal.{PartRefusal}
use Rattle.repo_object.specs.declared.part_refusal.PartRefusal.TheVariants.{UnsignedOctets, OtherName, OtherDigest}
use Rattle.repo_object.specs.declared.part_refusal.PartRefusal.TheVariants.{UnknownKey, BadSignature, BadRecord}
use Rattle.repo_object.specs.Records.{record_of, index_of}
use Rattle.repo_object.specs.Wants.{WantedPart}
use Rattle.repo_object.specs.Verdict.{is_all_signed, data_has_name, has_digest, locates, names_key, is_signed_by}
use Rattle.repo_object.specs.Verdict.{may_say, lists_as_many, is_well_stated, packet_verdict, read_packet, part_verdict}
use Rattle.repo_object.specs.Verdict.{Passes, key_at, content_within, stated_in, index_in}

abbrev passed : Data → Result Data PartRefusal
passed d = Ok d

-- ---- the tests, one after another

-- the chain of tests, whatever they are
abbrev chain : Bool → Bool → Bool → Bool → Bool → Bool → Data → Result Data PartRefusal
chain a b c e f g d =
    cond (not a) (Err UnsignedOctets)
    (cond (not b) (Err OtherName)
    (cond (not c) (Err OtherDigest)
    (cond (not e) (Err UnknownKey) (cond (not f) (Err BadSignature) (cond (not g) (Err BadRecord) (passed d))))))

record AllConsistent (a b c e f g : Bool) : Type 0 where
  all_signed : a ≡ true
  name : b ≡ true
  digest : c ≡ true
  key : e ≡ true
  signature : f ≡ true
  listing : g ≡ true

guard : (b : Bool) (r : PartRefusal) (rest : Result Data PartRefusal) (d : Data) → cond (not b) (Err r) rest ≡ Ok d
    → (b ≡ true) × (rest ≡ Ok d)
guard true r rest d e = (refl, e)
guard false r rest d e = absurd cc

chain_passes : (a b c e f g : Bool) (x d : Data) → chain a b c e f g x ≡ Ok d → AllConsistent a b c e f g × (x ≡ d)
chain_passes a b c e f g x d h =
    let h1 =
    guard a UnsignedOctets
    (cond (not b) (Err OtherName)
    (cond (not c) (Err OtherDigest)
    (cond (not e) (Err UnknownKey) (cond (not f) (Err BadSignature) (cond (not g) (Err BadRecord) (passed x)))))) d h in
    let h2 =
    guard b OtherName
    (cond (not c) (Err OtherDigest)
    (cond (not e) (Err UnknownKey) (cond (not f) (Err BadSignature) (cond (not g) (Err BadRecord) (passed x))))) d
    h1.1 in
    let h3 =
    guard c OtherDigest
    (cond (not e) (Err UnknownKey) (cond (not f) (Err BadSignature) (cond (not g) (Err BadRecord) (passed x)))) d
    h2.1 in
    let h4 = guard e UnknownKey (cond (not f) (Err BadSignature) (cond (not g) (Err BadRecord) (passed x))) d h3.1 in
    let h5 = guard f BadSignature (cond (not g) (Err BadRecord) (passed x)) d h4.1 in
    let h6 = guard g BadRecord (passed x) d h5.1 in (
      record { all_signed = h1.0; name = h2.0; digest = h3.0; key = h4.0; signature = h5.0; listing = h6.0 },
      same x d h6.1,
    )
  where
    same : (x d : Data) → passed x ≡ passed d → x ≡ d
    same x d e = cc

all_pass : (a b c e f g : Bool) (d : Data) → AllConsistent a b c e f g → chain a b c e f g d ≡ Ok d
all_pass a b c e f g d h = rw (h.all_signed, h.name, h.digest, h.key, h.signature, h.listing) refl

-- ---- what the tests mean

abbrev is_mac : List ℕ → List ℕ → List ℕ → Bool
is_mac key signed mac = bytes_eq (hmac key signed) mac

-- a mac that the ring says is that of a message
pub mac_is : (ring : List NamedKey) (n : ℕ) (signed mac : List ℕ) (b : Bool) → n < length ring
    → ((b ≡ true) ↔ (option_map (λ (p : NamedKey). hmac p.key (signed ++ [])) (slice_get ring n) ≡ Some mac))
    → b ≡ is_mac (key_at ring n).key signed mac
mac_is [] n signed mac b low is = absurd (omega arith)
mac_is (p ∷ ps) zero signed mac b low is =
    let all = ap (hmac p.key) (append-nil signed) in
    same_from_decides b (is_mac p.key signed mac) (
      λ yes. sym all ∙ same_Some (hmac p.key (signed ++ [])) mac (is.0 yes),
      λ e. is.1 (ap some_octets (all ∙ e)),
    ) (bytes_eq-Decides (hmac p.key signed) mac)
  where
    some_octets : List ℕ → Option (List ℕ)
    some_octets octets = Some octets
mac_is (p ∷ ps) (suc n) signed mac b low is = mac_is ps n signed mac b (omega arith) is

digest_is : (digest : Option (List ℕ)) (octets : List ℕ) → has_digest digest octets ≡ true
    → IfSome digest (λ d. sha256 octets ≡ d)
digest_is None octets h = tt
digest_is (Some d) octets h = (bytes_eq-Decides (sha256 octets) d).0 h

is_digest : (digest : Option (List ℕ)) (octets : List ℕ) → IfSome digest (λ d. sha256 octets ≡ d)
    → has_digest digest octets ≡ true
is_digest None octets h = refl
is_digest (Some d) octets h = (bytes_eq-Decides (sha256 octets) d).1 h

located_at : (key_name : List ℕ) (locator : Option (List Component)) → locates key_name locator ≡ true
    → (name : List Component) × (locator ≡ Some name) × (encoding name ≡ key_name)
located_at key_name None h = absurd cc
located_at key_name (Some name) h = (name, refl, (bytes_eq-Decides (encoding name) key_name).0 h)

record_says : (part : ℕ) (b : Bool) → (not (eqb part 0) || b) ≡ true → part ≡ 0 → b ≡ true
record_says part b h first = rw (eq-eqb part 0 first) at h

says_record : (part : ℕ) (b : Bool) → (part ≡ 0 → b ≡ true) → (not (eqb part 0) || b) ≡ true
says_record part b h =
    elim (cases_eq part 0) [
      | inl first ↦ rw (eq-eqb part 0 first) (h first)
      | inr other ↦ rw (ne_eqb part 0 other) refl
    ]

index_lists : (count : Option ℕ) (content : List ℕ) → lists_as_many count content ≡ true
    → IfSome count (λ n. IsSome (index_of content n))
index_lists None content h = tt
index_lists (Some n) content h = found (index_of content n) h where
  found : (o : Option (List (List ℕ))) → is_some o ≡ true → IsSome o
  found None h = absurd cc
  found (Some digests) h = refl

lists_index : (count : Option ℕ) (content : List ℕ) → IfSome count (λ n. IsSome (index_of content n))
    → lists_as_many count content ≡ true
lists_index None content h = refl
lists_index (Some n) content h = found (index_of content n) h where
  found : (o : Option (List (List ℕ))) → IsSome o → is_some o ≡ true
  found None h = absurd cc
  found (Some digests) h = refl

read_ok : (r : Result Data PacketFault) (d : Data) → read_packet r ≡ Ok d → r ≡ Ok d
read_ok (Ok x) d e = cc
read_ok (Err fault) d e = absurd cc

pub passes : (want : WantedPart) (key_name key octets : List ℕ) (d : Data)
    → part_verdict want key_name key octets ≡ Ok d → Passes want key_name key octets d
passes want key_name key octets d h =
    let b = bind_ok (read_packet (data_of octets)) (packet_verdict want key_name key octets) d h in
    let x = b.0 in
    let all =
    chain_passes (is_all_signed x) (data_has_name want.name x) (has_digest want.digest octets) (names_key key_name x)
    (is_signed_by key x) (is_well_stated want x) x d b.2 in
    let key_parts = and_parts (eqb x.signature_type 4) (locates key_name x.locator) all.0.key in
    let found = located_at key_name x.locator key_parts.1 in
    let may = may_say want.part.seq (record_of x.content) in
    let well = and_parts (not (eqb want.part.part 0) || may) (lists_as_many want.lists x.content) all.0.listing in
    subst (Passes want key_name key octets) all.1 (record {
      read = read_ok (data_of octets) x b.1;
      all_signed = (bytes_eq-Decides x.value (x.signed ++ element 0x17 x.signature)).0 all.0.all_signed;
      name = (bytes_eq-Decides (encoding x.name) (encoding want.name)).0 all.0.name;
      digest = digest_is want.digest octets all.0.digest;
      signature_type = eqb-true x.signature_type 4 key_parts.0;
      locator = found.0;
      located = found.1;
      key_named = found.2;
      signature = sym ((bytes_eq-Decides (hmac key x.signed) x.signature).0 all.0.signature);
      stated = record_says want.part.part may well.0;
      listing = index_lists want.lists x.content well.1;
    })

pub verdict_of : (want : WantedPart) (key_name key octets : List ℕ) (d : Data) → Passes want key_name key octets d
    → part_verdict want key_name key octets ≡ Ok d
verdict_of want key_name key octets d p =
    let located : locates key_name d.locator ≡ true =
    ap (locates key_name) p.located ∙ (bytes_eq-Decides (encoding p.locator) key_name).1 p.key_named in
    let may = may_say want.part.seq (record_of d.content) in
    ap (λ (r : Result Data PacketFault). read_packet r >>= packet_verdict want key_name key octets) p.read
    ∙ all_pass (is_all_signed d) (data_has_name want.name d) (has_digest want.digest octets) (names_key key_name d)
    (is_signed_by key d) (is_well_stated want d) d (record {
      all_signed = (bytes_eq-Decides d.value (d.signed ++ element 0x17 d.signature)).1 p.all_signed;
      name = (bytes_eq-Decides (encoding d.name) (encoding want.name)).1 p.name;
      digest = is_digest want.digest octets p.digest;
      key =
          and_from (eqb d.signature_type 4) (locates key_name d.locator) (eq-eqb d.signature_type 4 p.signature_type)
          located;
      signature = (bytes_eq-Decides (hmac key d.signed) d.signature).1 (sym p.signature);
      listing =
          and_from (not (eqb want.part.part 0) || may) (lists_as_many want.lists d.content)
          (says_record want.part.part may p.stated) (lists_index want.lists d.content p.listing);
    })

pub passing_is_ok : (want : WantedPart) (key_name key octets : List ℕ) (d : Data) → Passes want key_name key octets d
    → IsOk (part_verdict want key_name key octets)
passing_is_ok want key_name key octets d p = rw (verdict_of want key_name key octets d p) refl

-- ---- what octets that pass say

pub passing_stated : (want : WantedPart) (key_name key octets : List ℕ) → IsOk (part_verdict want key_name key octets)
    → want.part.part ≡ 0 → IsTrue (may_say want.part.seq (stated_in octets))
passing_stated want key_name key octets = go (part_verdict want key_name key octets) refl where
  go : (r : Result Data PartRefusal) → part_verdict want key_name key octets ≡ r → IsOk r
      → want.part.part ≡ 0 → IsTrue (may_say want.part.seq (stated_in octets))
  go (Ok d) e ok first =
      let p = passes want key_name key octets d e in
      ap (λ (r : Result Data PacketFault). may_say want.part.seq (option_and_then record_of (content_within r))) p.read
      ∙ p.stated first
  go (Err refusal) e ok first = absurd cc

pub passing_index : (want : WantedPart) (key_name key octets : List ℕ) → IsOk (part_verdict want key_name key octets)
    → IfSome want.lists (λ count. IsSome (index_in octets count))
passing_index want key_name key octets = go (part_verdict want key_name key octets) refl where
  go : (r : Result Data PartRefusal) → part_verdict want key_name key octets ≡ r → IsOk r
      → IfSome want.lists (λ count. IsSome (index_in octets count))
  go (Ok d) e ok =
      let p = passes want key_name key octets d e in
      let in_packet : Result Data PacketFault → ℕ → Option (List (List ℕ)) =
      λ r count. option_and_then (λ (content : List ℕ). index_of content count) (content_within r) in
      let P : Result Data PacketFault → Type 0 = λ r. IfSome want.lists (λ count. IsSome (in_packet r count)) in
      subst P (sym p.read) p.listing
  go (Err refusal) e ok = absurd cc
