-- What the tests of digest and signature say, and who signed an Interest.
use Rattle.std.proofs.Common.{◌≡◌, ◌↔◌, ℕ, zero, suc, ◌<◌, Bool, true, false, eqb, List, [], ◌∷◌, ◌++◌, length}
use Rattle.std.proofs.Common.{slice_get, Option, Some, None, Result, Ok, refl, sym, ap, ◌∙◌, arith}
use Rattle.std.specs.Option.{option_map_or}
use Rattle.std.specs.Prelude.{MatchOption, ok_or}
use Rattle.std.specs.Str.{bytes_eq}
use Rattle.std.proofs.lemmas.Bool.{and_parts, and_from, eqb-true, eq-eqb}
use Rattle.std.proofs.lemmas.Slice.Eq.{bytes_eq-Decides}
use Rattle.sha2.specs.Sha256.{sha256}
use Rattle.ndn_tlv.specs.Listing.{◌>>=◌}
use Rattle.ndn_tlv.proofs.Steps.{bind_ok}
use Rattle.ndn_name.specs.Names.{Component, encoding}
use Rattle.ndn_sign.specs.Hmac.{hmac}
use Rattle.ndn_sign.specs.Ring.{NamedKey, key_number, pair}
use Rattle.ndn_interest.specs.Interest.{Interest, IsDigested, last_component}
use Rattle.ndn_interest.specs.declared.signature_error.SignatureError.{SignatureError}
use Rattle.ndn_interest.specs.declared.signature_error.SignatureError.TheVariants.{Unsigned, ParamsDigest}
use Rattle.ndn_interest.specs.declared.signature_error.SignatureError.TheVariants.{UnknownKey, BadSignature}
use Rattle.ndn_interest.specs.Signer.{ensured, is_digest_of, has_its_digest, located_key, is_mac, is_signed, signer_of}
use Rattle.ndn_interest.specs.WrittenInterest.{written_signed_parameters, written_digested, read_signed}
use Rattle.ndn_interest.proofs.LastLemmas.{last-push}

-- ---- the digest

abbrev component : ℕ → List ℕ → Option Component
component typ value = Some (typ, value)

digest_tested : (octets : List ℕ) (last : Option Component)
    → (is_digest_of octets last ≡ true) ↔ (last ≡ Some (2, sha256 octets))
digest_tested octets None = (λ h. absurd cc, λ h. absurd cc)
digest_tested octets (Some last) = (
  λ h. (let tests = and_parts (eqb last.0 2) (bytes_eq last.1 (sha256 octets)) h in
      let typ = eqb-true last.0 2 tests.0 in
      let value = (bytes_eq-Decides last.1 (sha256 octets)).0 tests.1 in
      ap (λ (t : ℕ). component t last.1) typ ∙ ap (component 2) value),
  λ same. (let typ : last.0 ≡ 2 = cc in
      let value : last.1 ≡ sha256 octets = cc in
      and_from (eqb last.0 2) (bytes_eq last.1 (sha256 octets)) (eq-eqb last.0 2 typ)
      ((bytes_eq-Decides last.1 (sha256 octets)).1 value)),
)

digested : (o : Option (List ℕ)) (last : Option Component)
    → (option_map_or (λ octets. is_digest_of octets last) o false ≡ true)
    ↔ MatchOption o ⊥ (λ octets. last ≡ Some (2, sha256 octets))
digested None last = (λ h. absurd cc, λ h. absurd h)
digested (Some octets) last = digest_tested octets last

pub digest_is_tested : (i : Interest) → (has_its_digest i ≡ true) ↔ IsDigested i
digest_is_tested i = digested i.digested (last_component i.name)

-- ---- the signature

abbrev IsMac : List ℕ × List ℕ → Option NamedKey → Option (List ℕ) → Type 0
IsMac signed o signature =
    (pair : NamedKey) × (o ≡ Some pair) × (signature ≡ Some (hmac pair.key (signed.0 ++ signed.1)))

mac_tested : (signed : List ℕ × List ℕ) (o : Option NamedKey) (signature : Option (List ℕ))
    → (option_map_or (is_mac signed o) signature false ≡ true) ↔ IsMac signed o signature
mac_tested signed o None = (λ h. absurd cc, λ is. absurd cc)
mac_tested signed None (Some mac) = (λ h. absurd cc, λ is. absurd cc)
mac_tested signed (Some pair) (Some mac) = (
  λ h. (
    pair,
    refl,
    ap (λ (m : List ℕ). Some m) (sym ((bytes_eq-Decides (hmac pair.key (signed.0 ++ signed.1)) mac).0 h)),
  ),
  λ is. (let same : pair ≡ is.0 = cc in
      let value : mac ≡ hmac is.0.key (signed.0 ++ signed.1) = cc in
      (bytes_eq-Decides (hmac pair.key (signed.0 ++ signed.1)) mac).1
      (ap (λ (p : NamedKey). hmac p.key (signed.0 ++ signed.1)) same ∙ sym value)),
)

pub signature_is_tested : (ring : List NamedKey) (signer : ℕ) (signed : List ℕ × List ℕ) (i : Interest)
    → (is_signed ring signer signed i ≡ true) ↔ IsMac signed (slice_get ring signer) i.signature
signature_is_tested ring signer signed i = mac_tested signed (slice_get ring signer) i.signature

-- ---- the signer is of the ring

there : (ring : List NamedKey) (n : ℕ) (pair : NamedKey) → slice_get ring n ≡ Some pair → n < length ring
there [] n pair e = absurd cc
there (p ∷ ps) zero pair e = omega arith
there (p ∷ ps) (suc n) pair e = omega (arith, there ps n pair e)

mac_there : (ring : List NamedKey) (n : ℕ) (signed : List ℕ × List ℕ) (o : Option NamedKey)
    (signature : Option (List ℕ))
    → slice_get ring n ≡ o
    → option_map_or (is_mac signed o) signature false ≡ true → n < length ring
mac_there ring n signed None None e h = absurd cc
mac_there ring n signed None (Some mac) e h = absurd cc
mac_there ring n signed (Some pair) signature e h = there ring n pair e

abbrev signs : {A : Type 0} → A → Result A SignatureError
signs x = Ok x

signs_is : {A : Type 0} (x y : A) → signs x ≡ signs y → x ≡ y
signs_is x y e = cc

ensured_true : (b : Bool) (refusal : SignatureError) → (u : Unit {0}) → ensured b refusal ≡ Ok u → b ≡ true
ensured_true true refusal u e = refl
ensured_true false refusal u e = absurd cc

pub signer_there : (ring : List NamedKey) (i : Interest) (number : ℕ) → signer_of ring i ≡ Ok number
    → number < length ring
signer_there ring i number e =
    let a =
    bind_ok (ok_or i.signed Unsigned)
    (λ signed. ensured (has_its_digest i) ParamsDigest
    >>= λ u. ok_or (located_key ring i.signature_type i.locator) UnknownKey
    >>= λ signer. ensured (is_signed ring signer signed i) BadSignature >>= λ v. signs signer) number e in
    let b =
    bind_ok (ensured (has_its_digest i) ParamsDigest)
    (λ u. ok_or (located_key ring i.signature_type i.locator) UnknownKey
    >>= λ signer. ensured (is_signed ring signer a.0 i) BadSignature >>= λ v. signs signer) number a.2 in
    let d =
    bind_ok (ok_or (located_key ring i.signature_type i.locator) UnknownKey)
    (λ signer. ensured (is_signed ring signer a.0 i) BadSignature >>= λ v. signs signer) number b.2 in
    let f = bind_ok (ensured (is_signed ring d.0 a.0 i) BadSignature) (λ v. signs d.0) number d.2 in
    let same : d.0 ≡ number = signs_is d.0 number f.2 in
    let small =
    mac_there ring d.0 a.0 (slice_get ring d.0) i.signature refl
    (ensured_true (is_signed ring d.0 a.0 i) BadSignature f.0 f.1) in
    omega (arith, same, small)

-- ---- the signer of what was written

pub signer_again : (name key_name : List Component) (parameters key : List ℕ) (ring : List NamedKey) (signer : ℕ)
    → key_number (encoding key_name) ring ≡ Some signer → slice_get ring signer ≡ Some (pair (encoding key_name) key)
    → signer_of ring (read_signed name parameters key_name key) ≡ Ok signer
signer_again name key_name parameters key ring signer found at =
    let digest = sha256 (written_digested name parameters key_name key) in
    let mac = hmac key (encoding name ++ written_signed_parameters parameters key_name) in
    let same_digest : bytes_eq digest digest ≡ true = (bytes_eq-Decides digest digest).1 refl in
    let same_mac : bytes_eq mac mac ≡ true = (bytes_eq-Decides mac mac).1 refl in
    rw (last-push name (2, digest), same_digest, found, at, same_mac) refl
