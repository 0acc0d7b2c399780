-- The names of sync Interests, as octets.
use Rattle.std.proofs.Common.{◌≡◌, ◌↔◌, ℕ, zero, suc, true, List, [], ◌∷◌, ◌++◌, length}
use Rattle.std.proofs.Common.{append_assoc, refl}
use Rattle.std.proofs.Common.{sym, ap, subst, ◌∙◌, arith}
use Rattle.std.proofs.lemmas.Bool.{and_parts, and_from}
use Rattle.std.proofs.lemmas.Slice.Eq.{bytes_eq-Decides}
use Rattle.ndn_tlv.specs.Spelling.{number, element}
use Rattle.ndn_tlv.specs.Elements.{IsOctets}
use Rattle.ndn_name.specs.Names.{Component, IsComponent, IsName, encoding}
use Rattle.ndn_name.proofs.Encodings.{encoding-push, encoding-same, IsName-append, IsOctets-after}
use Rattle.ndn_interest.specs.Interest.{without_last, ends_in_digest}
use Rattle.ndn_interest.proofs.LastLemmas.{digest_spelled, digest_ends, without-push, ends-push}
use Rattle.svs_vector.specs.Rosters.{has_same_octets}
use Rattle.svs_sync.proofs.OctetLemmas.{IsOctets-encoding}
use Rattle.svs_sync.specs.SyncInterest.{sync_name, is_sync_name}

-- what stands between the group's name and the octets of the digest
abbrev pub between : List ℕ
between = 0x36 ∷ 1 ∷ 2 ∷ 2 ∷ 32 ∷ []

version_spelled : element 0x36 (2 ∷ []) ≡ 0x36 ∷ 1 ∷ 2 ∷ []
unfolding number
version_spelled = refl

-- the group's name, the version and a digest, as octets
pub spelled : (group : List Component) (digest : List ℕ) → length digest ≡ 32
    → encoding (sync_name group ++ (2, digest) ∷ []) ≡ encoding group ++ (between ++ digest)
spelled group digest long =
    encoding-push (sync_name group) (2, digest)
    ∙ ap (λ (o : List ℕ). o ++ element 2 digest) (encoding-push group (0x36, 2 ∷ []))
    ∙ rw (version_spelled, digest_spelled digest long)
    (append_assoc (encoding group) (0x36 ∷ 1 ∷ 2 ∷ []) (2 ∷ 32 ∷ digest))

two : IsOctets (2 ∷ [])
two zero = omega arith
two (suc i) = omega arith

pub version : IsComponent (0x36, 2 ∷ [])
version = record {
  above = omega arith;
  below = omega arith;
  digest = λ h. absurd (omega (arith, h));
  long = omega arith;
  octets = two;
}

pub is_sync_name-made : (group : List Component) (digest : List ℕ)
    → is_sync_name group (sync_name group ++ (2, digest) ∷ []) ≡ true
is_sync_name-made group digest =
    let prefix = sync_name group in
    let last : Component = (2, digest) in
    and_from (has_same_octets (without_last (prefix ++ last ∷ [])) prefix) (ends_in_digest (prefix ++ last ∷ []))
    (rw (without-push prefix last) ((bytes_eq-Decides (encoding prefix) (encoding prefix)).1 refl))
    (ends-push prefix digest)

-- ---- the test of the octets

pub named : (group name : List Component) (digest : List ℕ) → IsName group → IsName name
    → encoding name ≡ encoding group ++ (between ++ digest) → length digest ≡ 32
    → name ≡ sync_name group ++ (2, digest) ∷ []
named group name digest valid_group valid same long =
    let prefix = sync_name group in
    let last : Component = (2, digest) in
    let octets =
    IsOctets-after between digest
    (IsOctets-after (encoding group) (between ++ digest) (subst IsOctets same (IsOctets-encoding name valid))) in
    let good : IsComponent last = record {
      above = omega arith;
      below = omega arith;
      digest = λ h. long;
      long = omega (arith, long);
      octets = octets;
    } in
    encoding-same name (prefix ++ last ∷ []) valid
    (IsName-append prefix (last ∷ []) (IsName-append group ((0x36, 2 ∷ []) ∷ []) valid_group (version, tt)) (good, tt))
    (same ∙ sym (spelled group digest long))

pub is_of_group : (group name : List Component) (digest : List ℕ) → IsName group → IsName name
    → encoding name ≡ encoding group ++ (between ++ digest) → length digest ≡ 32 → is_sync_name group name ≡ true
is_of_group group name digest valid_group valid same long =
    rw (named group name digest valid_group valid same long) (is_sync_name-made group digest)

pub record HasDigest (group name : List Component) : Type 0 where
  pub digest : List ℕ
  pub long : length digest ≡ 32
  pub octets : encoding name ≡ encoding group ++ (between ++ digest)

pub has_digest : (group name : List Component) → IsName name → is_sync_name group name ≡ true → HasDigest group name
has_digest group name valid h =
    let tests = and_parts (has_same_octets (without_last name) (sync_name group)) (ends_in_digest name) h in
    let ends = digest_ends name valid tests.1 in
    let prefix : encoding (without_last name) ≡ encoding (sync_name group) =
    (bytes_eq-Decides (encoding (without_last name)) (encoding (sync_name group))).0 tests.0 in
    record {
      digest = ends.digest;
      long = ends.long;
      octets =
          ends.spelled
          ∙ ap (λ (o : List ℕ). o ++ element 2 ends.digest) prefix
          ∙ sym (encoding-push (sync_name group) (2, ends.digest))
          ∙ spelled group ends.digest ends.long;
    }

-- ---- answers of the test

-- ---- the name that the test takes

abbrev IsNamed : List Component → List Component → Type 0
IsNamed group name = (digest : List ℕ) × (name ≡ group ++ (0x36, 2 ∷ []) ∷ (2, digest) ∷ [])

regrouped : (group : List Component) (digest : List ℕ)
    → sync_name group ++ (2, digest) ∷ [] ≡ group ++ (0x36, 2 ∷ []) ∷ (2, digest) ∷ []
regrouped group digest = append_assoc group ((0x36, 2 ∷ []) ∷ []) ((2, digest) ∷ [])

pub name_is_tested : (group name : List Component) → IsName group → IsName name
    → (is_sync_name group name ≡ true) ↔ IsNamed group name
name_is_tested group name valid_group valid = (
  λ yes. (let d = has_digest group name valid yes in
      (d.digest, named group name d.digest valid_group valid d.octets d.long ∙ regrouped group d.digest)),
  λ is. rw (is.1 ∙ sym (regrouped group is.0)) (is_sync_name-made group is.0),
)
