-- The last component of a name, where it was pushed and where it is a digest.
use Rattle.std.proofs.Common.{◌≡◌, ℕ, zero, suc, ◌-◌, ◌<◌, true, false, eqb, List, [], ◌∷◌, ◌++◌, length, length-append}
use Rattle.std.proofs.Common.{take, take_at, Option, Some, None, slice_get, refl, ap, subst, ◌∙◌, arith}
use Rattle.std.specs.Option.{option_map_or}
use Rattle.std.proofs.lemmas.List.{nil_from_length}
use Rattle.std.proofs.lemmas.Bool.{eqb-true}
use Rattle.ndn_tlv.specs.Spelling.{number, head, element}
use Rattle.ndn_name.specs.Names.{Component, IsComponent, IsName, encoding}
use Rattle.ndn_name.proofs.Encodings.{encoding-push}
use Rattle.ndn_packet.proofs.Ends.{slice_get-push}
use Rattle.ndn_packet.proofs.Lengths.{length-digest_element}
use Rattle.ndn_interest.specs.Interest.{last_component, without_last, ends_in_digest}

-- a name and its last component
pub split_at : (name : List Component) (k : ℕ) (c : Component) → length name ≡ suc k → slice_get name k ≡ Some c
    → name ≡ take k name ++ c ∷ []
split_at [] k c long at = absurd (omega arith)
split_at (d ∷ ds) zero c long at =
    let same : d ≡ c = cc in
    ap (λ (n : List Component). d ∷ n) (nil_from_length ds (omega arith)) ∙ ap (λ (x : Component). x ∷ []) same
split_at (d ∷ ds) (suc k) c long at = ap (λ (n : List Component). d ∷ n) (split_at ds k c (omega arith) at)

component_at : (name : List Component) (k : ℕ) (c : Component) → IsName name → slice_get name k ≡ Some c
    → IsComponent c × (k < length name)
component_at [] k c h at = absurd cc
component_at (d ∷ ds) zero c h at = let same : d ≡ c = cc in (subst IsComponent same h.0, omega arith)
component_at (d ∷ ds) (suc k) c h at = let rest = component_at ds k c h.1 at in (rest.0, omega (arith, rest.1))

-- a component that the test finds
pub found : (o : Option Component) → option_map_or (λ c. eqb c.0 2) o false ≡ true
    → (c : Component) × (o ≡ Some c) × (c.0 ≡ 2)
found None h = absurd cc
found (Some c) h = (c, refl, eqb-true c.0 2 h)

digest_head : head 2 32 ≡ 2 ∷ 32 ∷ []
unfolding number
digest_head = refl

pub digest_spelled : (digest : List ℕ) → length digest ≡ 32 → element 2 digest ≡ 2 ∷ 32 ∷ digest
digest_spelled digest long = ap (λ (n : ℕ). head 2 n ++ digest) long ∙ ap (λ (h : List ℕ). h ++ digest) digest_head

pub record EndsIn (name : List Component) : Type 0 where
  pub digest : List ℕ
  pub long : length digest ≡ 32
  pub parts : name ≡ without_last name ++ (2, digest) ∷ []
  pub spelled : encoding name ≡ encoding (without_last name) ++ element 2 digest
  pub size : length (element 2 digest) ≡ 34

abbrev pair : ℕ → List ℕ → Component
pair t v = (t, v)

pub digest_ends : (name : List Component) → IsName name → ends_in_digest name ≡ true → EndsIn name
digest_ends name valid h =
    let f = found (last_component name) h in
    let c = f.0 in
    let is = component_at name (length name - 1) c valid f.1 in
    let long : length c.1 ≡ 32 = is.0.digest (omega (arith, f.2)) in
    let same : pair c.0 c.1 ≡ pair 2 c.1 = ap (λ (t : ℕ). pair t c.1) f.2 in
    let parts : name ≡ without_last name ++ (2, c.1) ∷ [] =
    split_at name (length name - 1) c (omega (arith, is.1)) f.1
    ∙ ap (λ (x : Component). without_last name ++ x ∷ []) same in
    record {
      digest = c.1;
      long = long;
      parts = parts;
      spelled = ap encoding parts ∙ encoding-push (without_last name) (2, c.1);
      size = length-digest_element 2 c.1 (omega arith) long;
    }

-- ---- a name and a component behind it

last_place : (name : List Component) (c : Component) → length (name ++ c ∷ []) - 1 ≡ length name
last_place name c = omega (arith, length-append name (c ∷ []))

pub last-push : (name : List Component) (c : Component) → last_component (name ++ c ∷ []) ≡ Some c
last-push name c = ap (slice_get (name ++ c ∷ [])) (last_place name c) ∙ slice_get-push name c

pub without-push : (name : List Component) (c : Component) → without_last (name ++ c ∷ []) ≡ name
without-push name c =
    ap (λ (n : ℕ). take n (name ++ c ∷ [])) (last_place name c) ∙ take_at name (c ∷ []) (length name) refl

pub ends-push : (name : List Component) (digest : List ℕ) → ends_in_digest (name ++ (2, digest) ∷ []) ≡ true
ends-push name digest =
    ap (λ (o : Option Component). option_map_or (λ c. eqb c.0 2) o false) (last-push name (2, digest))
