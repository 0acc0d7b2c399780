-- The encoding of a name is read back, and what is read is an encoding.
use Rattle.std.proofs.Common.{◌≡◌, ℕ, ◌+◌, ◌^◌, ◌<◌, ◌≤◌, Bool, true, false, not, cond, ◌&&◌, ltb, leb, eqb, List, []}
use Rattle.std.proofs.Common.{◌∷◌, ◌++◌, length, length-append, map, Option, Some, None, Result, Ok, Err, refl, sym, ap}
use Rattle.std.proofs.Common.{subst, ◌∙◌, append_assoc, arith, inl, inr}
use Rattle.std.proofs.lemmas.Bool.{cases_lt, ltb-false, leb-true, le-leb, le-ltb, eqb-true}
use Rattle.std.proofs.lemmas.List.{append-nil, take_at, drop_at}
use Rattle.ndn_tlv.specs.declared.tlv_fault.TlvFault.{TlvFault}
use Rattle.ndn_tlv.specs.Spelling.{number, element}
use Rattle.ndn_tlv.specs.Listing.{Listing, ◌>>=◌, gather, gathered}
use Rattle.ndn_tlv.specs.Elements.{IsOctets, Item, placed, elements, AreElements}
use Rattle.ndn_tlv.proofs.Numbers.{IsOctets-drop, IsOctets-take, number-narrow, number-16, number-32, number-64}
use Rattle.ndn_tlv.proofs.Listings.{elements-nil, elements-element, elements_are}
use Rattle.ndn_tlv.proofs.Steps.{guard_ok, bind_ok, ok_is}
use Rattle.ndn_name.specs.declared.name_fault.NameFault.{NameFault}
use Rattle.ndn_name.specs.declared.name_fault.NameFault.TheVariants.{Tlv, BadComponent, BadDigestLength}
use Rattle.ndn_name.specs.Names.{Component, IsComponent, IsName, IsValue, encoding, component_of, with_component}
use Rattle.ndn_name.specs.Names.{name_of, components}

abbrev pub pairs : List Item → List Component
pairs es = map (λ (e : Item). (e.typ, e.value)) es

-- ---- encodings

pub encoding-nil : encoding [] ≡ []
unfolding encoding
encoding-nil = refl

pub encoding-append : (a b : List Component) → encoding (a ++ b) ≡ encoding a ++ encoding b
unfolding encoding
encoding-append [] b = refl
encoding-append (c ∷ cs) b =
    ap (λ (x : List ℕ). element c.0 c.1 ++ x) (encoding-append cs b)
    ∙ sym (append_assoc (element c.0 c.1) (encoding cs) (encoding b))

pub encoding-push : (a : List Component) (c : Component) → encoding (a ++ c ∷ []) ≡ encoding a ++ element c.0 c.1
unfolding encoding
encoding-push a c = encoding-append a (c ∷ []) ∙ ap (λ (x : List ℕ). encoding a ++ x) (append-nil (element c.0 c.1))

pub IsName-append : (a b : List Component) → IsName a → IsName b → IsName (a ++ b)
IsName-append [] b h k = k
IsName-append (c ∷ cs) b h k = (h.0, IsName-append cs b h.1 k)

-- ---- what was encoded is read

pub record Reads (name : List Component) (read : Listing Item TlvFault) : Type 0 where
  pub items : pairs read.items ≡ name
  pub fault : read.fault ≡ None

pub elements-encoding : (offset : ℕ) (name : List Component) → IsName name
    → Reads name (elements offset (encoding name))
unfolding encoding
elements-encoding offset [] h =
    let e = elements-nil offset [] refl in
    record {
      items = ap (λ (l : Listing Item TlvFault). pairs l.items) e;
      fault = ap (λ (l : Listing Item TlvFault). l.fault) e;
    }
elements-encoding offset (c ∷ cs) h =
    let first = h.0 in
    let small : c.0 < 2 ^ 32 = omega (arith, first.below) in
    let e = elements-element offset c.0 c.1 (encoding cs) first.above small first.long in
    let following = offset + length (element c.0 c.1) in
    let others = elements-encoding following cs h.1 in
    record {
      items = ap (λ (l : Listing Item TlvFault). pairs l.items) e ∙ ap (λ (x : List Component). c ∷ x) others.items;
      fault = ap (λ (l : Listing Item TlvFault). l.fault) e ∙ others.fault;
    }

pub components-encoding : (name : List Component) → IsName name → components (encoding name) ≡ name
components-encoding name h = (elements-encoding 0 name h).items

abbrev taken : Item → Result Component NameFault
taken e = Ok (e.typ, e.value)

component_again : (e : Item) → IsComponent (e.typ, e.value) → component_of e ≡ Ok (e.typ, e.value)
component_again e h =
    let small : ltb 65535 e.typ ≡ false = le-ltb 65535 e.typ (omega (arith, h.below)) in
    rw small (digest (leb e.typ 2) refl)
  where
    digest : (b : Bool) → leb e.typ 2 ≡ b
        → cond (b && not (eqb (length e.value) 32)) (Err (BadDigestLength e.start)) (taken e) ≡ taken e
    digest true k = let len : length e.value ≡ 32 = h.digest (leb-true e.typ 2 k) in rw len refl
    digest false k = refl

pub gathered-encoding : (offset : ℕ) (prefix name : List Component) → IsName name
    → gathered with_component Tlv prefix (elements offset (encoding name)) ≡ Ok (prefix ++ name)
unfolding gather encoding
gathered-encoding offset prefix [] h =
    ap (gathered with_component Tlv prefix) (elements-nil offset [] refl)
    ∙ ap (λ (n : List Component). Ok n) (sym (append-nil prefix))
gathered-encoding offset prefix (c ∷ cs) h =
    let first = h.0 in
    let small : c.0 < 2 ^ 32 = omega (arith, first.below) in
    let e = elements-element offset c.0 c.1 (encoding cs) first.above small first.long in
    let following = offset + length (element c.0 c.1) in
    let item = placed offset c.0 c.1 in
    let step : with_component prefix item ≡ Ok (prefix ++ c ∷ []) =
    ap (λ (r : Result Component NameFault).
    r >>= λ d. let x : Result (List Component) NameFault = Ok (prefix ++ d ∷ []) in x) (component_again item first) in
    ap (gathered with_component Tlv prefix) e
    ∙ ap (λ (r : Result (List Component) NameFault).
    r >>= λ t. gathered with_component Tlv t (elements following (encoding cs))) step
    ∙ gathered-encoding following (prefix ++ c ∷ []) cs h.1
    ∙ ap (λ (n : List Component). Ok n) (append_assoc prefix (c ∷ []) cs)

pub name_of-encoding : (offset : ℕ) (name : List Component) → IsName name → name_of offset (encoding name) ≡ Ok name
name_of-encoding offset name h = gathered-encoding offset [] name h

-- ---- what is read was encoded

abbrev pub done : {A : Type 0} → A → Result A NameFault
done x = Ok x

component_takes : (e : Item) (c : Component) → component_of e ≡ Ok c → 0 < e.typ → length e.value < 2 ^ 64
    → IsOctets e.value → ((e.typ, e.value) ≡ c) × IsComponent (e.typ, e.value)
component_takes e c h above long octets =
    let a =
    guard_ok (ltb 65535 e.typ) (BadComponent e.start)
    (cond (leb e.typ 2 && not (eqb (length e.value) 32)) (Err (BadDigestLength e.start)) (taken e)) c h in
    let b = guard_ok (leb e.typ 2 && not (eqb (length e.value) 32)) (BadDigestLength e.start) (taken e) c a.1 in
    let small : e.typ ≤ 65535 = ltb-false 65535 e.typ a.0 in (
      ok_is (e.typ, e.value) c b.1,
      record { above = above; below = omega arith; digest = digest b.0; long = long; octets = octets },
    )
  where
    digest : (leb e.typ 2 && not (eqb (length e.value) 32)) ≡ false → e.typ ≤ 2 → length e.value ≡ 32
    digest k low =
        eqb-true (length e.value) 32 (sized (leb e.typ 2) (eqb (length e.value) 32) k (le-leb e.typ 2 low)) where
          sized : (p q : Bool) → (p && not q) ≡ false → p ≡ true → q ≡ true
          sized true true k h = refl
          sized true false k h = absurd cc
          sized false q k h = absurd cc

pub IsOctets-after : (a b : List ℕ) → IsOctets (a ++ b) → IsOctets b
IsOctets-after a b h = rw (drop_at a b (length a) refl) at (IsOctets-drop (length a) (a ++ b) h)

pub IsOctets-before : (a b : List ℕ) → IsOctets (a ++ b) → IsOctets a
IsOctets-before a b h = rw (take_at a b (length a) refl) at (IsOctets-take (length a) (a ++ b) h)

pub record Encoded (octets : List ℕ) (prefix name : List Component) : Type 0 where
  pub whole : List Component
  pub parts : prefix ++ whole ≡ name
  pub valid : IsName whole
  pub spelled : octets ≡ encoding whole

whole_is : (prefix : List Component) (c : Component) (whole name : List Component) → (prefix ++ c ∷ []) ++ whole ≡ name
    → prefix ++ c ∷ whole ≡ name
whole_is prefix c whole name e = sym (append_assoc prefix (c ∷ []) whole) ∙ e

gather_encoded : (offset : ℕ) (octets : List ℕ) (items : List Item) (fault : Option TlvFault)
    (prefix name : List Component)
    → IsOctets octets → length octets < 2 ^ 64 → AreElements offset octets items fault
    → gather with_component Tlv prefix items fault ≡ Ok name → Encoded octets prefix name
unfolding gather encoding
gather_encoded offset octets [] None prefix name fits long are h =
    record { whole = []; parts = append-nil prefix ∙ ok_is prefix name h; valid = tt; spelled = are }
gather_encoded offset octets [] (Some f) prefix name fits long are h = absurd cc
gather_encoded offset octets (e ∷ es) fault prefix name fits long are h =
    let rest = are.0 in
    let split = rw are.1 at fits in
    let size = ap length are.1 ∙ length-append (element e.typ e.value) rest in
    let value_octets =
    IsOctets-after (number e.typ ++ number (length e.value)) e.value
    (IsOctets-before (element e.typ e.value) rest split) in
    let value_size = length-append (number e.typ ++ number (length e.value)) e.value in
    let step = bind_ok (with_component prefix e) (λ t. gather with_component Tlv t es fault) name h in
    let inner = bind_ok (component_of e) (λ c. done (prefix ++ c ∷ [])) step.0 step.1 in
    let c = inner.0 in
    let taken = component_takes e c inner.1 are.3 (omega (arith, size, value_size)) value_octets in
    let next : prefix ++ c ∷ [] ≡ step.0 = ok_is (prefix ++ c ∷ []) step.0 inner.2 in
    let goes_on : gather with_component Tlv (prefix ++ c ∷ []) es fault ≡ Ok name = rw next step.2 in
    let others =
    gather_encoded e.end rest es fault (prefix ++ c ∷ []) name (IsOctets-after (element e.typ e.value) rest split)
    (omega (arith, size)) are.5 goes_on in
    let P : Component → Type 0 = λ x. IsComponent x in
    record {
      whole = c ∷ others.whole;
      parts = whole_is prefix c others.whole name others.parts;
      valid = (subst P taken.0 taken.1, others.valid);
      spelled =
          are.1
          ∙ ap (λ (x : List ℕ). element e.typ e.value ++ x) others.spelled
          ∙ ap (λ (x : Component). element x.0 x.1 ++ encoding others.whole) taken.0;
    }

pub name_of-encoded : (offset : ℕ) (octets : List ℕ) (name : List Component) → IsOctets octets → length octets < 2 ^ 64
    → name_of offset octets ≡ Ok name → IsName name × (octets ≡ encoding name)
name_of-encoded offset octets name fits long h =
    let e =
    gather_encoded offset octets (elements offset octets).items (elements offset octets).fault [] name fits long
    (elements_are offset octets fits) h in
    let P : List Component → Type 0 = λ n. IsName n × (octets ≡ encoding n) in
    subst P e.parts (e.valid, e.spelled)

-- octets that are read as a name are the value of that name
pub value-name_of : (offset : ℕ) (octets : List ℕ) (name : List Component) → IsOctets octets → length octets < 2 ^ 64
    → name_of offset octets ≡ Ok name → components octets ≡ name
value-name_of offset octets name fits long h =
    let e = name_of-encoded offset octets name fits long h in
    ap components e.1 ∙ components-encoding name e.0

pub IsValue-encoding : (octets : List ℕ) (name : List Component) → IsName name → octets ≡ encoding name
    → IsValue octets (length name)
IsValue-encoding octets name valid spelled =
    let same : components octets ≡ name = ap components spelled ∙ components-encoding name valid in
    let P : List Component → Type 0 = λ n. (octets ≡ encoding n) × IsName n × (length name ≡ length n) in
    let all = subst P (sym same) (spelled, valid, refl) in
    record { spelled = all.0; name = all.1; count = all.2 }

-- ---- one encoding, one name

pub encoding-same : (a b : List Component) → IsName a → IsName b → encoding a ≡ encoding b → a ≡ b
encoding-same a b h k e = sym (components-encoding a h) ∙ ap components e ∙ components-encoding b k

-- ---- one component more

pub number-some : (n : ℕ) → 0 < length (number n)
number-some n =
    elim (cases_lt n 253) [
      | inl a ↦ rw (number-narrow n a) (omega arith)
      | inr a ↦
          elim (cases_lt n (2 ^ 16)) [
            | inl b ↦ rw (number-16 n a b) (omega arith)
            | inr b ↦ elim (cases_lt n (2 ^ 32)) [
              | inl d ↦ rw (number-32 n b d) (omega arith)
              | inr d ↦ rw (number-64 n d) (omega arith)
            ]
          ]
    ]

element_octets : (c : Component) → 0 < c.0 → 0 < length (element c.0 c.1)
element_octets c above =
    omega (
      arith,
      length-append (number c.0 ++ number (length c.1)) c.1,
      length-append (number c.0) (number (length c.1)),
      number-some c.0,
    )

-- a name has no more components than octets
pub count-octets : (name : List Component) → IsName name → length name ≤ length (encoding name)
unfolding encoding
count-octets [] h = omega arith
count-octets (c ∷ cs) h =
    omega (arith, count-octets cs h.1, element_octets c h.0.above, length-append (element c.0 c.1) (encoding cs))

pub record Pushed (octets : List ℕ) (len : ℕ) (name : List Component) : Type 0 where
  pub value : IsValue octets len
  pub is : components octets ≡ name

pub pushed : (octets new : List ℕ) (len : ℕ) (name : List Component) (c : Component) → IsValue octets len
    → components octets ≡ name → IsComponent c → new ≡ octets ++ element c.0 c.1 → Pushed new (len + 1) (name ++ c ∷ [])
pushed octets new len name c value is more e =
    let P : List Component → Type 0 = λ n. (octets ≡ encoding n) × IsName n × (len ≡ length n) in
    let old = subst P is (value.spelled, value.name, value.count) in
    let spelled : new ≡ encoding (name ++ c ∷ []) =
    e ∙ ap (λ (x : List ℕ). x ++ element c.0 c.1) old.0 ∙ sym (encoding-push name c) in
    let valid = IsName-append name (c ∷ []) old.1 (more, tt) in
    let count : length (name ++ c ∷ []) ≡ len + 1 = omega (arith, length-append name (c ∷ []), old.2) in
    let Q : ℕ → Type 0 = λ n. IsValue new n in
    record {
      value = subst Q count (IsValue-encoding new (name ++ c ∷ []) valid spelled);
      is = ap components spelled ∙ components-encoding (name ++ c ∷ []) valid;
    }

-- how long a name is with one component more
pub pushed-length : (octets : List ℕ) (len : ℕ) (name : List Component) (c : Component) → IsValue octets len
    → components octets ≡ name → length (encoding (name ++ c ∷ [])) ≡ length (octets ++ element c.0 c.1)
pushed-length octets len name c value is =
    ap length
    (encoding-push name c ∙ ap (λ (x : List ℕ). x ++ element c.0 c.1) (ap encoding (sym is) ∙ sym value.spelled))

pub count-fits : (octets : List ℕ) (len : ℕ) → IsValue octets len → len ≤ length octets
count-fits octets len value =
    omega (arith, value.count, ap length value.spelled, count-octets (components octets) value.name)
