-- The names of commands, as octets.
use Rattle.std.proofs.Common.{◌≡◌, ◌↔◌, ℕ, zero, suc, ◌<◌, Bool, true, false, ltb, List, [], ◌∷◌, ◌++◌, length}
use Rattle.std.proofs.Common.{length-append, append_assoc, slice_index, Option, Some, None}
use Rattle.std.proofs.Common.{if◌then◌else◌, refl, sym, ap, ◌∙◌, arith}
use Rattle.std.specs.List.{list_all}
use Rattle.std.specs.Str.{bytes_eq}
use Rattle.std.proofs.lemmas.Bool.{and_parts, and_from, false_from_ne_true, ltb-true}
use Rattle.std.proofs.lemmas.List.{append_cancel_left}
use Rattle.std.proofs.lemmas.Slice.Eq.{bytes_eq-Decides}
use Rattle.ndn_tlv.specs.Spelling.{number, head, element}
use Rattle.ndn_tlv.specs.Elements.{IsElement, IsOctets}
use Rattle.ndn_tlv.proofs.ElementLemmas.{element_alone}
use Rattle.ndn_name.specs.Names.{Component, IsComponent, IsName, encoding}
use Rattle.ndn_name.proofs.Encodings.{encoding-push, IsName-append, number-some}
use Rattle.ndn_interest.specs.Interest.{without_last, ends_in_digest}
use Rattle.ndn_interest.proofs.LastLemmas.{digest_spelled, digest_ends, without-push, ends-push}
use Rattle.repo_command.specs.declared.verb.Verb.{Verb}
use Rattle.repo_command.specs.declared.verb.Verb.TheVariants.{Insert, Check, Delete}
use Rattle.repo_command.specs.Verbs.{verb_text, verb_component, command_name, is_command_name, verb_in, between}

-- ---- what is spelled

verb_spelled : (verb : Verb) → element 8 (verb_text verb) ++ 2 ∷ 32 ∷ [] ≡ between verb
unfolding number
verb_spelled Insert = refl
verb_spelled Check = refl
verb_spelled Delete = refl

regroup : (a b h d : List ℕ) → (a ++ b) ++ (h ++ d) ≡ a ++ ((b ++ h) ++ d)
regroup a b h d = simp append_assoc

-- the node's name, the verb and a digest, as octets
pub spelled : (node : List Component) (verb : Verb) (digest : List ℕ) → length digest ≡ 32
    → encoding (command_name node verb ++ (2, digest) ∷ []) ≡ encoding node ++ (between verb ++ digest)
spelled node verb digest long =
    encoding-push (command_name node verb) (2, digest)
    ∙ ap (λ (o : List ℕ). o ++ element 2 digest) (encoding-push node (verb_component verb))
    ∙ ap (λ (o : List ℕ). (encoding node ++ element 8 (verb_text verb)) ++ o) (digest_spelled digest long)
    ∙ regroup (encoding node) (element 8 (verb_text verb)) (2 ∷ 32 ∷ []) digest
    ∙ ap (λ (o : List ℕ). encoding node ++ (o ++ digest)) (verb_spelled verb)

-- ---- verbs are components

octets_of : (os : List ℕ) → list_all (λ n. ltb n 256) os ≡ true → IsOctets os
octets_of [] h i = omega arith
octets_of (n ∷ os) h zero = ltb-true n 256 (and_parts (ltb n 256) (list_all (λ m. ltb m 256) os) h).0
octets_of (n ∷ os) h (suc i) = octets_of os (and_parts (ltb n 256) (list_all (λ m. ltb m 256) os) h).1 i

pub is_component : (verb : Verb) → IsComponent (verb_component verb)
is_component Insert = record {
  above = omega arith;
  below = omega arith;
  digest = λ h. absurd (omega arith);
  long = omega arith;
  octets = octets_of (verb_text Insert) refl;
}
is_component Check = record {
  above = omega arith;
  below = omega arith;
  digest = λ h. absurd (omega arith);
  long = omega arith;
  octets = octets_of (verb_text Check) refl;
}
is_component Delete = record {
  above = omega arith;
  below = omega arith;
  digest = λ h. absurd (omega arith);
  long = omega arith;
  octets = octets_of (verb_text Delete) refl;
}

pub IsName-command : (node : List Component) (verb : Verb) → IsName node → IsName (command_name node verb)
IsName-command node verb valid = IsName-append node (verb_component verb ∷ []) valid (is_component verb, tt)

pub is_command_name-made : (node : List Component) (verb : Verb) (digest : List ℕ)
    → is_command_name node verb (command_name node verb ++ (2, digest) ∷ []) ≡ true
is_command_name-made node verb digest =
    let prefix = command_name node verb in
    let last : Component = (2, digest) in
    and_from (bytes_eq (encoding (without_last (prefix ++ last ∷ []))) (encoding prefix))
    (ends_in_digest (prefix ++ last ∷ []))
    (rw (without-push prefix last) ((bytes_eq-Decides (encoding prefix) (encoding prefix)).1 refl))
    (ends-push prefix digest)

-- ---- names of the same octets are the same, as far as their components can be elements

abbrev AreElements : List Component → Type 0
AreElements [] = Unit {0}
AreElements (c ∷ cs) = IsElement c.0 c.1 × AreElements cs

AreElements-name : (name : List Component) → IsName name → AreElements name
AreElements-name [] valid = tt
AreElements-name (c ∷ cs) valid =
    let first = valid.0 in ((first.above, omega (arith, first.below), first.long), AreElements-name cs valid.1)

AreElements-push : (name : List Component) (c : Component) → AreElements name → IsElement c.0 c.1
    → AreElements (name ++ c ∷ [])
AreElements-push [] c are is = (is, tt)
AreElements-push (d ∷ ds) c are is = (are.0, AreElements-push ds c are.1 is)

some_octets : (c : Component) (rest : List ℕ) → 0 < length (element c.0 c.1 ++ rest)
some_octets c rest =
    omega (
      arith,
      length-append (element c.0 c.1) rest,
      length-append (head c.0 (length c.1)) c.1,
      length-append (number c.0) (number (length c.1)),
      number-some c.0,
    )

same_octets : (a b : List Component) → AreElements a → AreElements b → encoding a ≡ encoding b → a ≡ b
unfolding encoding
same_octets [] [] h k e = refl
same_octets [] (d ∷ b) h k e = absurd (omega (arith, ap length e, some_octets d (encoding b)))
same_octets (c ∷ a) [] h k e = absurd (omega (arith, ap length e, some_octets c (encoding a)))
same_octets (c ∷ a) (d ∷ b) h k e =
    let parts = element_alone c.0 d.0 c.1 d.1 (encoding a) (encoding b) h.0 k.0 e in
    let one : c ≡ d = ap (λ (t : ℕ). (t, c.1)) parts.0 ∙ ap (λ (v : List ℕ). (d.0, v)) parts.1 in
    let after = same_octets a b h.1 k.1 parts.2 in
    ap (λ (x : Component). x ∷ a) one ∙ ap (λ (x : List Component). d ∷ x) after

-- ---- the test of the octets

pub named : (node : List Component) (verb : Verb) (name : List Component) (digest : List ℕ) → IsName node → IsName name
    → encoding name ≡ encoding node ++ (between verb ++ digest) → length digest ≡ 32
    → name ≡ command_name node verb ++ (2, digest) ∷ []
named node verb name digest valid_node valid same long =
    let prefix = command_name node verb in
    let last : Component = (2, digest) in
    same_octets name (prefix ++ last ∷ []) (AreElements-name name valid)
    (AreElements-push prefix last (AreElements-name prefix (IsName-command node verb valid_node))
    (omega arith, omega arith, omega (arith, long))) (same ∙ sym (spelled node verb digest long))

pub is_of_node : (node : List Component) (verb : Verb) (name : List Component) (digest : List ℕ) → IsName node
    → IsName name
    → encoding name ≡ encoding node ++ (between verb ++ digest) → length digest ≡ 32
    → is_command_name node verb name ≡ true
is_of_node node verb name digest valid_node valid same long =
    rw (named node verb name digest valid_node valid same long) (is_command_name-made node verb digest)

pub record HasDigest (node : List Component) (verb : Verb) (name : List Component) : Type 0 where
  pub digest : List ℕ
  pub long : length digest ≡ 32
  pub octets : encoding name ≡ encoding node ++ (between verb ++ digest)

pub has_digest : (node : List Component) (verb : Verb) (name : List Component) → IsName name
    → is_command_name node verb name ≡ true → HasDigest node verb name
has_digest node verb name valid h =
    let prefix = command_name node verb in
    let tests = and_parts (bytes_eq (encoding (without_last name)) (encoding prefix)) (ends_in_digest name) h in
    let ends = digest_ends name valid tests.1 in
    let same : encoding (without_last name) ≡ encoding prefix =
    (bytes_eq-Decides (encoding (without_last name)) (encoding prefix)).0 tests.0 in
    record {
      digest = ends.digest;
      long = ends.long;
      octets =
          ends.spelled
          ∙ ap (λ (o : List ℕ). o ++ element 2 ends.digest) same
          ∙ sym (encoding-push prefix (2, ends.digest))
          ∙ spelled node verb ends.digest ends.long;
    }

-- ---- answers of the test

-- ---- the verb of a name

component_differs : (v w : Verb) → element 8 (verb_text w) ≡ element 8 (verb_text v) → v ≡ w
unfolding number
component_differs Insert Insert e = refl
component_differs Insert Check e =
    let long : 5 ≡ 6 = ap (λ (o : List ℕ). slice_index o 1) e in absurd (omega (arith, long))
component_differs Insert Delete e =
    let first : 100 ≡ 105 = ap (λ (o : List ℕ). slice_index o 2) e in absurd (omega (arith, first))
component_differs Check Insert e =
    let long : 6 ≡ 5 = ap (λ (o : List ℕ). slice_index o 1) e in absurd (omega (arith, long))
component_differs Check Check e = refl
component_differs Check Delete e =
    let long : 6 ≡ 5 = ap (λ (o : List ℕ). slice_index o 1) e in absurd (omega (arith, long))
component_differs Delete Insert e =
    let first : 105 ≡ 100 = ap (λ (o : List ℕ). slice_index o 2) e in absurd (omega (arith, first))
component_differs Delete Check e =
    let long : 5 ≡ 6 = ap (λ (o : List ℕ). slice_index o 1) e in absurd (omega (arith, long))
component_differs Delete Delete e = refl

only_verb : (node : List Component) (v w : Verb) (digest : List ℕ)
    → is_command_name node v (command_name node w ++ (2, digest) ∷ []) ≡ true → v ≡ w
only_verb node v w digest h =
    let prefix = command_name node w in
    let name = prefix ++ (2, digest) ∷ [] in
    let tests =
    and_parts (bytes_eq (encoding (without_last name)) (encoding (command_name node v))) (ends_in_digest name) h in
    let same = (bytes_eq-Decides (encoding (without_last name)) (encoding (command_name node v))).0 tests.0 in
    let octets : encoding prefix ≡ encoding (command_name node v) =
    ap encoding (sym (without-push prefix (2, digest))) ∙ same in
    component_differs v w
    (append_cancel_left (encoding node) (element 8 (verb_text w)) (element 8 (verb_text v))
    (sym (encoding-push node (verb_component w)) ∙ octets ∙ encoding-push node (verb_component v)))

not_named : (node : List Component) (v w : Verb) (digest : List ℕ) → (v ≡ w → ⊥)
    → is_command_name node v (command_name node w ++ (2, digest) ∷ []) ≡ false
not_named node v w digest apart =
    false_from_ne_true (is_command_name node v (command_name node w ++ (2, digest) ∷ []))
    (λ yes. apart (only_verb node v w digest yes))

pub verb_in-made : (node : List Component) (w : Verb) (digest : List ℕ)
    → verb_in node (command_name node w ++ (2, digest) ∷ []) ≡ Some w
verb_in-made node Insert digest = rw (is_command_name-made node Insert digest) refl
verb_in-made node Check digest =
    rw (not_named node Insert Check digest (λ e. absurd cc), is_command_name-made node Check digest) refl
verb_in-made node Delete digest =
    rw (
      not_named node Insert Delete digest (λ e. absurd cc),
      not_named node Check Delete digest (λ e. absurd cc),
      is_command_name-made node Delete digest,
    ) refl

abbrev passes : Bool → Bool → Bool → Verb → Bool
passes a b c Insert = a
passes a b c Check = b
passes a b c Delete = c

abbrev first_of_three : Bool → Bool → Bool → Option Verb
first_of_three a b c = if a then Some Insert else if b then Some Check else if c then Some Delete else None

chosen : (a b c : Bool) (v : Verb) → first_of_three a b c ≡ Some v → passes a b c v ≡ true
chosen true b c Insert e = refl
chosen true b c Check e = absurd cc
chosen true b c Delete e = absurd cc
chosen false true c Insert e = absurd cc
chosen false true c Check e = refl
chosen false true c Delete e = absurd cc
chosen false false true Insert e = absurd cc
chosen false false true Check e = absurd cc
chosen false false true Delete e = refl
chosen false false false v e = absurd cc

is_of_verb : (node name : List Component) (v : Verb) → verb_in node name ≡ Some v → is_command_name node v name ≡ true
is_of_verb node name v e =
    by_verb v (chosen (is_command_name node Insert name) (is_command_name node Check name)
    (is_command_name node Delete name) v e) where
      by_verb : (w : Verb)
          → passes (is_command_name node Insert name) (is_command_name node Check name)
          (is_command_name node Delete name) w
          ≡ true
          → is_command_name node w name ≡ true
      by_verb Insert h = h
      by_verb Check h = h
      by_verb Delete h = h

abbrev IsNamed : List Component → Verb → List Component → Type 0
IsNamed node verb name = (digest : List ℕ) × (name ≡ node ++ verb_component verb ∷ (2, digest) ∷ [])

regrouped : (node : List Component) (verb : Verb) (digest : List ℕ)
    → command_name node verb ++ (2, digest) ∷ [] ≡ node ++ verb_component verb ∷ (2, digest) ∷ []
regrouped node verb digest = append_assoc node (verb_component verb ∷ []) ((2, digest) ∷ [])

pub name_is_tested : (node name : List Component) (verb : Verb) → IsName node → IsName name
    → (verb_in node name ≡ Some verb) ↔ IsNamed node verb name
name_is_tested node name verb valid_node valid = (
  λ found. (let d = has_digest node verb name valid (is_of_verb node name verb found) in
      (d.digest, named node verb name d.digest valid_node valid d.octets d.long ∙ regrouped node verb d.digest)),
  λ is. rw (is.1 ∙ sym (regrouped node verb is.0)) (verb_in-made node verb is.0),
)
