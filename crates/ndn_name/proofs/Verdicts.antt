-- What a text is as the URI of a name.
use Rattle.std.proofs.Common.{◌≡◌, ℕ, ◌+◌, ◌<◌, ◌≤◌, Bool, true, false, not, ◌&&◌, leb, eqb, List, [], ◌∷◌, length}
use Rattle.std.proofs.Common.{None, Result, Err, refl, subst, arith, inl, inr}
use Rattle.std.specs.List.{AllByRecursion}
use Rattle.std.proofs.lemmas.Bool.{le-leb, eqb-true}
use Rattle.ndn_name.specs.declared.name_fault.NameFault.{NameFault}
use Rattle.ndn_name.specs.declared.name_fault.NameFault.TheVariants.{Tlv, BadComponent, BadDigestLength, NameTooLong}
use Rattle.ndn_name.specs.declared.name_fault.NameFault.TheVariants.{BadUri, NoMemory}
use Rattle.ndn_name.specs.Names.{Component}
use Rattle.ndn_name.specs.Uri.{Part, IsComponentText, generic, typed, implicit_digest, parameters_digest, segment}
use Rattle.ndn_name.specs.Uri.{version, sequence, IsPath, IsRooted, IsUri, name_of_parts}
use Rattle.ndn_name.specs.UriVerdict.{LeavesLanguage, IsUriText, is_bad_digest, first_bad_digest, IsUriVerdict}
use Rattle.ndn_name.specs.UriReading.{FailsIn, MayBeAppended}

abbrev failed : NameFault → Result (List Component) NameFault
failed f = Err f

-- a text that could not be read
pub answer-fails : (text : List ℕ) (f : NameFault) → (f ≡ NoMemory → ⊥) → FailsIn IsUri 0 text f
    → IsUriVerdict text (Err f)
answer-fails text (BadUri place) other h =
    let P : ℕ → Type 0 = λ k. LeavesLanguage IsUriText text k in
    let same : h.0 ≡ place = omega (arith, h.1) in subst P same h.2
answer-fails text NoMemory other h = absurd (other refl)
answer-fails text NameTooLong other h = absurd h
answer-fails text (Tlv f) other h = absurd h
answer-fails text (BadComponent p) other h = absurd h
answer-fails text (BadDigestLength p) other h = absurd h

-- ---- parts that may be appended

component-above : (c : Component) (text : List ℕ) → IsComponentText c text → 0 < c.0
component-above c text (generic e h) = omega arith
component-above c text (typed tail above below split h) = above
component-above c text (implicit_digest tail e split h) = omega arith
component-above c text (parameters_digest tail e split h) = omega arith
component-above c text (segment tail e split h) = omega arith
component-above c text (version tail e split h) = omega arith
component-above c text (sequence tail e split h) = omega arith

good_digest : (c : Component) → is_bad_digest c ≡ false → c.0 ≤ 2 → length c.1 ≡ 32
good_digest c h low = eqb-true (length c.1) 32 (sized (leb c.0 2) (eqb (length c.1) 32) h (le-leb c.0 2 low)) where
  sized : (p q : Bool) → (p && not q) ≡ false → p ≡ true → q ≡ true
  sized true true k g = refl
  sized true false k g = let never : true ≡ false = k in absurd cc
  sized false q k g = absurd cc

-- where no digest is bad
none_bad : (part : Part) (parts : List Part) → first_bad_digest (part ∷ parts) ≡ None
    → (is_bad_digest part.1 ≡ false) × (first_bad_digest parts ≡ None)
none_bad part parts h = by_test (is_bad_digest part.1) refl where
  by_test : (b : Bool) → is_bad_digest part.1 ≡ b → (is_bad_digest part.1 ≡ false) × (first_bad_digest parts ≡ None)
  by_test true e = let k = rw e at h in absurd cc
  by_test false e = (e, rw e at h)

path-sound : (at : ℕ) (parts : List Part) (text : List ℕ) → IsPath at parts text → first_bad_digest parts ≡ None
    → AllByRecursion MayBeAppended (name_of_parts parts)
path-sound at [] text h none = tt
path-sound at (part ∷ parts) text h none =
    let n = none_bad part parts none in
    ((component-above part.1 h.0 h.4, good_digest part.1 n.0), path-sound (at + 1 + length h.0) parts h.1 h.5 n.1)

rooted-sound : (at : ℕ) (parts : List Part) (text : List ℕ) → IsRooted at parts text → first_bad_digest parts ≡ None
    → AllByRecursion MayBeAppended (name_of_parts parts)
rooted-sound at [] text h none = tt
rooted-sound at (part ∷ parts) text h none = path-sound at (part ∷ parts) text h none

pub uri-sound : (parts : List Part) (text : List ℕ) → IsUri parts text → first_bad_digest parts ≡ None
    → AllByRecursion MayBeAppended (name_of_parts parts)
uri-sound parts text h none =
    elim h [
      | inl a ↦ rooted-sound 0 parts text a none
      | inr a ↦ rooted-sound 4 parts a.0 a.2 none
    ]
