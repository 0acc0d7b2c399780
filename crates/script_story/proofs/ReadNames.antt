-- A name that a text is the URI of is valid, where no component is a digest and it is short.
use Rattle.std.proofs.Common.{◌≡◌, ℕ, zero, suc, ◌+◌, ◌<◌, ◌≤◌, ◌^◌, Bool, true, false, nat_le, List, [], ◌∷◌, length}
use Rattle.std.proofs.Common.{length-append, sym, subst, inl, inr, arith, if◌then◌else◌}
use Rattle.std.specs.List.{list_any}
use Rattle.std.proofs.lemmas.Bool.{or_parts}
use Rattle.std.proofs.lemmas.Bool.Decides.{nat_tests}
use Rattle.ndn_tlv.specs.Elements.{IsOctets}
use Rattle.ndn_tlv.proofs.Octets.{IsOctets-number_field}
use Rattle.ndn_tlv.specs.Spelling.{head, element}
use Rattle.ndn_name.specs.Names.{Component, IsComponent, IsName, encoding}
use Rattle.ndn_name.specs.Uri.{IsOctetText, plain, escape, IsEscaped, are_periods, guarded, IsValueText, IsNumberText}
use Rattle.ndn_name.specs.Uri.{IsComponentText, generic, typed, implicit_digest, parameters_digest, segment, version}
use Rattle.ndn_name.specs.Uri.{sequence, Part, IsPath, IsRooted, IsUri, name_of_parts}
use Rattle.ndn_name.specs.UriText.{is_digest}
use Rattle.ndn_name.specs.UriVerdict.{HasUri}

-- ---- values

octet_low : (octet : ℕ) (text : List ℕ) → IsOctetText octet text → octet < 256
octet_low octet text (plain is e) = grind (arith, nat_tests)
octet_low octet text (escape high low pair e) = omega (arith, pair.0, pair.1, pair.2)

escaped_octets : (octets text : List ℕ) → IsEscaped octets text → IsOctets octets
escaped_octets [] text h i = omega arith
escaped_octets (octet ∷ octets) text h zero = octet_low octet h.0 h.3
escaped_octets (octet ∷ octets) text h (suc i) = escaped_octets octets h.1 h.4 i

value_octets : (value text : List ℕ) → IsValueText value text → IsOctets value
value_octets value text h = go (are_periods value) (escaped_octets (guarded value) text h) where
  go : (b : Bool) → IsOctets (if b then 46 ∷ 46 ∷ 46 ∷ value else value) → IsOctets value
  go true all i = all (suc (suc (suc i)))
  go false all i = all i

number_octets : (value text : List ℕ) → IsNumberText value text → IsOctets value
number_octets value text h = subst IsOctets (sym h.1) (IsOctets-number_field h.0)

-- ---- components

valid : (c : Component) → 2 < c.0 → c.0 ≤ 65535 → length c.1 < 2 ^ 64 → IsOctets c.1 → IsComponent c
valid c above below short octets = record {
  above = omega arith;
  below = below;
  digest = λ two. absurd (omega arith);
  long = short;
  octets = octets;
}

component_valid : (c : Component) (text : List ℕ) → IsComponentText c text → 2 < c.0 → length c.1 < 2 ^ 64
    → IsComponent c
component_valid c text (generic typ value) above short = valid c above (omega arith) short (value_octets c.1 text value)
component_valid c text (typed tail some below e value) above short =
    valid c above below short (value_octets c.1 tail value)
component_valid c text (implicit_digest tail typ e value) above short = absurd (omega arith)
component_valid c text (parameters_digest tail typ e value) above short = absurd (omega arith)
component_valid c text (segment tail typ e value) above short =
    valid c above (omega arith) short (number_octets c.1 tail value)
component_valid c text (version tail typ e value) above short =
    valid c above (omega arith) short (number_octets c.1 tail value)
component_valid c text (sequence tail typ e value) above short =
    valid c above (omega arith) short (number_octets c.1 tail value)

-- ---- names

path_valid : (at : ℕ) (parts : List Part) (text : List ℕ) → IsPath at parts text
    → list_any is_digest (name_of_parts parts) ≡ false → length (encoding (name_of_parts parts)) < 2 ^ 64
    → IsName (name_of_parts parts)
unfolding encoding
path_valid at [] text h none short = tt
path_valid at (part ∷ parts) text h none short =
    let no = or_parts (is_digest part.1) (list_any is_digest (name_of_parts parts)) none in
    let low : nat_le part.1.0 2 ≡ false = no.0 in
    let above : 2 < part.1.0 = grind (arith, nat_tests) in
    let joined = length-append (element part.1.0 part.1.1) (encoding (name_of_parts parts)) in
    let ended = length-append (head part.1.0 (length part.1.1)) part.1.1 in (
      component_valid part.1 h.0 h.4 above (omega (arith, joined, ended)),
      path_valid (at + 1 + length h.0) parts h.1 h.5 no.1 (omega (arith, joined)),
    )

rooted_valid : (at : ℕ) (parts : List Part) (text : List ℕ) → IsRooted at parts text
    → list_any is_digest (name_of_parts parts) ≡ false → length (encoding (name_of_parts parts)) < 2 ^ 64
    → IsName (name_of_parts parts)
rooted_valid at [] text h none short = tt
rooted_valid at (part ∷ parts) text h none short = path_valid at (part ∷ parts) text h none short

uri_valid : (parts : List Part) (text : List ℕ) → IsUri parts text
    → list_any is_digest (name_of_parts parts) ≡ false → length (encoding (name_of_parts parts)) < 2 ^ 64
    → IsName (name_of_parts parts)
uri_valid parts text (inl h) none short = rooted_valid 0 parts text h none short
uri_valid parts text (inr h) none short = rooted_valid 4 parts h.0 h.2 none short

pub read_name_valid : (name : List Component) (text : List ℕ) → HasUri name text → list_any is_digest name ≡ false
    → length (encoding name) < 2 ^ 64 → IsName name
read_name_valid name text h =
    let P : List Component → Type 0 =
    λ n. list_any is_digest n ≡ false → length (encoding n) < 2 ^ 64 → IsName n in
    subst P (sym h.2) (uri_valid h.0 text h.1)
