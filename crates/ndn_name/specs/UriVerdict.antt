-- What a text is as the URI of a name: the name, or why it is none.
use Rattle.std.specs.Prelude.{◌≡◌, ℕ, ◌+◌, ◌<◌, ◌≤◌, Bool, not, ◌&&◌, nat_le, ◌==◌, List, [], ◌∷◌, ◌++◌, length, take}
use Rattle.std.specs.Prelude.{Option, Some, None, Result, Ok, Err, if◌then◌else◌}
use Rattle.ndn_tlv.specs.Types as types
use Rattle.ndn_name.specs.declared.name_fault.NameFault.{NameFault}
use Rattle.ndn_name.specs.declared.name_fault.NameFault.TheVariants.{Tlv, BadComponent, BadDigestLength, NameTooLong}
use Rattle.ndn_name.specs.declared.name_fault.NameFault.TheVariants.{BadUri, NoMemory}
use Rattle.ndn_name.specs.Names.{Component, encoding, name_limit}
use Rattle.ndn_name.specs.Uri.{Part, IsUri, name_of_parts}

-- The text leaves a language at this place: what is before it can be continued to a text of the
-- language; with the octet there it can't, or the text ends there too early.
pub record LeavesLanguage (L : List ℕ → Type 0) (text : List ℕ) (place : ℕ) : Type 0 where
  pub within : place ≤ length text
  pub goes_on : (more : List ℕ) × L (take place text ++ more)
  pub breaks : place < length text → (more : List ℕ) → L (take (place + 1) text ++ more) → ⊥
  pub ends : L text → ⊥

-- The texts of names.
abbrev pub IsUriText : List ℕ → Type 0
IsUriText text = (parts : List Part) × IsUri parts text

-- The name has this URI.
abbrev pub HasUri : List Component → List ℕ → Type 0
HasUri name text = (parts : List Part) × IsUri parts text × (name ≡ name_of_parts parts)

-- The component has the type of a digest, but not 32 octets.
abbrev pub is_bad_digest : Component → Bool
is_bad_digest c = nat_le c.0 types.ParametersSha256DigestComponent && not (length c.1 == 32)

-- Where the first digest stands that has not 32 octets.
abbrev pub first_bad_digest : List Part → Option ℕ
first_bad_digest [] = None
first_bad_digest (part ∷ parts) =
    if is_bad_digest part.1 then Some part.0 else first_bad_digest parts

-- What a text is. It leaves the language; or a digest has not 32 octets, and the first such is
-- reported; or the name is too long; or it is this name.
abbrev pub IsUriVerdict : List ℕ → Result (List Component) NameFault → Type 0
IsUriVerdict text (Ok name) =
    (parts : List Part) × IsUri parts text × (first_bad_digest parts ≡ None)
    × (length (encoding name) ≤ name_limit) × (name ≡ name_of_parts parts)
IsUriVerdict text (Err (BadUri place)) = LeavesLanguage IsUriText text place
IsUriVerdict text (Err (BadDigestLength at)) = (parts : List Part) × IsUri parts text
    × (first_bad_digest parts ≡ Some at)
IsUriVerdict text (Err NameTooLong) =
    (parts : List Part) × IsUri parts text × (first_bad_digest parts ≡ None)
    × (name_limit < length (encoding (name_of_parts parts)))
IsUriVerdict text (Err NoMemory) = ⊥
IsUriVerdict text (Err (Tlv f)) = ⊥
IsUriVerdict text (Err (BadComponent at)) = ⊥
