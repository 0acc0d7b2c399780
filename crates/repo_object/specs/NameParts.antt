-- Names in parts, as they are written.
use Rattle.std.specs.Prelude.{◌≡◌, ℕ, List, [], ◌++◌, Option, Some, None}
use Rattle.ndn_tlv.specs.Types as types
use Rattle.ndn_tlv.specs.Spelling.{element}
use Rattle.ndn_tlv.specs.NumberField.{number_field}
use Rattle.ndn_name.specs.Names.{IsName, components, encoding}
use Rattle.repo_object.specs.declared.name_parts.NameParts.{NameParts}

-- The octets of the component of type `typ` whose value is a number, and no octets for None.
abbrev pub numbered : ℕ → Option ℕ → List ℕ
numbered typ None = []
numbered typ (Some n) = element typ (number_field n)

-- The octets of all parts of a name, one after another.
abbrev pub spelled : NameParts → List ℕ
spelled parts =
    (parts.first.now ++ parts.second.now)
    ++ (numbered types.SequenceNumNameComponent parts.seq ++ numbered types.SegmentNameComponent parts.segment)

-- Octets that are the value of a name.
pub record IsSpelled (octets : List ℕ) : Type 0 where
  pub name : IsName (components octets)
  pub spelled : octets ≡ encoding (components octets)
