-- The encoding of a name is octets.
use Rattle.std.proofs.Common.{List, [], ◌∷◌}
use Rattle.ndn_tlv.specs.Spelling.{element}
use Rattle.ndn_tlv.specs.Elements.{IsOctets}
use Rattle.ndn_tlv.proofs.Octets.{IsOctets-none, IsOctets-append, IsOctets-element}
use Rattle.ndn_name.specs.Names.{Component, IsName, encoding}

pub IsOctets-encoding : (name : List Component) → IsName name → IsOctets (encoding name)
unfolding encoding
IsOctets-encoding [] valid = IsOctets-none
IsOctets-encoding (c ∷ cs) valid =
    IsOctets-append (element c.0 c.1) (encoding cs) (IsOctets-element c.0 c.1 valid.0.octets)
    (IsOctets-encoding cs valid.1)
