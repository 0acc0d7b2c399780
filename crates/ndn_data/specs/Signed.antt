-- Where a signature and the octets that it signs stand in the value of a packet.
use Rattle.std.specs.Prelude.{◌≡◌, ℕ, ◌+◌, ◌≤◌, List, ◌++◌, length}
use Rattle.ndn_tlv.specs.Types as types
use Rattle.ndn_tlv.specs.Spelling.{element}
use Rattle.ndn_packet.specs.Outer.{packet_limit}

-- What is signed and the signature have no more octets than a packet may have.
abbrev pub IsShort : List ℕ → List ℕ → Type 0
IsShort signed signature = length signed + length signature ≤ packet_limit

-- What is signed and the signature's element are the whole value where they are as long.
abbrev pub IsWholeWhenLong : List ℕ → List ℕ → List ℕ → Type 0
IsWholeWhenLong value signed signature =
    length value ≡ length signed + length (element types.SignatureValue signature)
    → value ≡ signed ++ element types.SignatureValue signature

-- What is known of a signed portion and its signature in the value of a packet.
pub record Signs (value signed signature : List ℕ) : Type 0 where
  pub short : IsShort signed signature
  pub whole : IsWholeWhenLong value signed signature
