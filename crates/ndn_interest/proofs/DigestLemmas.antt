-- A digest is octets.
use Rattle.std.proofs.Common.{ℕ, zero, suc, List}
use Rattle.std.specs.Prelude.{slice_index}
use Rattle.std.specs.Int.{w32, to_be_bytes}
use Rattle.sha2.specs.Sha256.{digest_bytes, sha256}
use Rattle.ndn_tlv.specs.Elements.{IsOctets}
use Rattle.ndn_tlv.proofs.Octets.{IsOctets-none, IsOctets-append, IsOctets-32}

digest_octets : (h : List ℕ) (n : ℕ) → IsOctets (digest_bytes h n)
unfolding digest_bytes
digest_octets h zero = IsOctets-none
digest_octets h (suc n) = IsOctets-append (digest_bytes h n) (to_be_bytes w32 (slice_index h n)) (digest_octets h n)
    (IsOctets-32 (slice_index h n))

pub IsOctets-sha256 : (m : List ℕ) → IsOctets (sha256 m)
unfolding sha256
IsOctets-sha256 m = digest_octets _ 8
