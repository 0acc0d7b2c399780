-- HMAC with SHA-256 (RFC 2104, "Definition of HMAC").
use Rattle.std.specs.Prelude.{ℕ, ◌-◌, List, ◌++◌, length, map, replicate, bit_xor, nat_lt, if◌then◌else◌}
use Rattle.sha2.specs.Sha256.{sha256}

-- The octets in a block of SHA-256.
abbrev pub block_octets : ℕ
block_octets = 64

-- The octet of the inner pad, which RFC 2104 calls ipad.
abbrev pub inner_pad : ℕ
inner_pad = 0x36

-- The octet of the outer pad, which RFC 2104 calls opad.
abbrev pub outer_pad : ℕ
outer_pad = 0x5c

-- A key longer than a block counts as its digest.
abbrev pub short_key : List ℕ → List ℕ
short_key key = if nat_lt block_octets (length key) then sha256 key else key

-- The key with zeros after it, up to a block.
abbrev pub block_key : List ℕ → List ℕ
block_key key = short_key key ++ replicate (block_octets - length (short_key key)) 0

-- The key's block under a pad: each octet is changed by it.
abbrev pub under_pad : ℕ → List ℕ → List ℕ
under_pad pad key = map (λ octet. bit_xor octet pad) (block_key key)

-- The digest under the inner pad, and of that the digest under the outer one.
abbrev pub hmac : List ℕ → List ℕ → List ℕ
hmac key message =
    sha256 (under_pad outer_pad key ++ sha256 (under_pad inner_pad key ++ message))
