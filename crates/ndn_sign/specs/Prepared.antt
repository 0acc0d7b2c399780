-- Keys that are made ready for macs.
use Rattle.std.specs.Prelude.{ℕ, List}
use Rattle.sha2.specs.Hashers.{Holds256}
use Rattle.sha2.specs.declared.Sha256.{Sha256}
use Rattle.ndn_sign.specs.Hmac.{under_pad}

-- SHA-256 that has taken in the key's block under this pad.
abbrev pub IsBegun : ℕ → List ℕ → Sha256 → Type 0
IsBegun pad key hasher = Holds256 hasher (under_pad pad key)
