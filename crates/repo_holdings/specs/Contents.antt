-- Digests of publications' contents that are given before their entries are made.
use Rattle.std.specs.Prelude.{◌≡◌, ℕ, List, length, IfSome}
use Rattle.sha2.specs.Sha256.{sha256}
use Rattle.repo_catalog.specs.declared.entry.Entry.{Entry}
use Rattle.repo_holdings.specs.Records.{Packet}
use Rattle.repo_holdings.specs.Listed.{whole_at}
use Rattle.repo_holdings.specs.declared.contents.ContentsDigest.{ContentsDigest}

-- an entry has the number of octets and the digest of these contents
pub record IsOver (contents : List ℕ) (e : Entry) : Type 0 where
  pub octets : e.octets ≡ length contents
  pub digest : e.digest ≡ sha256 contents

-- an entry has the number of octets and the digest that are given
pub record IsDigestOfEntry (d : ContentsDigest) (e : Entry) : Type 0 where
  pub octets : d.octets ≡ e.octets
  pub digest : d.digest ≡ e.digest

-- the number of octets and the digest in `d` are those of the publication's entry, where it is stored whole
abbrev pub IsDigestIn : List Packet → ContentsDigest → Type 0
IsDigestIn packets d = IfSome (whole_at packets (d.publisher, d.seq)) (IsDigestOfEntry d)
