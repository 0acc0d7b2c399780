-- Small contents of records and index packets, and what they are read as.
use Rattle.std.specs.Prelude.{◌≡◌, ℕ, List, [], ◌∷◌, ◌++◌, replicate, Some, None, codes}
use Rattle.ndn_name.specs.Names.{Component}
use Rattle.repo_object.specs.Publication.{RecordSays, record_content, index_content}
use Rattle.repo_object.specs.Publication.RecordSays.{Lists, WithdrawsNumber}
use Rattle.repo_object.specs.Records.{record_of, index_of}

-- The name `/doc`.
abbrev doc : List Component
doc = (8, codes "doc") ∷ []

-- A digest.
abbrev digest : List ℕ
digest = replicate 32 7

-- The record of an object of one segment.
abbrev small : RecordSays
small = Lists (record { name = doc; segments = 1; digests = digest ∷ [] })

-- The record of an object of 201 segments, which lists two index packets.
abbrev large : RecordSays
large = Lists (record { name = doc; segments = 201; digests = digest ∷ digest ∷ [] })

-- Records of each kind are read back. A content with elements of two kinds, a withdrawal of number 0 and the empty
-- content are read as no record.
pub record RecordsAreReadSo : Type 0 where
  pub withdrawal : record_content (WithdrawsNumber 1) ≡ 133 ∷ 1 ∷ 1 ∷ []
  pub withdrawn : record_of (133 ∷ 1 ∷ 1 ∷ []) ≡ Some (WithdrawsNumber 1)
  pub of_none : record_of (133 ∷ 1 ∷ 0 ∷ []) ≡ None
  pub one : record_of (record_content small) ≡ Some small
  pub many : record_of (record_content large) ≡ Some large
  pub both : record_of (record_content small ++ 133 ∷ 1 ∷ 1 ∷ []) ≡ None
  pub both_ways : record_of (133 ∷ 1 ∷ 1 ∷ record_content small) ≡ None
  pub nothing : record_of [] ≡ None

-- An index packet with two digests is read as one with two, one with a single digest isn't, and a record is no index
-- packet.
pub record IndexPacketsAreReadSo : Type 0 where
  pub two : index_of (index_content (digest ∷ digest ∷ [])) 2 ≡ Some (digest ∷ digest ∷ [])
  pub fewer : index_of (index_content (digest ∷ [])) 2 ≡ None
  pub record_is_none : index_of (record_content small) 1 ≡ None
