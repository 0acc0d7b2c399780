-- What members announce and lend each other.
use Rattle.std.specs.Prelude.{ℕ, ◌≡◌, ◌<◌, List, length, Some}
use Rattle.repo_plan.specs.declared.part.Part.{Part}
use Rattle.repo_member.specs.Verdicts.{sync_of}
use Rattle.repo_member.specs.InGroup.{published_packet}
use Rattle.group_model.specs.Sound.{IsPublishedPart, IsConsistentVector}
use Rattle.live_member.specs.Meanings.{Meaning, whole_logs}

-- `octets` are the sync Interest of the member `sender` with `vector`. The vector has one number for each member, which
-- is at most the length of that member's list.
pub record IsReport (t : Meaning) (octets : List ℕ) : Type 0 where
  pub sender : ℕ
  pub vector : List ℕ
  pub there : sender < length t.lists
  pub consistent : IsConsistentVector (whole_logs t) vector
  pub told : octets ≡ sync_of t.group sender vector

-- A part, and the octets that are lent as its packet.
pub record Loan : Type 0 where
  pub part : Part
  pub octets : List ℕ

-- The loan of `octets` for `part`.
abbrev pub loan : Part → List ℕ → Loan
loan part octets = record { part = part; octets = octets }

-- The part is one of a publication of the lists, and the octets are its packet, as its publisher makes it.
pub record IsLoan (t : Meaning) (l : Loan) : Type 0 where
  pub published : IsPublishedPart (whole_logs t) l.part
  pub packet : published_packet t.group (whole_logs t) l.part ≡ Some l.octets
