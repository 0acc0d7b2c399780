-- What a record says, borrowed or with octets of its own.
use Rattle.std.specs.Prelude.{◌≡◌, ◌<◌, ◌≤◌, ℕ, length}
use Rattle.repo_plan.specs.Parts.{most_listed, index_packets}
use Rattle.repo_object.specs.declared.record_view.RecordView.{RecordView}
use Rattle.repo_object.specs.declared.record_view.RecordView.TheVariants as view
use Rattle.repo_object.specs.declared.record.Record.{Record}
use Rattle.repo_object.specs.declared.record.Record.TheVariants as owned
use Rattle.repo_object.specs.Limits.{segment_limit}
use Rattle.repo_object.specs.Publication.{RecordSays}
use Rattle.repo_object.specs.Publication.RecordSays.{Lists, WithdrawsNumber}
use Rattle.repo_object.specs.Records.{listed_record}

-- What a borrowed record says.
abbrev pub seen_record : RecordView → RecordSays
seen_record (view.Lists l) = Lists l
seen_record (view.Withdraws seq) = WithdrawsNumber seq

-- What a record with octets of its own says.
abbrev pub owned_record : Record → RecordSays
owned_record (owned.Lists l) = Lists l
owned_record (owned.Withdraws seq) = WithdrawsNumber seq
owned_record (owned.Indexed name segments digests) = listed_record name segments digests.items

-- A record that lists an object is Indexed exactly if the object has more than 200 segments.
abbrev pub IsOfItsKind : Record → Type 0
IsOfItsKind (owned.Lists l) = l.segments ≤ most_listed
IsOfItsKind (owned.Withdraws seq) = Unit
IsOfItsKind (owned.Indexed name segments digests) = most_listed < segments

-- The record lists all index packets of an object within the limit of segments, and part `x` is one of them.
abbrev pub ListsIndex : ℕ → Record → Type 0
ListsIndex x (owned.Lists l) = ⊥
ListsIndex x (owned.Withdraws seq) = ⊥
ListsIndex x (owned.Indexed name segments digests) =
    (most_listed < segments) × (segments ≤ segment_limit) × (length digests.items ≡ index_packets segments)
    × (0 < x) × (x ≤ length digests.items)
