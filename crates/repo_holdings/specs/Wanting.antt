-- The wants of parts that are asked for.
use Rattle.std.specs.Prelude.{◌≡◌, ◌≤◌, true, List, [], length, Option, None, IfSome, slice_get, unwrap_or, nat_le}
use Rattle.std.specs.Prelude.{◌==◌, if◌then◌else◌}
use Rattle.std.specs.Borrow.{Bor}
use Rattle.std.specs.List.{All}
use Rattle.ndn_name.specs.Names.{Component, encoding}
use Rattle.repo_plan.specs.declared.part.Part.{Part}
use Rattle.repo_plan.specs.Parts.{pair_of}
use Rattle.repo_plan.specs.Plan.{may_be_asked_for, attempts_of}
use Rattle.repo_object.specs.declared.job.Job.{Job}
use Rattle.repo_object.specs.Limits.{node_name_limit}
use Rattle.repo_object.specs.Publication.{Listed}
use Rattle.repo_object.specs.Wants.{WantedPart, want_record, want_index, want_segment}
use Rattle.repo_holdings.specs.declared.holdings.stored_parent.StoredParent.{StoredParent}
use Rattle.repo_holdings.specs.Records.{Packet}
use Rattle.repo_holdings.specs.Listed.{listing_at, listed_shape}
use Rattle.repo_holdings.specs.StoredParents.{digest_at, IsListedBy}
use Rattle.repo_holdings.specs.HoldingsState.{HoldingsState, held_plan}

-- No name, no segments and no digests: what counts as listed where no record is stored.
abbrev pub nothing_listed : Listed
nothing_listed = record { name = []; segments = 0; digests = [] }

-- the want of a part after the record, of a publication of `node` whose record lists `l`: an index packet is asked for
-- as the record lists it, a segment as the record or its index packet does
abbrev pub want_after : List Component → List Component → List Packet → Part → Listed → WantedPart
want_after node group stored t l =
    if nat_le t.part (listed_shape l).index then want_index t l node group
    else want_segment t (listed_shape l) l.name (digest_at stored t l)

-- the want of a part, in a group of this name of publishers with these names: a record is asked for by its publisher's
-- name, and the parts after it as stored parts list them
abbrev pub want_at : List (List Component) → List Component → List Packet → Part → WantedPart
want_at publishers group stored t =
    if t.part == 0 then want_record t (unwrap_or (slice_get publishers t.publisher) []) group
    else want_after (unwrap_or (slice_get publishers t.publisher) []) group stored t
    (unwrap_or (listing_at stored (pair_of t)) nothing_listed)

-- the job of a part, with the number of attempts that were made before
abbrev pub job_at : List (List Component) → List Component → HoldingsState → Part → Job
job_at publishers group h t =
    record { want = want_at publishers group h.store t; base = attempts_of (held_plan h) t }

-- a part that is asked for, and the stored part that lists it, unless it is a record
pub record CanBeWanted (h : HoldingsState) (t : Part) (stored : Option (Bor StoredParent)) : Type 0 where
  pub asked : may_be_asked_for (held_plan h) t ≡ true
  pub listed : IfSome stored (λ r. IsListedBy h.store t r.now)
  pub none : stored ≡ None → t.part ≡ 0

-- names of publishers and their group from which the names of their packets can be made
pub record AreShortNames (names : List (List Component)) (group_name : List Component) : Type 0 where
  pub publishers : All (λ name. length (encoding name) ≤ node_name_limit) names
  pub group : length (encoding group_name) ≤ node_name_limit
