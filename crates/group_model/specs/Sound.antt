-- What holds of every group that events can reach.
use Rattle.std.specs.Prelude.{ℕ, ◌≤◌, ◌<◌, ◌≡◌, ◌⊎◌, true, false, List, Option, Some, None, length, slice_index}
use Rattle.std.specs.Prelude.{slice_index_or}
use Rattle.repo_plan.specs.declared.part.Part.{Part}
use Rattle.sorted_lists.specs.SortedList.{contains, keys, value_of, Rises}
use Rattle.repo_plan.specs.Parts.{Pair, pair_cmp, part_cmp, pair_of, part_of, record_of, parent}
use Rattle.repo_plan.specs.Plan.{is_wanted}
use Rattle.group_model.specs.Publications.{Logs, last_of, count, shape_at}
use Rattle.group_model.specs.Member.{Member, member_holds, has_deleted, plan_of}
use Rattle.group_model.specs.World.{World, no_sync, member, logs}

-- The publication `pair` was published.
pub record IsPublished (logs : Logs) (pair : Pair) : Type 0 where
  pub from_one : 1 ≤ pair.1
  pub to_last : pair.1 ≤ last_of logs pair.0

-- The part `t` is the record, an index packet or a segment of a publication that was published.
pub record IsPublishedPart (logs : Logs) (t : Part) : Type 0 where
  pub there : IsPublished logs (pair_of t)
  pub counted : t.part ≤ count logs (pair_of t)

-- The vector `known` reports the publication `pair`.
pub record IsKnown (known : List ℕ) (pair : Pair) : Type 0 where
  pub from_one : 1 ≤ pair.1
  pub to_known : pair.1 ≤ slice_index known pair.0

-- A vector reports no publication that there isn't.
abbrev pub IsWithinLogs : Logs → List ℕ → Type 0
IsWithinLogs logs v = (p : ℕ) → slice_index v p ≤ last_of logs p

-- A vector with one number for each member, which reports no publication that there isn't.
pub record IsConsistentVector (logs : Logs) (v : List ℕ) : Type 0 where
  pub width : length v ≡ length logs
  pub no_more : IsWithinLogs logs v

-- If the member is Suppressed, the join of the vectors that it heard since it was last Steady is a consistent vector.
abbrev pub HeardConsistently : Logs → Option (List ℕ) → Type 0
HeardConsistently logs None = Unit {0}
HeardConsistently logs (Some heard) = IsConsistentVector logs heard

-- The lists of a member are in order, each thing once, and no attempts are counted as 0.
pub record IsMemberInOrder (m : Member) : Type 0 where
  pub held : Rises part_cmp m.held
  pub hidden : Rises pair_cmp m.hidden
  pub attempts : Rises part_cmp (keys m.attempts)
  pub tried : (t : Part) (n : ℕ) → value_of part_cmp m.attempts t ≡ Some n → 0 < n

-- A held part is one of a known publication. The record of that publication is held too, and the part that lists it.
pub record IsHeldSoundly (logs : Logs) (vector : List ℕ) (held : List Part) (t : Part) : Type 0 where
  pub known : IsKnown vector (pair_of t)
  pub counted : t.part ≤ count logs (pair_of t)
  pub with_record : contains part_cmp held (record_of t) ≡ true
  pub with_parent : contains part_cmp held (parent (shape_at logs (pair_of t)) t) ≡ true

-- A deleted publication is known, and no part of it is held.
pub record IsDeletedSoundly (m : Member) (pair : Pair) : Type 0 where
  pub known : IsKnown m.known pair
  pub none_held : (x : ℕ) → member_holds m (part_of pair x) ≡ false

-- A sound member `j`. Its vector has one number for each member, and reports no publication that there isn't. Its own
-- publications are deleted or held whole; a claimed part is wanted; and two fetchers claim different parts.
pub record IsSoundMember (logs : Logs) (j : ℕ) (m : Member) : Type 0 where
  pub width : length m.known ≡ length logs
  pub fetchers : length m.claims ≡ 16
  pub in_order : IsMemberInOrder m
  pub known : IsWithinLogs logs m.known
  pub own : slice_index m.known j ≡ last_of logs j
  pub heard : HeardConsistently logs m.machine.heard
  pub held : (t : Part) → member_holds m t ≡ true → IsHeldSoundly logs m.known m.held t
  pub hidden : (pair : Pair) → has_deleted m pair ≡ true → IsDeletedSoundly m pair
  pub own_held : (s : ℕ) → IsPublished logs (j, s)
      → (has_deleted m (j, s) ≡ true) ⊎ ((x : ℕ) → x ≤ count logs (j, s) → member_holds m (part_of (j, s) x) ≡ true)
  pub claimed : (f : ℕ) (t : Part) → slice_index_or m.claims f None ≡ Some t → is_wanted (plan_of logs m) t ≡ true
  pub apart : (f g : ℕ) (t : Part) → slice_index_or m.claims f None ≡ Some t → slice_index_or m.claims g None ≡ Some t
      → f ≡ g

-- A group whose members are sound, and of which every sync Interest that was sent has a consistent vector.
pub record IsSoundGroup (w : World) : Type 0 where
  pub members : (j : ℕ) → j < length w.members → IsSoundMember (logs w) j (member w j)
  pub sent : (k : ℕ) → k < length w.sent → IsConsistentVector (logs w) (slice_index_or w.sent k no_sync).vector
