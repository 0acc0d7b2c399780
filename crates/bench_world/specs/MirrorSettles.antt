-- What a settle makes of mirrors, and what it leaves when memory runs out.
use Rattle.std.specs.Prelude.{ℕ, ◌≡◌, ◌≤◌, ◌<◌, true, false, List, length, filter, slice_index, sum_by}
use Rattle.svs_vector.specs.Vectors.{join}
use Rattle.sorted_lists.specs.SortedList.{contains}
use Rattle.repo_plan.specs.declared.part.Part.{Part}
use Rattle.repo_plan.specs.Parts.{Pair, pair_cmp}
use Rattle.repo_holdings.specs.Listed.{member_catalogue}
use Rattle.group_model.specs.Publications.{join_of}
use Rattle.group_model.specs.World.{World, logs}
use Rattle.group_model.specs.Steps.{settled_vector}
use Rattle.repo_mirror.specs.Mirrors.{mirror_holds, ComeInTurn, is_entry_accepted, path_to}
use Rattle.repo_mirror.specs.MirrorLaws.{GainsThose, WantsNothingHeld, learns_all}
use Rattle.repo_member.specs.Groups.{GroupKeys}
use Rattle.repo_mirror.specs.MirrorState.{MirrorState}
use Rattle.repo_mirror.specs.ConsistentMirrors.{mirror_in_group, IsConsistentMirror}
use Rattle.bench_world.specs.MirrorSteps.{mirror_at}
use Rattle.bench_world.specs.MirrorWords.{mirror_held}

-- A mirror has settled: its vector is the join of the old one and all members' vectors. It holds its old parts, and
-- besides them just the parts that end a list of parts of which each is held by some member and is wanted once those
-- before it are held.
pub record HasSettled (w : World) (old new : MirrorState) : Type 0 where
  pub pattern : new.pattern ≡ old.pattern
  pub attempts : new.attempts ≡ old.attempts
  pub known : new.known ≡ join old.known (settled_vector w)
  pub kept : (t : Part) → mirror_holds (mirror_in_group old) t ≡ true → mirror_holds (mirror_in_group new) t ≡ true
  pub gains : GainsThose old.pattern (logs w) w.members (learns_all w (mirror_in_group old)) (mirror_in_group new)
  pub rest : WantsNothingHeld old.pattern (logs w) w.members (mirror_in_group new)

-- Every mirror has settled.
abbrev pub HaveSettled : World → List MirrorState → List MirrorState → Type 0
HaveSettled w old new = (i : ℕ) → i < length old → HasSettled w (mirror_at old i) (mirror_at new i)

-- How many parts a mirror holds, the records that it passed over included.
abbrev pub held_by : MirrorState → ℕ
held_by m = length (mirror_held m)

-- How many parts the mirrors hold together.
abbrev pub held_by_all : List MirrorState → ℕ
held_by_all mirrors = sum_by held_by mirrors

-- The mirror's catalogue is what its pattern accepts of the join of all publications.
abbrev pub ListsItsJoin : World → MirrorState → Type 0
ListsItsJoin w m = member_catalogue m.store ≡ filter (is_entry_accepted m.pattern) (join_of (logs w))

-- A mirror is partly settled: each number of its vector is between the old and the settled one, it holds its old parts
-- and only parts that it would have held, and what it had passed over is still passed over.
pub record IsPartlySettledMirror (w : World) (old new : MirrorState) : Type 0 where
  pub pattern : new.pattern ≡ old.pattern
  pub attempts : new.attempts ≡ old.attempts
  pub known_more : (p : ℕ) → slice_index old.known p ≤ slice_index new.known p
  pub known_less : (p : ℕ) → slice_index new.known p ≤ slice_index (join old.known (settled_vector w)) p
  pub kept : (t : Part) → mirror_holds (mirror_in_group old) t ≡ true → mirror_holds (mirror_in_group new) t ≡ true
  pub passed : (pair : Pair) → contains pair_cmp old.passed pair ≡ true → contains pair_cmp new.passed pair ≡ true
  pub only : (t : Part) → mirror_holds (mirror_in_group new) t ≡ true → mirror_holds (mirror_in_group old) t ≡ false
      → ComeInTurn old.pattern (logs w) w.members (path_to (logs w) (learns_all w (mirror_in_group old)) t)
      (learns_all w (mirror_in_group old))

-- Every mirror is partly settled.
abbrev pub ArePartlySettledMirrors : World → List MirrorState → List MirrorState → Type 0
ArePartlySettledMirrors w old new =
    (i : ℕ) → i < length old → IsPartlySettledMirror w (mirror_at old i) (mirror_at new i)

-- ---- one mirror after another

-- The mirrors below number `j` have settled, and the others are as in `begun`.
pub record SettledSoFar (g : GroupKeys) (w : World) (begun : List MirrorState) (j : ℕ) (new : List MirrorState)
    : Type 0 where
  pub len : length new ≡ length begun
  pub consistent : (i : ℕ) → i < length new → IsConsistentMirror g (logs w) (mirror_at new i)
  pub partly : ArePartlySettledMirrors w begun new
  pub done : (i : ℕ) → i < j → HasSettled w (mirror_at begun i) (mirror_at new i)
  pub still : (i : ℕ) → j ≤ i → mirror_at new i ≡ mirror_at begun i
