-- What nobody lacks. Members lack no part that someone holds of a publication that wasn't touched since all members
-- settled. Mirrors lack no such part of one that wasn't touched since all mirrors settled.
use Rattle.std.specs.Prelude.{ℕ, ◌≡◌, ◌⊎◌, ◌<◌, Bool, true, false, List, length, Option}
use Rattle.sorted_lists.specs.SortedList.{contains}
use Rattle.repo_plan.specs.declared.part.Part.{Part}
use Rattle.repo_plan.specs.Parts.{Pair, pair_cmp, pair_of}
use Rattle.repo_watch.specs.Patterns.{is_publisher}
use Rattle.group_model.specs.Member.{Member}
use Rattle.group_model.specs.World.{someone_holds}
use Rattle.repo_mirror.specs.Mirrors.{mirror_holds}
use Rattle.repo_mirror.specs.MirrorState.{MirrorState}
use Rattle.repo_mirror.specs.ConsistentMirrors.{mirror_in_group}
use Rattle.bench_world.specs.declared.touched.Touched.{Touched}
use Rattle.bench_world.specs.declared.unsettled.Unsettled.{Unsettled}
use Rattle.bench_world.specs.MirrorSteps.{mirror_at}
use Rattle.bench_world.specs.Touching.{touches, NotesAny, NoneLacks}

-- Of each publication that wasn't touched and whose publisher fits the pattern of the mirror `m`, the mirror holds
-- every part that passes `held`, unless it passed the publication over.
abbrev pub MirrorLacksNone : Touched → (Part → Bool) → MirrorState → Type 0
MirrorLacksNone n held m =
    (t : Part) → held t ≡ true → touches n (pair_of t) ≡ false
    → is_publisher m.pattern.publisher t.publisher ≡ true
    → (mirror_holds (mirror_in_group m) t ≡ true) ⊎ (contains pair_cmp m.passed (pair_of t) ≡ true)

-- Of each publication that wasn't touched and whose publisher fits its pattern, every mirror holds each part that some
-- member holds, unless it passed the publication over.
abbrev pub MirrorsLackNone : Touched → List Member → List MirrorState → Type 0
MirrorsLackNone n members mirrors =
    (i : ℕ) → i < length mirrors → MirrorLacksNone n (someone_holds members) (mirror_at mirrors i)

-- Members lack parts only of publications in `u.members`, and mirrors only of publications in `u.mirrors`.
pub record NobodyLacks (u : Unsettled) (group : List Member) (asking : List MirrorState) : Type 0 where
  pub members : NoneLacks u.members group
  pub mirrors : MirrorsLackNone u.mirrors group asking

-- The publication `o`, if there is one, is noted for members and for mirrors.
pub record NotesBoth (old : Unsettled) (o : Option Pair) (new : Unsettled) : Type 0 where
  pub members : NotesAny old.members o new.members
  pub mirrors : NotesAny old.mirrors o new.mirrors
