-- The laws of mirrors.
use Rattle.std.specs.Prelude.{ℕ, ◌≡◌, ◌⊎◌, ◌↔◌, true, false, ◌||◌, List, filter, slice_index}
use Rattle.std.specs.Ordering.{eq_by_cmp}
use Rattle.svs_vector.specs.Vectors.{join}
use Rattle.repo_plan.specs.declared.part.Part.{Part}
use Rattle.sorted_lists.specs.SortedList.{contains}
use Rattle.repo_plan.specs.Parts.{part_cmp}
use Rattle.repo_plan.specs.Plan.{is_wanted}
use Rattle.repo_watch.specs.declared.pattern.Pattern.{Pattern}
use Rattle.group_model.specs.Publications.{Logs, last_of, join_of}
use Rattle.group_model.specs.Member.{Member, catalogue}
use Rattle.group_model.specs.World.{World, logs, someone_holds}
use Rattle.group_model.specs.Steps.{settled_vector}
use Rattle.group_model.specs.Sound.{IsSoundGroup, IsConsistentVector}
use Rattle.group_model.specs.Laws.{NothingDeleted}
use Rattle.repo_mirror.specs.Mirrors.{Mirror, mirror_holds, IsWantedByMirror, as_member, mirror_plan, IsSoundMirror}
use Rattle.repo_mirror.specs.Mirrors.{mirror_gains, mirror_gains_all, ComeInTurn, path_to, mirror_catalogue}
use Rattle.repo_mirror.specs.Mirrors.{is_entry_accepted}

-- The plan of a mirror wants just the parts that a mirror is to want.
abbrev pub MirrorsWantThose : Type 0
MirrorsWantThose = (pattern : Pattern) (logs : Logs) (m : Mirror) (t : Part) → IsSoundMirror pattern logs m
    → (is_wanted (mirror_plan pattern logs m) t ≡ true) ↔ IsWantedByMirror pattern logs m t

-- A mirror that gains the part `t` is sound, and holds `t` and what it held before.
pub record GainsPart (pattern : Pattern) (logs : Logs) (t : Part) (m : Mirror) : Type 0 where
  pub sound : IsSoundMirror pattern logs (mirror_gains pattern logs t m)
  pub held : (u : Part) → mirror_holds (mirror_gains pattern logs t m) u ≡ (eq_by_cmp part_cmp u t || mirror_holds m u)

-- A sound mirror gains a part that it wants, and stays sound.
abbrev pub MirrorsGain : Type 0
MirrorsGain = (pattern : Pattern) (logs : Logs) (m : Mirror) (t : Part) → IsSoundMirror pattern logs m
    → IsWantedByMirror pattern logs m t → GainsPart pattern logs t m

-- A mirror's catalogue is that of the member that it is kept as.
abbrev pub MirrorsList : Type 0
MirrorsList = (pattern : Pattern) (logs : Logs) (m : Mirror) → IsSoundMirror pattern logs m
    → catalogue logs (as_member pattern m) ≡ mirror_catalogue pattern logs m

-- No member holds a part that the mirror still wants.
abbrev pub WantsNothingHeld : Pattern → Logs → List Member → Mirror → Type 0
WantsNothingHeld pattern logs members m =
    (t : Part) → IsWantedByMirror pattern logs m t → someone_holds members t ≡ false

-- A mirror that gains wanted parts one by one, until no member holds one that it wants, holds in the end every part
-- that it could gain so, in whatever order.
abbrev pub SettledHoldThose : Type 0
SettledHoldThose = (pattern : Pattern) (logs : Logs) (members : List Member) (m : Mirror) (came : List Part)
    → IsSoundMirror pattern logs m → ComeInTurn pattern logs members came m
    → WantsNothingHeld pattern logs members (mirror_gains_all pattern logs came m)
    → (any : List Part) → ComeInTurn pattern logs members any m
    → (t : Part) → contains part_cmp any t ≡ true
    → mirror_holds (mirror_gains_all pattern logs came m) t ≡ true

-- A mirror that fetches parts in a settle: it knows and holds what it did, and each part that it gained is held by some
-- member.
pub record IsGathering (pattern : Pattern) (logs : Logs) (members : List Member) (m new : Mirror) : Type 0 where
  pub known : new.known ≡ m.known
  pub sound : IsSoundMirror pattern logs new
  pub kept : (t : Part) → mirror_holds m t ≡ true → mirror_holds new t ≡ true
  pub came : (t : Part) → mirror_holds new t ≡ true → (mirror_holds m t ≡ true) ⊎ (someone_holds members t ≡ true)

-- The mirror has gained only parts for which there is a list of parts that ends with them, each wanted once those
-- before it are held, and each held by someone. Where it wants nothing any more that someone holds, it has gained all
-- of them.
pub record GainsThose (pattern : Pattern) (logs : Logs) (members : List Member) (m new : Mirror) : Type 0 where
  pub only : (t : Part) → mirror_holds new t ≡ true → mirror_holds m t ≡ false
      → ComeInTurn pattern logs members (path_to logs m t) m
  pub all : WantsNothingHeld pattern logs members new → (any : List Part) → ComeInTurn pattern logs members any m
      → (t : Part) → contains part_cmp any t ≡ true → mirror_holds new t ≡ true

-- A sound mirror that gathers in a settle gains just the parts of `GainsThose`.
abbrev pub GatheringGainsThose : Type 0
GatheringGainsThose = (pattern : Pattern) (logs : Logs) (members : List Member) (m new : Mirror)
    → IsSoundMirror pattern logs m → IsGathering pattern logs members m new → GainsThose pattern logs members m new

-- The mirror knows the number of each publisher's last publication.
abbrev pub KnowsAll : World → Mirror → Type 0
KnowsAll w m = (p : ℕ) → slice_index m.known p ≡ last_of (logs w) p

-- The mirror joins the vectors of all members to its own, as in a settle.
abbrev pub learns_all : World → Mirror → Mirror
learns_all w m = record m { known = join m.known (settled_vector w) }

-- A mirror that joins the vectors of all members to its own knows all publications.
abbrev pub MirrorsLearnAll : Type 0
MirrorsLearnAll = (w : World) (m : Mirror) → IsSoundGroup w → IsConsistentVector (logs w) m.known
    → KnowsAll w (learns_all w m)

-- A mirror that knows all and wants nothing that anyone holds lists, where no member hides anything, just what its
-- pattern accepts of the join of all publications.
abbrev pub MirrorsJoin : Type 0
MirrorsJoin = (pattern : Pattern) (w : World) (m : Mirror) → IsSoundGroup w → NothingDeleted w
    → IsSoundMirror pattern (logs w) m → KnowsAll w m → WantsNothingHeld pattern (logs w) w.members m
    → mirror_catalogue pattern (logs w) m ≡ filter (is_entry_accepted pattern) (join_of (logs w))
