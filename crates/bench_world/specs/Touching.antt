-- The publications of which somebody gained something since all settled last, and that nobody lacks a part of any other
-- publication.
use Rattle.std.specs.Prelude.{ℕ, ◌≡◌, ◌⊎◌, ◌<◌, Bool, true, false, ◌&&◌, ◌||◌, List, length, slice_index_or, Option}
use Rattle.std.specs.Prelude.{Some, None}
use Rattle.sorted_lists.specs.SortedList.{keys, contains}
use Rattle.repo_plan.specs.declared.part.Part.{Part}
use Rattle.repo_plan.specs.Parts.{Pair, pair_cmp, pair_of}
use Rattle.repo_plan.specs.Plan.{holds, hides, knows}
use Rattle.repo_plan.specs.Leaps.{some_holds}
use Rattle.repo_holdings.specs.HoldingsState.{held_plan}
use Rattle.group_model.specs.Member.{Member, member_holds, has_deleted}
use Rattle.group_model.specs.World.{no_member, someone_holds}
use Rattle.repo_member.specs.declared.member.block.Blocked.{Blocked}
use Rattle.repo_member.specs.declared.member.block.Blocked.TheVariants as blocked
use Rattle.repo_member.specs.MemberState.{MemberState, member_plan}
use Rattle.bench_world.specs.declared.touched.Touched.{Touched}
use Rattle.bench_world.specs.Lending.{lends}
use Rattle.bench_world.specs.Holders.{HolderPredicates, has}

-- Whether the publication `pair` is touched.
abbrev pub touches : Touched → Pair → Bool
touches n pair = n.all || contains pair_cmp (keys n.publications.entries) pair

-- The publication `pair` is touched in `new`, and so is each that is touched in `old`.
pub record Notes (old : Touched) (pair : Pair) (new : Touched) : Type 0 where
  pub there : touches new pair ≡ true
  pub kept : (q : Pair) → touches old q ≡ true → touches new q ≡ true

-- Each publication that is touched in `old` is touched in `new`, and so is the given one, if there is one.
abbrev pub NotesAny : Touched → Option Pair → Touched → Type 0
NotesAny old None new = (q : Pair) → touches old q ≡ true → touches new q ≡ true
NotesAny old (Some pair) new = Notes old pair new

-- The publication that a block of a member completed, if it completed one.
abbrev pub blocked_pair : ℕ → Blocked → Option Pair
blocked_pair m blocked.Unknown = None
blocked_pair m blocked.Waiting = None
blocked_pair m blocked.Already = None
blocked_pair m (blocked.Published published) = Some (m, published.seq)

-- ---- what is searched for

-- A member holds the part.
abbrev pub held_in : MemberState → Part → Bool
held_in a t = holds (member_plan a) t

-- One of these members holds the part `t`.
abbrev pub one_holds : List MemberState → Part → Bool
one_holds members t = some_holds held_in members t

-- One of these members holds the part `t`, and the publication of the part was touched.
abbrev pub lend_touched : List MemberState → Touched → Part → Bool
lend_touched members n t = one_holds members t && touches n (pair_of t)

-- ---- what nobody lacks

module _ {H : Type 0} (words : HolderPredicates H) where
  -- Of each publication that it knows and that wasn't touched, the holder `s` has every part that `others` store,
  -- unless it hides the publication.
  abbrev pub LacksOnlyTouched : Touched → List MemberState → H → Type 0
  LacksOnlyTouched n others s =
      (t : Part) → lends others t ≡ true → touches n (pair_of t) ≡ false
      → knows (held_plan (words.holdings s)) (pair_of t) ≡ true
      → (has words s t ≡ true) ⊎ (hides (held_plan (words.holdings s)) (pair_of t) ≡ true)

-- Of each publication that wasn't touched, the member `m` holds every part that passes `held`, unless it deleted the
-- publication.
abbrev pub MemberLacksNone : Touched → (Part → Bool) → Member → Type 0
MemberLacksNone n held m =
    (t : Part) → held t ≡ true → touches n (pair_of t) ≡ false
    → (member_holds m t ≡ true) ⊎ (has_deleted m (pair_of t) ≡ true)

-- Of each publication that wasn't touched, every member holds each part that some member holds, unless it deleted the
-- publication.
abbrev pub NoneLacks : Touched → List Member → Type 0
NoneLacks n members =
    (j : ℕ) → j < length members → MemberLacksNone n (someone_holds members) (slice_index_or members j no_member)
