-- What a mirror of a group knows, holds, wants and lists.
use Rattle.std.specs.Prelude.{ℕ, ◌≡◌, ◌≤◌, ◌⊎◌, Bool, true, false, not, ◌&&◌, ◌||◌, List, [], ◌∷◌, ◌++◌, map, filter}
use Rattle.std.specs.Prelude.{◌==◌, if◌then◌else◌}
use Rattle.std.specs.List.{list_all, list_any}
use Rattle.repo_plan.specs.declared.part.Part.{Part}
use Rattle.sorted_lists.specs.SortedList.{contains, insert_key}
use Rattle.repo_plan.specs.Parts.{Pair, pair_cmp, part_cmp, pair_of, part_of, record_of, parent, parent_number}
use Rattle.repo_plan.specs.Plan.{PlanState}
use Rattle.repo_catalog.specs.declared.entry.Entry.{Entry}
use Rattle.repo_watch.specs.declared.pattern.Pattern.{Pattern}
use Rattle.repo_watch.specs.Patterns.{is_publisher, accepts}
use Rattle.group_model.specs.Publications.{Logs, Publication, pair_in, shape_at, count, parts_in, published, is_object}
use Rattle.group_model.specs.Publications.{object_in, withdraws, published_entry}
use Rattle.group_model.specs.Member.{Member, plan_of}
use Rattle.group_model.specs.World.{no_member, someone_holds}
use Rattle.group_model.specs.Sound.{IsKnown}
use Rattle.repo_mirror.specs.Asked.{asked_numbers, is_for}

-- What a mirror has, besides its pattern.
pub record Mirror : Type 0 where
  pub known : List ℕ  -- its vector: a SeqNo for each member
  pub kept : List Part  -- the parts that it keeps, in order: of objects that its pattern accepts, and withdrawals
  pub passed : List Pair  -- publications it got the record of, whose object its pattern refuses, in order
  pub attempts : List (Part × ℕ)  -- in order, without 0

-- The mirror holds the parts that it keeps, and the records that it passed over.
abbrev pub mirror_holds : Mirror → Part → Bool
mirror_holds m t = contains part_cmp m.kept t || (t.part == 0 && contains pair_cmp m.passed (pair_of t))

module _ (pattern : Pattern) where
  -- ---- what it wants

  -- A part that its publication has besides its record, whose digest a held part lists, of an object that the pattern
  -- is for.
  pub record IsPartAskedFor (logs : Logs) (m : Mirror) (t : Part) : Type 0 where
    pub from_one : 1 ≤ t.part
    pub counted : t.part ≤ count logs (pair_of t)
    pub with_parent : mirror_holds m (parent (shape_at logs (pair_of t)) t) ≡ true
    pub accepted : is_for pattern logs (pair_of t) ≡ true

  -- A part that the mirror wants: a record, or a part of `IsPartAskedFor`. It is of a known publication of a publisher
  -- that is asked, and it isn't held.
  pub record IsWantedByMirror (logs : Logs) (m : Mirror) (t : Part) : Type 0 where
    pub known : IsKnown m.known (pair_of t)
    pub publisher : is_publisher pattern.publisher t.publisher ≡ true
    pub part : (t.part ≡ 0) ⊎ IsPartAskedFor logs m t
    pub not_held : mirror_holds m t ≡ false

  -- ---- how it is kept: as a member that hides what it passed over, and knows of nobody that it doesn't ask

  -- The member that the mirror is kept as.
  abbrev pub as_member : Mirror → Member
  as_member m = record no_member {
    known = asked_numbers pattern.publisher 0 m.known;
    held = m.kept;
    hidden = m.passed;
    attempts = m.attempts;
  }

  -- The fetch plan of the mirror.
  abbrev pub mirror_plan : Logs → Mirror → PlanState
  mirror_plan logs m = plan_of logs (as_member m)

  -- ---- what holds of every mirror

  -- A part that the mirror keeps is one of a known publication of a publisher that is asked, and the pattern is for
  -- that publication. The mirror keeps the record too, and the part that lists it.
  pub record IsKeptSoundly (logs : Logs) (m : Mirror) (t : Part) : Type 0 where
    pub known : IsKnown m.known (pair_of t)
    pub publisher : is_publisher pattern.publisher t.publisher ≡ true
    pub counted : t.part ≤ count logs (pair_of t)
    pub with_record : contains part_cmp m.kept (record_of t) ≡ true
    pub with_parent : contains part_cmp m.kept (parent (shape_at logs (pair_of t)) t) ≡ true
    pub accepted : is_for pattern logs (pair_of t) ≡ true

  -- A publication that the mirror passed over is a known one of a publisher that is asked, and an object that the
  -- pattern isn't for.
  pub record IsPassedSoundly (logs : Logs) (m : Mirror) (pair : Pair) : Type 0 where
    pub known : IsKnown m.known pair
    pub publisher : is_publisher pattern.publisher pair.0 ≡ true
    pub not_accepted : is_for pattern logs pair ≡ false

  -- A mirror is sound if it keeps each of its parts soundly, and passed over each of its publications soundly.
  pub record IsSoundMirror (logs : Logs) (m : Mirror) : Type 0 where
    pub kept : (t : Part) → contains part_cmp m.kept t ≡ true → IsKeptSoundly logs m t
    pub passed : (pair : Pair) → contains pair_cmp m.passed pair ≡ true → IsPassedSoundly logs m pair

  -- ---- a part that it receives: the record of an object that the pattern doesn't accept is passed over

  -- The mirror after it received a part.
  abbrev pub mirror_gains : Logs → Part → Mirror → Mirror
  mirror_gains logs t m =
      if is_for pattern logs (pair_of t)
      then record m { kept = insert_key part_cmp t m.kept }
      else record m { passed = insert_key pair_cmp (pair_of t) m.passed }

  -- The mirror after it received the parts of a list, one after another.
  abbrev pub mirror_gains_all : Logs → List Part → Mirror → Mirror
  mirror_gains_all logs [] m = m
  mirror_gains_all logs (t ∷ ts) m = mirror_gains_all logs ts (mirror_gains logs t m)

  -- Each part of a list is wanted once those before it are held, and is held by someone.
  abbrev pub ComeInTurn : Logs → List Member → List Part → Mirror → Type 0
  ComeInTurn logs members [] m = Unit {0}
  ComeInTurn logs members (t ∷ ts) m =
      IsWantedByMirror logs m t × (someone_holds members t ≡ true) × ComeInTurn logs members ts (mirror_gains logs t m)

  -- ---- what it lists

  -- The record of a withdrawal of the publication is held.
  abbrev pub mirror_knows_withdrawn : List Publication → Mirror → Pair → Bool
  mirror_knows_withdrawn publications m pair =
      list_any (λ q. withdraws pair q && mirror_holds m (part_of (pair_in q) 0)) publications

  -- The publication is an object that the pattern accepts.
  abbrev pub is_object_accepted : Publication → Bool
  is_object_accepted p = is_object p && accepts pattern p.publisher (object_in p).name

  -- An object that the pattern accepts, of which the mirror holds every part and no withdrawal.
  abbrev pub is_listed_by_mirror : List Publication → Mirror → Publication → Bool
  is_listed_by_mirror publications m p =
      is_object_accepted p
      && (list_all (mirror_holds m) (parts_in p) && not (mirror_knows_withdrawn publications m (pair_in p)))

  -- The mirror's catalogue: an entry for each object that it lists, in order.
  abbrev pub mirror_catalogue : Logs → Mirror → List Entry
  mirror_catalogue logs m = map published_entry (filter (is_listed_by_mirror (published logs) m) (published logs))

  -- The pattern accepts the entry's object.
  abbrev pub is_entry_accepted : Entry → Bool
  is_entry_accepted e = accepts pattern e.publisher e.name

-- A part alone, unless it is held.
abbrev pub unless_held : Mirror → Part → List Part
unless_held m t = if mirror_holds m t then [] else t ∷ []

-- The parts that a mirror gains until it holds the part `t`: its record and the index packet that lists it, unless they
-- were held before, and then `t`.
abbrev pub path_to : Logs → Mirror → Part → List Part
path_to logs m t =
    if t.part == 0 then t ∷ []
    else if parent_number (shape_at logs (pair_of t)) t.part == 0 then unless_held m (record_of t) ++ t ∷ []
    else unless_held m (record_of t) ++ (unless_held m (parent (shape_at logs (pair_of t)) t) ++ t ∷ [])
