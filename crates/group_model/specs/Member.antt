-- What one member of a group has published, knows, holds, has deleted and claims.
use Rattle.std.specs.Prelude.{ℕ, ◌+◌, Bool, not, List, [], ◌∷◌, map, filter, Option, unwrap_or, ◌==◌, ◌&&◌}
use Rattle.std.specs.Prelude.{if◌then◌else◌}
use Rattle.std.specs.List.{list_all, list_any}
use Rattle.ndn_name.specs.Names.{Component}
use Rattle.repo_plan.specs.declared.part.Part.{Part}
use Rattle.sorted_lists.specs.SortedList.{contains, insert_key, value_of, with_value}
use Rattle.repo_plan.specs.Parts.{Pair, pair_cmp, part_cmp, pair_of, part_of}
use Rattle.repo_plan.specs.declared.shape.Shape.{Shape}
use Rattle.repo_plan.specs.Plan.{PlanState, no_claims, is_in}
use Rattle.svs_sync.specs.SyncStates.{SyncState}
use Rattle.repo_object.specs.Objects.{Post}
use Rattle.repo_catalog.specs.declared.entry.Entry.{Entry}
use Rattle.group_model.specs.Publications.{Logs, Publication, shape_at, pair_in, parts_in, published, published_entry}
use Rattle.group_model.specs.Publications.{is_object, withdraws, object_in}
use Rattle.repo_process.specs.Processes.{Process}
use Rattle.group_model.specs.Commands.{is_equal_name}

-- One member of a group.
pub record Member : Type 0 where
  pub log : List Post  -- what it published, in order
  pub known : List ℕ  -- its vector: a SeqNo for each member
  pub held : List Part  -- in order
  pub hidden : List Pair  -- what it deleted, in order
  pub claims : List (Option Part)  -- by fetcher; the first stands at place 0
  pub attempts : List (Part × ℕ)  -- in order, without 0
  pub machine : SyncState
  pub processes : List (ℕ × Process)  -- insertion processes, by number
  pub next_process : ℕ

-- The member holds the part.
abbrev pub member_holds : Member → Part → Bool
member_holds m t = contains part_cmp m.held t

-- The member has deleted the publication.
abbrev pub has_deleted : Member → Pair → Bool
has_deleted m pair = contains pair_cmp m.hidden pair

-- ---- wanted parts

-- The part counts of each publication whose record is held.
abbrev pub held_shapes : Logs → List Part → List (Pair × Shape)
held_shapes logs held = map (λ t. (pair_of t, shape_at logs (pair_of t))) (filter (λ t. t.part == 0) held)

-- The fetch plan of a member. What it wants and what its fetchers claim is read there.
abbrev pub plan_of : Logs → Member → PlanState
plan_of logs m = record {
  known = m.known;
  held = m.held;
  shapes = held_shapes logs m.held;
  claims = m.claims;
  hidden = m.hidden;
  attempts = m.attempts;
  spare = 0;
}

-- ---- the catalogue

-- Every part of the publication is held.
abbrev pub holds_all : Member → Publication → Bool
holds_all m p = list_all (member_holds m) (parts_in p)

-- The record of a withdrawal of the publication is held.
abbrev pub knows_withdrawn : List Publication → Member → Pair → Bool
knows_withdrawn publications m pair =
    list_any (λ q. withdraws pair q && member_holds m (part_of (pair_in q) 0)) publications

-- An object that is held whole, and of which no withdrawal is known.
abbrev pub is_listed : List Publication → Member → Publication → Bool
is_listed publications m p = is_object p && (holds_all m p && not (knows_withdrawn publications m (pair_in p)))

-- The publications that a member lists, in order.
abbrev pub catalogued : Logs → Member → List Publication
catalogued logs m = filter (is_listed (published logs) m) (published logs)

-- A member's catalogue: an entry for each publication that it lists, in order.
abbrev pub catalogue : Logs → Member → List Entry
catalogue logs m = map published_entry (catalogued logs m)

-- The publications that a member lists under one object name.
abbrev pub catalogued_under : Logs → Member → List Component → List Publication
catalogued_under logs m name = filter (λ p. is_equal_name (object_in p).name name) (catalogued logs m)

-- ---- changes

-- The set `held` with the parts of a list too.
abbrev pub insert_keys : List Part → List Part → List Part
insert_keys [] held = held
insert_keys (t ∷ ts) held = insert_keys ts (insert_key part_cmp t held)

-- The member holds the parts `ts` too.
abbrev pub gains : List Part → Member → Member
gains ts m = record m { held = insert_keys ts m.held }

-- A publication is deleted for good, and none of its parts is held.
abbrev pub deletes_publication : Pair → Member → Member
deletes_publication pair m = record m {
  held = filter (λ t. not (is_in pair t)) m.held;
  hidden = insert_key pair_cmp pair m.hidden;
}

-- The member deletes the publications of a list.
abbrev pub deletes_all : List Publication → Member → Member
deletes_all [] m = m
deletes_all (p ∷ ps) m = deletes_all ps (deletes_publication (pair_in p) m)

-- How often a part was tried.
abbrev pub tries_of : List (Part × ℕ) → Part → ℕ
tries_of tried t = unwrap_or (value_of part_cmp tried t) 0

-- The part `t` was tried `n` times more.
abbrev pub with_tries : Part → ℕ → List (Part × ℕ) → List (Part × ℕ)
with_tries t n tried = if n == 0 then tried else with_value part_cmp t (tries_of tried t + n) tried

-- Each part `t` of a list was tried `more t` times more.
abbrev pub with_each_tried : (Part → ℕ) → List Part → List (Part × ℕ) → List (Part × ℕ)
with_each_tried more [] tried = tried
with_each_tried more (t ∷ ts) tried = with_each_tried more ts (with_tries t (more t) tried)

-- No fetcher claims a part.
abbrev pub member_without_claims : Member → Member
member_without_claims m = record m { claims = no_claims }
