-- What catalogues list, in the group's own words.
use Rattle.std.specs.Prelude.{ℕ, ◌≡◌, ◌≤◌, ◌<◌, ◌↔◌, true, false, is_some, length}
use Rattle.repo_plan.specs.Parts.{Pair, part_of}
use Rattle.repo_catalog.specs.Entries.{IsCatalogue, lists}
use Rattle.repo_object.specs.Objects.{offered, withdraws_number}
use Rattle.group_model.specs.Publications.{Logs, count, post_at, join_of}
use Rattle.group_model.specs.Member.{Member, member_holds, has_deleted, catalogue}
use Rattle.group_model.specs.World.{Environment, World, member, logs, catalogue_at}
use Rattle.group_model.specs.Sound.{IsPublished}

-- The member holds the record of no withdrawal of the publication.
abbrev pub HoldsNoWithdrawal : Logs → Member → Pair → Type 0
HoldsNoWithdrawal logs m pair = (u : ℕ) → IsPublished logs (pair.0, u)
    → withdraws_number (post_at logs (pair.0, u)) pair.1 ≡ true → member_holds m (part_of (pair.0, u) 0) ≡ false

-- What a member lists is an object that there is, of which it holds every part, and no withdrawal's record.
pub record BelongsInCatalogue (logs : Logs) (m : Member) (pair : Pair) : Type 0 where
  pub published : IsPublished logs pair
  pub object : is_some (offered (post_at logs pair)) ≡ true
  pub held : (x : ℕ) → x ≤ count logs pair → member_holds m (part_of pair x) ≡ true
  pub not_withdrawn : HoldsNoWithdrawal logs m pair

-- Member `j` lists just the publications that belong in its catalogue, and none that it has deleted.
pub record ListsRightly (w : World) (j : ℕ) (pair : Pair) : Type 0 where
  pub exactly : (lists pair (catalogue_at w j) ≡ true) ↔ BelongsInCatalogue (logs w) (member w j) pair
  pub not_hidden : has_deleted (member w j) pair ≡ true → lists pair (catalogue_at w j) ≡ false

-- Every member lists rightly.
abbrev pub ListsThose : Environment → World → Type 0
ListsThose env w = (j : ℕ) (pair : Pair) → j < length w.members → ListsRightly w j pair

-- A catalogue lists its entries in order of publisher and number, each once.
abbrev pub ListsInOrder : Type 0
ListsInOrder = (logs : Logs) (m : Member) → IsCatalogue (catalogue logs m)

-- ---- the join of all publications

-- What the join lists is an object that there is, and that no publication of its publisher withdraws.
pub record BelongsInJoin (logs : Logs) (pair : Pair) : Type 0 where
  pub published : IsPublished logs pair
  pub object : is_some (offered (post_at logs pair)) ≡ true
  pub not_withdrawn : (u : ℕ) → IsPublished logs (pair.0, u)
      → withdraws_number (post_at logs (pair.0, u)) pair.1 ≡ false

-- The join of all publications lists just the objects that belong in it.
abbrev pub JoinListsThose : Type 0
JoinListsThose = (logs : Logs) (pair : Pair) → (lists pair (join_of logs) ≡ true) ↔ BelongsInJoin logs pair

-- The join of all publications lists its entries in order of publisher and number, each once.
abbrev pub JoinListsInOrder : Type 0
JoinListsInOrder = (logs : Logs) → IsCatalogue (join_of logs)
