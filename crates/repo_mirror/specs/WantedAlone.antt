-- What a mirror is to want, by its vector and by what it stores and passed over.
use Rattle.std.specs.Prelude.{◌≡◌, ◌≤◌, ◌⊎◌, ◌↔◌, true, false, Some}
use Rattle.repo_plan.specs.declared.part.Part.{Part}
use Rattle.repo_plan.specs.Parts.{pair_of, parent, last_part}
use Rattle.repo_plan.specs.Plan.{is_wanted}
use Rattle.repo_object.specs.Publication.{Listed}
use Rattle.repo_holdings.specs.Listed.{listed_shape, listing_at}
use Rattle.repo_watch.specs.Patterns.{is_publisher, accepts}
use Rattle.group_model.specs.Sound.{IsKnown}
use Rattle.repo_mirror.specs.Mirrors.{mirror_holds}
use Rattle.repo_mirror.specs.MirrorState.{MirrorState, fetch_plan}
use Rattle.repo_mirror.specs.ConsistentMirrors.{mirror_in_group}

-- A part that its publication's stored record counts, and whose digest a held part lists, of an object that the pattern
-- is for.
pub record IsPartListed (m : MirrorState) (t : Part) : Type 0 where
  pub listing : Listed
  pub listed : listing_at m.store (pair_of t) ≡ Some listing
  pub from_one : 1 ≤ t.part
  pub counted : t.part ≤ last_part (listed_shape listing)
  pub with_parent : mirror_holds (mirror_in_group m) (parent (listed_shape listing) t) ≡ true
  pub accepted : accepts m.pattern t.publisher listing.name ≡ true

-- A part that the mirror wants: a record, or a part of `IsPartListed`. It is of a known publication of a publisher that
-- is asked, and it isn't held.
pub record IsWantedAlone (m : MirrorState) (t : Part) : Type 0 where
  pub known : IsKnown m.known (pair_of t)
  pub publisher : is_publisher m.pattern.publisher t.publisher ≡ true
  pub part : (t.part ≡ 0) ⊎ IsPartListed m t
  pub not_held : mirror_holds (mirror_in_group m) t ≡ false

-- The mirror's fetch plan wants just the parts of `IsWantedAlone`.
abbrev pub WantsThose : MirrorState → Type 0
WantsThose m = (t : Part) → (is_wanted (fetch_plan m) t ≡ true) ↔ IsWantedAlone m t
