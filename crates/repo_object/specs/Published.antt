-- Publications of several publishers, and when their packets after the records are free of collisions.
use Rattle.std.specs.Prelude.{◌≡◌, ℕ, List, Some, Ok, slice_get}
use Rattle.sha2.specs.Sha256.{sha256}
use Rattle.ndn_data.specs.Data.{Data, data_of}
use Rattle.repo_object.specs.Objects.{Post, Publisher}
use Rattle.repo_object.specs.Publication.{packets_after}

-- A publication: who published what under which number.
pub record Published : Type 0 where
  pub publisher : Publisher
  pub seq : ℕ
  pub post : Post

-- The packets of the index packets and the segments of publication `p`.
abbrev pub after : Published → List (List ℕ)
after p = packets_after p.publisher p.seq p.post

-- An index packet or a segment of `p` and an index packet or a segment of `q` have the same octets if they have the
-- same name and the same digest.
abbrev pub AreCollisionFree : Published → Published → Type 0
AreCollisionFree p q =
    (i j : ℕ) (a b : List ℕ) (d e : Data)
    → slice_get (after p) i ≡ Some a → slice_get (after q) j ≡ Some b
    → data_of a ≡ Ok d → data_of b ≡ Ok e → d.name ≡ e.name
    → sha256 a ≡ sha256 b
    → a ≡ b

-- Any two publications of a family are free of collisions. `published` gives the publication of each `A`, for example
-- of each member and number in a group.
abbrev pub IsCollisionFree : {A : Type 0} → (A → Published) → Type 0
IsCollisionFree {A} published = (p q : A) → AreCollisionFree (published p) (published q)
