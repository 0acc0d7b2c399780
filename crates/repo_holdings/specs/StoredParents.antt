-- The stored parts that list others, as they were read: records, and index packets.
use Rattle.std.specs.Prelude.{◌≡◌, ℕ, ◌-◌, ◌*◌, ◌<◌, ◌≤◌, ◌==◌, nat_le, List, [], Option, Some, None}
use Rattle.std.specs.Prelude.{IfSome, IsSome, slice_get, unwrap_or, if◌then◌else◌}
use Rattle.std.specs.Option.{option_and_then}
use Rattle.repo_plan.specs.declared.part.Part.{Part}
use Rattle.repo_plan.specs.Parts.{Pair, most_listed, pair_of, parent, parent_number, last_part}
use Rattle.repo_plan.specs.declared.shape.Shape.{Shape}
use Rattle.repo_object.specs.Publication.{Listed}
use Rattle.repo_object.specs.Verdict.{index_in}
use Rattle.repo_object.specs.Wants.{listed_in}
use Rattle.repo_holdings.specs.Records.{Packet}
use Rattle.repo_holdings.specs.Listed.{stored_at, listing_at, listed_shape}
use Rattle.repo_holdings.specs.declared.holdings.stored_parent.StoredParent.{StoredParent}

-- how many digests the packet of part `x` lists, if that is an index packet of the object `l`
abbrev pub index_count : ℕ → Listed → Option ℕ
index_count x l =
    if x == 0 then None
    else if nat_le x (listed_shape l).index then Some (listed_in l.segments (x - 1))
    else None

-- how many digests the packet of a part must list, as the stored record says: only index packets list some
abbrev pub lists_at : List Packet → Part → Option ℕ
lists_at packets t = option_and_then (index_count t.part) (listing_at packets (pair_of t))

-- the packet lists `count` digests, where `count` is a number
abbrev pub ListsAsMany : List ℕ → Option ℕ → Type 0
ListsAsMany octets count = IfSome count (λ n. IsSome (index_in octets n))

-- the digests that the index packet `x` of a publication of `segments` segments lists, if that is stored
abbrev pub index_at : List Packet → Pair → ℕ → ℕ → Option (List (List ℕ))
index_at packets pair segments x =
    option_and_then (λ octets. index_in octets (listed_in segments (x - 1))) (stored_at packets pair x)

-- the digests that part `x` of a publication lists: the record, or an index packet
abbrev pub digests_at : List Packet → Pair → Listed → ℕ → List (List ℕ)
digests_at packets pair l x = if x == 0 then l.digests else unwrap_or (index_at packets pair l.segments x) []

-- where the digest of a segment stands among those that are listed with it: the record lists all, and each index packet
-- the next 200
abbrev pub place_listed : Shape → ℕ → ℕ
place_listed shape x =
    if shape.index == 0 then x - 1 else x - shape.index - 1 - (parent_number shape x - 1) * most_listed

-- the digest of the packet of a segment
abbrev pub digest_at : List Packet → Part → Listed → List ℕ
digest_at packets t l =
    unwrap_or
    (slice_get (digests_at packets (pair_of t) l (parent_number (listed_shape l) t.part))
    (place_listed (listed_shape l) t.part))
    []

-- the part `t` is not the record, and what lists `t` is stored: the record, and the index packet if one lists `t`
pub record HasParent (packets : List Packet) (t : Part) : Type 0 where
  pub following : 0 < t.part
  pub listing : Listed
  pub listed : listing_at packets (pair_of t) ≡ Some listing
  pub counted : t.part ≤ last_part (listed_shape listing)
  pub index : 0 < parent_number (listed_shape listing) t.part
      → IsSome (index_at packets (pair_of t) listing.segments (parent_number (listed_shape listing) t.part))

-- ---- as they were read

-- `r` is a stored part that lists others: it has what the record of its publication says, and what the part itself
-- lists, if it is an index packet
pub record IsStoredParent (packets : List Packet) (r : StoredParent) : Type 0 where
  pub listed : listing_at packets (pair_of r.part) ≡ Some r.listing
  pub shape : r.shape ≡ listed_shape r.listing
  pub index : r.index
      ≡ (if r.part.part == 0 then None else index_at packets (pair_of r.part) r.listing.segments r.part.part)
  pub read : 0 < r.part.part → IsSome r.index

-- the stored part `r` lists the part `t`
pub record IsListedBy (packets : List Packet) (t : Part) (r : StoredParent) : Type 0 where
  pub following : 0 < t.part
  pub counted : t.part ≤ last_part r.shape
  pub stored : IsStoredParent packets r
  pub lists : r.part ≡ parent r.shape t
