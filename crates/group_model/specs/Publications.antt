-- What the members of a group have published, and the parts of that. Members count from 0, the publications of
-- one from 1.
use Rattle.std.specs.Prelude.{ℕ, ◌+◌, ◌-◌, nat_le, Bool, not, ◌&&◌, ◌==◌, List, [], ◌∷◌, ◌++◌, map, filter, length}
use Rattle.std.specs.Prelude.{is_some, unwrap_or, slice_index_or, flat_map}
use Rattle.std.specs.List.{concat, list_any}
use Rattle.sha2.specs.Sha256.{sha256}
use Rattle.repo_plan.specs.declared.part.Part.{Part}
use Rattle.repo_plan.specs.Parts.{Pair, parts_of, last_part}
use Rattle.repo_plan.specs.declared.shape.Shape.{Shape}
use Rattle.repo_object.specs.Objects.{NamedContents, Post, offered, shape_in, withdraws_number}
use Rattle.repo_object.specs.Objects.Post.{Offers}
use Rattle.repo_catalog.specs.declared.entry.Entry.{Entry}

-- What each member has published, in order.
abbrev pub Logs : Type 0
Logs = List (List Post)

-- An object without a name.
abbrev pub no_object : NamedContents
no_object = record { name = []; contents = [] }

-- What stands where nothing was published.
abbrev pub no_post : Post
no_post = Offers no_object

-- What was published, by its publisher and its number.
abbrev pub post_at : Logs → Pair → Post
post_at logs pair = slice_index_or (slice_index_or logs pair.0 []) (pair.1 - 1) no_post

-- How often a member has published, which is the number of its last publication.
abbrev pub last_of : Logs → ℕ → ℕ
last_of logs publisher = length (slice_index_or logs publisher [])

-- The part counts of a publication.
abbrev pub shape_at : Logs → Pair → Shape
shape_at logs pair = shape_in (post_at logs pair)

-- How many parts a publication has besides its record.
abbrev pub count : Logs → Pair → ℕ
count logs pair = last_part (shape_at logs pair)

-- ---- all publications

-- What was published, under its publisher and number.
pub record Publication : Type 0 where
  pub publisher : ℕ
  pub seq : ℕ
  pub post : Post

-- The publisher and the number of a publication.
abbrev pub pair_in : Publication → Pair
pair_in p = (p.publisher, p.seq)

-- A member's publications, numbered from `seq` on.
abbrev pub numbered_publications : ℕ → ℕ → List Post → List Publication
numbered_publications publisher seq [] = []
numbered_publications publisher seq (o ∷ os) =
    record { publisher = publisher; seq = seq; post = o } ∷ numbered_publications publisher (seq + 1) os

-- The publications of the members from the member `publisher` on.
abbrev pub published_from : ℕ → Logs → List Publication
published_from publisher [] = []
published_from publisher (log ∷ logs) = numbered_publications publisher 1 log ++ published_from (publisher + 1) logs

-- All publications, in order of publisher and number.
abbrev pub published : Logs → List Publication
published logs = published_from 0 logs

-- The parts of a publication: its record, its index packets, and its segments.
abbrev pub parts_in : Publication → List Part
parts_in p = parts_of (pair_in p) (last_part (shape_in p.post))

-- All parts that there are, in order of publisher, number and part.
abbrev pub all_parts : Logs → List Part
all_parts logs = flat_map parts_in (published logs)

-- ---- withdrawals

-- The publication is an object.
abbrev pub is_object : Publication → Bool
is_object p = is_some (offered p.post)

-- The publication `q` is the withdrawal of the publication `pair`.
abbrev pub withdraws : Pair → Publication → Bool
withdraws pair q = q.publisher == pair.0 && withdraws_number q.post pair.1

-- An object that no publication withdraws.
abbrev pub is_unwithdrawn : List Publication → Publication → Bool
is_unwithdrawn publications p = is_object p && not (list_any (withdraws (pair_in p)) publications)

-- A member's publications have an object under the number, and no withdrawal of it.
abbrev pub has_unwithdrawn : List Post → ℕ → Bool
has_unwithdrawn log seq =
    (nat_le 1 seq && nat_le seq (length log))
    && (is_some (offered (slice_index_or log (seq - 1) no_post)) && not (list_any (λ o. withdraws_number o seq) log))

-- ---- the catalogue

-- The object of a publication; an object without a name where the publication is a withdrawal.
abbrev pub object_in : Publication → NamedContents
object_in p = unwrap_or (offered p.post) no_object

-- What a catalogue says of a publication. The digest is that of its contents joined.
abbrev pub published_entry : Publication → Entry
published_entry p = record {
  publisher = p.publisher;
  seq = p.seq;
  name = (object_in p).name;
  segments = length (object_in p).contents;
  octets = length (concat (object_in p).contents);
  digest = sha256 (concat (object_in p).contents);
}

-- The join of all publications: an entry for every object that is not withdrawn, in order.
abbrev pub join_of : Logs → List Entry
join_of logs = map published_entry (filter (is_unwithdrawn (published logs)) (published logs))
