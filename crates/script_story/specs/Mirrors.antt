-- The mirrors of a group: what each knows, holds, wants, gets and lists. A mirror publishes nothing, and no other asks
-- it for a part.
use Rattle.std.specs.Prelude.{ℕ, ◌+◌, ◌==◌, Bool, false, not, ◌&&◌, ◌||◌, List, [], map, filter, find, take, replicate}
use Rattle.std.specs.Prelude.{Option, None, is_some, unwrap_or, slice_index, slice_index_or, nat_le, sum_by}
use Rattle.std.specs.Prelude.{if◌then◌else◌}
use Rattle.std.specs.List.{list_all, list_any}
use Rattle.sorted_lists.specs.SortedList.{contains}
use Rattle.sorted_lists.specs.Range.{numbers_from}
use Rattle.svs_vector.specs.Vectors.{join}
use Rattle.repo_plan.specs.declared.part.Part.{Part}
use Rattle.repo_plan.specs.Parts.{Pair, part_cmp, pair_of, part_of, parent}
use Rattle.repo_catalog.specs.declared.entry.Entry.{Entry}
use Rattle.repo_watch.specs.declared.pattern.Pattern.{Pattern}
use Rattle.repo_watch.specs.Patterns.{is_publisher}
use Rattle.group_model.specs.Publications.{Logs, Publication, all_parts, pair_in, parts_in, published, published_entry}
use Rattle.group_model.specs.Publications.{shape_at, withdraws}
use Rattle.group_model.specs.Member.{tries_of}
use Rattle.group_model.specs.World.{World, logs, someone_holds}
use Rattle.group_model.specs.Steps.{job_limit, settled_vector}
use Rattle.repo_mirror.specs.Asked.{is_for}
use Rattle.repo_mirror.specs.Mirrors.{is_object_accepted, mirror_holds}
use Rattle.repo_mirror.specs.MirrorState.{MirrorState}
use Rattle.repo_mirror.specs.ConsistentMirrors.{mirror_in_group}

-- A mirror, as its group sees it.
pub record Mirroring : Type 0 where
  pub pattern : Pattern
  pub known : List ℕ  -- its vector: one number a member
  pub holds : Part → Bool
  pub tries : Part → ℕ  -- how often it tried each part, except records of objects that its pattern doesn't accept

-- A mirror of a group of `members` members, which knows of no publication.
abbrev pub mirror_begins : ℕ → Pattern → Mirroring
mirror_begins members pattern =
    record { pattern = pattern; known = replicate members 0; holds = λ t. false; tries = λ t. 0 }

-- The mirror after it heard the vector `printed`.
abbrev pub mirror_hears : List ℕ → Mirroring → Mirroring
mirror_hears printed m = record m { known = join m.known printed }

-- The mirror with its packets, as its group sees it.
abbrev pub mirror_as : MirrorState → Mirroring
mirror_as m = record {
  pattern = m.pattern;
  known = m.known;
  holds = mirror_holds (mirror_in_group m);
  tries = tries_of m.attempts;
}

-- The mirror under a number that no mirror has.
abbrev pub no_mirroring : Mirroring
no_mirroring = mirror_begins 0 (record { publisher = None; prefix = [] })

-- A mirror, by its number.
abbrev pub mirror_of : List Mirroring → ℕ → Mirroring
mirror_of mirrors i = slice_index_or mirrors i no_mirroring

-- ---- what it wants

-- A held part lists the part `t`, and the pattern accepts its object.
abbrev pub is_asked_for : Logs → Mirroring → Part → Bool
is_asked_for ls m t = m.holds (parent (shape_at ls (pair_of t)) t) && is_for m.pattern ls (pair_of t)

-- The mirror wants the part `t`: it knows of the publication, its pattern is for the publisher, it doesn't hold the
-- part, and the part is a record or `is_asked_for` is true of it.
abbrev pub is_wanted_by : Logs → Mirroring → Part → Bool
is_wanted_by ls m t =
    nat_le t.seq (slice_index m.known t.publisher)
    && (is_publisher m.pattern.publisher t.publisher && ((t.part == 0 || is_asked_for ls m t) && not (m.holds t)))

-- The parts that the mirror wants, in order. A fetch asks for the least of them, at most `job_limit`.
abbrev pub wanted_by : World → Mirroring → List Part
wanted_by w m = filter (is_wanted_by (logs w) m) (all_parts (logs w))

-- The parts that a fetch of it tries.
abbrev pub asked_by : World → Mirroring → List Part
asked_by w m = take job_limit (wanted_by w m)

-- ---- what it fetches of members

-- Which attempts the network passes. In `passes` the mirror's number is greater by 16.
module _ (passes : ℕ → ℕ → ℕ → ℕ → ℕ → ℕ → Bool) (w : World) (i tries loss : ℕ) where
  -- The first of `tries` attempts that the network passes, where a member holds the part.
  abbrev pub attempt_of : Mirroring → Part → Option ℕ
  attempt_of m t =
      if someone_holds w.members t
      then find (λ n. passes (16 + i) t.publisher t.seq t.part (m.tries t + n) loss) (numbers_from 1 tries)
      else None

  -- The parts that are received.
  abbrev pub gets : Mirroring → List Part
  gets m = filter (λ t. is_some (attempt_of m t)) (asked_by w m)

  -- How many attempts a part takes.
  abbrev pub attempts_for : Mirroring → Part → ℕ
  attempts_for m t = unwrap_or (attempt_of m t) tries

  -- How many attempts it makes.
  abbrev pub attempts_made : Mirroring → ℕ
  attempts_made m = sum_by (attempts_for m) (asked_by w m)

  -- The parts whose attempts count from then on: all but the records of objects that its pattern doesn't accept,
  -- which it never asks for again.
  abbrev pub counted : Mirroring → List Part
  counted m =
      filter (λ t. is_for m.pattern (logs w) (pair_of t) || not (is_some (attempt_of m t))) (asked_by w m)

  -- The mirror after a fetch: it holds the received parts too, and the attempts are counted.
  abbrev pub mirror_fetches : Mirroring → Mirroring
  mirror_fetches m = record m {
    holds = λ t. contains part_cmp (gets m) t || m.holds t;
    tries = λ t. m.tries t + (if contains part_cmp (counted m) t then attempts_for m t else 0);
  }

-- ---- what it gains in a settle

-- A part that some member holds, of a publication that the mirror or a member knows of, and of a publisher that is
-- asked: the record, or a part of an object that the pattern accepts.
abbrev pub is_gained : World → Mirroring → Part → Bool
is_gained w m t =
    nat_le t.seq (slice_index (join m.known (settled_vector w)) t.publisher)
    && (is_publisher m.pattern.publisher t.publisher
    && ((t.part == 0 || is_for m.pattern (logs w) (pair_of t)) && someone_holds w.members t))

-- The mirror after a settle: it knows of what it and all members knew of, and holds the parts that it gains too.
abbrev pub mirror_settles : World → Mirroring → Mirroring
mirror_settles w m =
    record m { known = join m.known (settled_vector w); holds = λ t. m.holds t || is_gained w m t }

-- ---- what it lists

-- The record of a withdrawal of the publication is held.
abbrev pub is_withdrawn_to : List Publication → Mirroring → Pair → Bool
is_withdrawn_to publications m pair =
    list_any (λ q. withdraws pair q && m.holds (part_of (pair_in q) 0)) publications

-- An object that the pattern accepts, every part of which is held, and no withdrawal of it.
abbrev pub is_listed_by : List Publication → Mirroring → Publication → Bool
is_listed_by publications m p =
    is_object_accepted m.pattern p
    && (list_all m.holds (parts_in p) && not (is_withdrawn_to publications m (pair_in p)))

-- The entries of the objects that the mirror lists, in order.
abbrev pub mirrored_entries : World → Mirroring → List Entry
mirrored_entries w m =
    map published_entry (filter (is_listed_by (published (logs w)) m) (published (logs w)))
