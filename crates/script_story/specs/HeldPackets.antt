-- What the members of a script hold: packets that pass their checks, and entries that say what is in them.
use Rattle.std.specs.Prelude.{ℕ, ◌≡◌, ◌+◌, ◌<◌, true, List, map, length, Option, Some, None, IsOk, if◌then◌else◌}
use Rattle.std.specs.List.{All, concat}
use Rattle.std.specs.Option.{option_and_then}
use Rattle.sha2.specs.Sha256.{sha256}
use Rattle.sorted_lists.specs.Range.{numbers_from}
use Rattle.repo_plan.specs.declared.part.Part.{Part}
use Rattle.repo_plan.specs.Parts.{Pair, pair_of, part_of, index_packets}
use Rattle.repo_object.specs.Verdict.{content_in, ring_verdict}
use Rattle.repo_catalog.specs.declared.entry.Entry.{Entry}
use Rattle.repo_catalog.specs.Entries.{publication_of}
use Rattle.group_model.specs.Publications.{Logs, post_at}
use Rattle.group_model.specs.Member.{member_holds}
use Rattle.group_model.specs.World.{World, catalogue_at, logs, member}
use Rattle.repo_member.specs.Groups.{GroupKeys, publisher_at}
use Rattle.repo_member.specs.InGroup.{published_packet}
use Rattle.repo_member.specs.ConsistentMembers.{published_want}
use Rattle.script_story.specs.Evaluation.{RunEnvironment}
use Rattle.script_story.specs.ScriptRun.{Reached}
use Rattle.script_story.specs.Headline.{AreTakenFirst, group_at}
use Rattle.script_story.specs.ListedDigests.{ListsDigest}

-- ---- what is held was checked

-- There is a packet of the part, and it passes for the want of that part: by the name, by the key and the signature of
-- its publisher, and for every part but a record by its digest, which the record or an index packet lists.
pub record PassesItsChecks (g : GroupKeys) (logs : Logs) (t : Part) : Type 0 where
  pub octets : List ℕ
  pub its : published_packet g logs t ≡ Some octets
  pub passes : IsOk (ring_verdict (published_want g logs t) g.members.ring octets)
  pub listed : 0 < t.part → ListsDigest (publisher_at g t.publisher) t.seq (post_at logs (pair_of t)) t.part octets

-- The packet of each part that member `m` holds passes its checks.
abbrev pub HoldsChecked : GroupKeys → World → ℕ → Type 0
HoldsChecked g w m = (t : Part) → member_holds (member w m) t ≡ true → PassesItsChecks g (logs w) t

-- Whatever lines are taken, the packet of each part that a member holds passes its checks.
abbrev pub MembersHoldChecked : Type 0
MembersHoldChecked = (env : RunEnvironment) (lines reports : List (List ℕ)) (r : Reached)
    → AreTakenFirst env lines reports r
    → (m : ℕ) → m < length (group_at env r).members → HoldsChecked r.state.keys (group_at env r) m

-- ---- what entries say

-- The packet of a part, where the member holds it. A `dump` line shows it.
abbrev pub dumped : GroupKeys → World → ℕ → Part → Option (List ℕ)
dumped g w m t = if member_holds (member w m) t then published_packet g (logs w) t else None

-- The contents of a publication's segments, of which there are `segments`, as they are dumped, in order. Part 0 is the
-- record. The index packets come next, `k` of them where `k` is `index_packets segments`, and segment `i`, counted from
-- 0, is part `k + 1 + i`.
abbrev pub dumped_contents : GroupKeys → World → ℕ → Pair → ℕ → List (Option (List ℕ))
dumped_contents g w m pair segments =
    map (λ x. option_and_then content_in (dumped g w m (part_of pair x)))
    (numbers_from (index_packets segments + 1) segments)

-- Every content is there.
abbrev pub all_there : List (List ℕ) → List (Option (List ℕ))
all_there contents = map (λ content. Some content) contents

-- The entry `e` says what the dumped segments have: each of them is there, and their joined contents have the entry's
-- number of octets and its digest.
pub record ReportsOfDumped (g : GroupKeys) (w : World) (m : ℕ) (e : Entry) : Type 0 where
  pub contents : List (List ℕ)
  pub there : dumped_contents g w m (publication_of e) e.segments ≡ all_there contents
  pub octets : e.octets ≡ length (concat contents)
  pub digest : e.digest ≡ sha256 (concat contents)

-- Whatever lines are taken, each entry of a member's catalogue says what the dumped segments have.
abbrev pub EntriesTellOfDumped : Type 0
EntriesTellOfDumped = (env : RunEnvironment) (lines reports : List (List ℕ)) (r : Reached)
    → AreTakenFirst env lines reports r
    → (m : ℕ) → m < length (group_at env r).members
    → All (ReportsOfDumped r.state.keys (group_at env r) m) (catalogue_at (group_at env r) m)
