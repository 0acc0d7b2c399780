-- A mirror by itself and the same mirror as its group has it, and what holds where its packets were published.
use Rattle.std.specs.Prelude.{◌≡◌, ℕ, true, ◌||◌, List, length, ◌↔◌}
use Rattle.std.specs.List.{All}
use Rattle.svs_vector.specs.Vectors.{join}
use Rattle.sorted_lists.specs.SortedList.{keys, contains}
use Rattle.repo_plan.specs.declared.part.Part.{Part}
use Rattle.repo_plan.specs.Parts.{part_cmp}
use Rattle.repo_plan.specs.Plan.{is_wanted}
use Rattle.repo_watch.specs.declared.pattern.Pattern.{Pattern}
use Rattle.repo_holdings.specs.Listed.{member_catalogue}
use Rattle.repo_holdings.specs.Taking.{Fetched}
use Rattle.group_model.specs.Publications.{Logs}
use Rattle.group_model.specs.Sound.{IsConsistentVector}
use Rattle.repo_mirror.specs.Mirrors.{Mirror, IsWantedByMirror, IsSoundMirror, mirror_plan, mirror_catalogue}
use Rattle.repo_mirror.specs.Mirrors.{mirror_holds}
use Rattle.repo_member.specs.Groups.{GroupKeys}
use Rattle.repo_member.specs.InGroup.{AreLogs, StoresConsistently, IsConsistentFetch, GrowInto, parts_fetched}
use Rattle.repo_member.specs.ConsistentHolders.{IsConsistentHolder, member_with}
use Rattle.repo_mirror.specs.MirrorState.{MirrorState, initial_mirror, mirror_holdings, fetch_plan}
use Rattle.repo_mirror.specs.Passing.{mirror_takes}

-- The mirror as its group has it: it keeps the parts whose packets it stores.
abbrev pub mirror_in_group : MirrorState → Mirror
mirror_in_group m = record { known = m.known; kept = keys m.store; passed = m.passed; attempts = m.attempts }

-- The mirror's vector reports no publication that there isn't, what it keeps and passed over is what its pattern says,
-- and each stored packet is the one that the publisher of its part made.
pub record IsConsistentMirror (g : GroupKeys) (logs : Logs) (m : MirrorState) : Type 0 where
  pub vector : IsConsistentVector logs m.known
  pub sound : IsSoundMirror m.pattern logs (mirror_in_group m)
  pub stored : StoresConsistently g logs (member_with (mirror_holdings m))

-- ---- what follows

-- The plan of the mirror by itself, which reads what the stored records list, is the group's plan of that mirror.
abbrev pub MirrorsPlanAlike : Type 0
MirrorsPlanAlike = (g : GroupKeys) (logs : Logs) (m : MirrorState) → AreLogs g logs → IsConsistentMirror g logs m
    → fetch_plan m ≡ mirror_plan m.pattern logs (mirror_in_group m)

-- A consistent mirror wants just what a mirror with its pattern is to want.
abbrev pub MirrorsWantAlike : Type 0
MirrorsWantAlike = (g : GroupKeys) (logs : Logs) (m : MirrorState) (t : Part) → AreLogs g logs
    → IsConsistentMirror g logs m
    → (is_wanted (fetch_plan m) t ≡ true) ↔ IsWantedByMirror m.pattern logs (mirror_in_group m) t

-- The catalogue of a consistent mirror, which reads the stored packets, is the group's catalogue of that mirror.
abbrev pub MirrorsListAlike : Type 0
MirrorsListAlike = (g : GroupKeys) (logs : Logs) (m : MirrorState) → AreLogs g logs → IsConsistentMirror g logs m
    → member_catalogue m.store ≡ mirror_catalogue m.pattern logs (mirror_in_group m)

-- A consistent mirror is a consistent holder.
abbrev pub MirrorsAreHolders : Type 0
MirrorsAreHolders = (g : GroupKeys) (logs : Logs) (m : MirrorState) → IsConsistentMirror g logs m
    → IsConsistentHolder g logs (mirror_holdings m)

-- ---- what lasts

-- A new mirror is consistent.
abbrev pub MirrorsBeginConsistent : Type 0
MirrorsBeginConsistent =
    (g : GroupKeys) (logs : Logs) (pattern : Pattern) → IsConsistentMirror g logs (initial_mirror pattern (length logs))

-- A consistent mirror stays consistent when it takes a vector that reports no publication that there isn't.
abbrev pub MirrorsLearnConsistent : Type 0
MirrorsLearnConsistent = (g : GroupKeys) (logs : Logs) (m : MirrorState) (received : List ℕ)
    → IsConsistentVector logs received
    → IsConsistentMirror g logs m → IsConsistentMirror g logs (record m { known = join m.known received })

-- A consistent mirror stays consistent when members publish more.
abbrev pub MirrorsGrowConsistent : Type 0
MirrorsGrowConsistent = (g : GroupKeys) (logs later : Logs) (m : MirrorState) → GrowInto logs later
    → length later ≡ length logs → IsConsistentMirror g logs m → IsConsistentMirror g later m

-- The result of a fetch of one part: the mirror wants the part, and a packet that was received is the published one of
-- it.
pub record FetchForMirror (g : GroupKeys) (logs : Logs) (m : MirrorState) (x : Fetched) : Type 0 where
  pub part_wanted : is_wanted (fetch_plan m) x.part ≡ true
  pub consistent : IsConsistentFetch g logs x.part x.packet

-- A mirror that takes `xs` stays consistent, and holds just the parts that were received too. Records of objects that
-- the pattern doesn't accept are held by passing them over.
pub record TakesConsistently (g : GroupKeys) (logs : Logs) (xs : List Fetched) (m : MirrorState) : Type 0 where
  pub stays : IsConsistentMirror g logs (mirror_takes xs m)
  pub held : (u : Part) → mirror_holds (mirror_in_group (mirror_takes xs m)) u
      ≡ (contains part_cmp (parts_fetched xs) u || mirror_holds (mirror_in_group m) u)

-- A consistent mirror that takes what was fetched stays consistent, and holds the parts that were fetched too.
abbrev pub MirrorsTakeConsistent : Type 0
MirrorsTakeConsistent = (g : GroupKeys) (logs : Logs) (m : MirrorState) (xs : List Fetched) → AreLogs g logs
    → IsConsistentMirror g logs m → All (FetchForMirror g logs m) xs → TakesConsistently g logs xs m
