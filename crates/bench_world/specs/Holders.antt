-- Holders of parts in a group, members and mirrors, which fetch more of them: the functions by which contracts describe
-- a holder, and the laws of every holder.
use Rattle.std.specs.Prelude.{◌≡◌, ℕ, Bool, true, false, ◌||◌, List, map, filter, take, Option, Some, None, IfSome}
use Rattle.std.specs.List.{All}
use Rattle.repo_plan.specs.declared.part.Part.{Part}
use Rattle.repo_plan.specs.Parts.{Pair, part_cmp}
use Rattle.repo_plan.specs.Plan.{hides, is_wanted, is_unclaimed, unclaimed, is_after}
use Rattle.sorted_lists.specs.SortedList.{Rises, contains}
use Rattle.repo_holdings.specs.HoldingsState.{HoldingsState, held_plan}
use Rattle.repo_holdings.specs.Taking.{Fetched}
use Rattle.repo_holdings.specs.Wanting.{job_at}
use Rattle.repo_object.specs.declared.job.Job.{Job}
use Rattle.group_model.specs.Publications.{Logs}
use Rattle.group_model.specs.Sound.{IsPublishedPart}
use Rattle.repo_member.specs.Groups.{GroupKeys}
use Rattle.repo_member.specs.MemberState.{MemberState}
use Rattle.repo_member.specs.InGroup.{AreLogs, published_packet, parts_fetched}
use Rattle.repo_member.specs.ConsistentHolders.{IsConsistentHolder}
use Rattle.bench_world.specs.Lending.{lends}

-- The functions by which contracts describe the holders of a type.
pub record HolderPredicates (H : Type 0) : Type 1 where
  pub holdings : H → HoldingsState  -- what the holder has of publications, its plan among it
  pub held : H → List Part  -- the parts that became held, in order
  pub rest : H → H  -- the holder without its held parts
  pub takes : List Fetched → H → H  -- the holder after it took the results of fetches
  pub is_consistent : GroupKeys → Logs → H → Type 0  -- the holder's packets are the publishers'

-- The holder `s` holds the part `t`.
abbrev pub has : {H : Type 0} → HolderPredicates H → H → Part → Bool
has words s t = contains part_cmp (words.held s) t

-- The jobs of the least wanted and unclaimed parts that are after `after` and pass `test`, at most `most` of them.
abbrev pub jobs_that : (Part → Bool) → GroupKeys → HoldingsState → Option Part → ℕ → List Job
jobs_that test g h after most =
    map (job_at g.members.names g.name h)
    (take most (filter test (filter (is_after after) (unclaimed (held_plan h)))))

-- The jobs of the least wanted and unclaimed parts that are after `after` and that `others` lend, at most `most` of
-- them.
abbrev pub lent_jobs : GroupKeys → List MemberState → HoldingsState → Option Part → ℕ → List Job
lent_jobs g others h after most = jobs_that (lends others) g h after most

-- The part of the result `x` is wanted and unclaimed. The packet in `x`, if there is one, is the published one.
pub record FetchForHolder (g : GroupKeys) (logs : Logs) (h : HoldingsState) (x : Fetched) : Type 0 where
  pub unclaimed : is_unclaimed (held_plan h) x.part ≡ true
  pub packet : IfSome x.packet (λ octets. published_packet g logs x.part ≡ Some octets)

-- The result `x` has no packet, and counts no attempt.
pub record FetchedNothing (x : Fetched) : Type 0 where
  pub packet : x.packet ≡ None
  pub attempts : x.attempts ≡ 0

-- The laws of every holder of a type: the parts that it holds are in order, were published, and aren't wanted; when it
-- takes packets of wanted parts, it holds those parts too; nothing else of it changes if no attempt is counted; and
-- what it hides stays hidden.
pub record AreHolders {H : Type 0} (words : HolderPredicates H) : Type 0 where
  pub holder : (g : GroupKeys) (logs : Logs) (s : H) → words.is_consistent g logs s
      → IsConsistentHolder g logs (words.holdings s)
  pub in_order : (g : GroupKeys) (logs : Logs) (s : H) → words.is_consistent g logs s → Rises part_cmp (words.held s)
  pub published : (g : GroupKeys) (logs : Logs) (s : H) (t : Part) → words.is_consistent g logs s → has words s t ≡ true
      → IsPublishedPart logs t
  pub not_held : (s : H) (t : Part) → is_wanted (held_plan (words.holdings s)) t ≡ true → has words s t ≡ false
  pub takes_consistently : (g : GroupKeys) (logs : Logs) (xs : List Fetched) (s : H) → AreLogs g logs
      → All (FetchForHolder g logs (words.holdings s)) xs → words.is_consistent g logs s
      → words.is_consistent g logs (words.takes xs s)
  pub takes_those : (g : GroupKeys) (logs : Logs) (xs : List Fetched) (s : H) (t : Part) → AreLogs g logs
      → All (FetchForHolder g logs (words.holdings s)) xs → words.is_consistent g logs s
      → has words (words.takes xs s) t ≡ (contains part_cmp (parts_fetched xs) t || has words s t)
  pub takes_nothing : (xs : List Fetched) (s : H) → All FetchedNothing xs → words.takes xs s ≡ s
  pub rest_stays : (xs : List Fetched) (s : H) → All (λ x. x.attempts ≡ 0) xs
      → words.rest (words.takes xs s) ≡ words.rest s
  pub attempts : (s : H) → (words.holdings s).attempts ≡ (words.holdings (words.rest s)).attempts
  pub known : (s : H) → (words.holdings s).known ≡ (words.holdings (words.rest s)).known
  pub hidden_stays : (xs : List Fetched) (s : H) (pair : Pair) → hides (held_plan (words.holdings s)) pair ≡ true
      → hides (held_plan (words.holdings (words.takes xs s))) pair ≡ true
