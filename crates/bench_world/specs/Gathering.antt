-- The parts that a holder, a member or a mirror, gathers from members in a settle.
use Rattle.std.specs.Prelude.{ℕ, ◌≡◌, ◌⊎◌, ◌+◌, true, false, List, [], map, filter, take, Option, Some, None, sum_by}
use Rattle.repo_plan.specs.declared.part.Part.{Part}
use Rattle.sorted_lists.specs.SortedList.{contains}
use Rattle.repo_plan.specs.Parts.{Pair, part_cmp}
use Rattle.repo_plan.specs.Plan.{hides, unclaimed, is_unclaimed, is_after}
use Rattle.repo_holdings.specs.HoldingsState.{HoldingsState, held_plan}
use Rattle.repo_holdings.specs.Taking.{Fetched}
use Rattle.group_model.specs.Publications.{Logs}
use Rattle.group_model.specs.Steps.{job_limit}
use Rattle.repo_member.specs.Groups.{GroupKeys}
use Rattle.repo_member.specs.MemberState.{MemberState}
use Rattle.bench_world.specs.Lending.{lent, lends}
use Rattle.bench_world.specs.Holders.{HolderPredicates, has}

-- The parts of the next phase of a fetch: the least wanted and unclaimed parts that are after `after`,
-- at most `job_limit`.
abbrev pub next_parts : Option Part → HoldingsState → List Part
next_parts after h = take job_limit (filter (is_after after) (unclaimed (held_plan h)))

-- The parts of the next phase of a settle: the least wanted and unclaimed parts after `after` that `others`
-- lend, at most `job_limit`.
abbrev pub next_lent : List MemberState → Option Part → HoldingsState → List Part
next_lent others after h = take job_limit (filter (lends others) (filter (is_after after) (unclaimed (held_plan h))))

-- The result of a part in a phase of a settle, in which no attempt is counted.
abbrev pub lent_one : List MemberState → Part → Fetched
lent_one others t = record { part = t; packet = lent others t; attempts = 0 }

-- The results of all parts in a phase of a settle.
abbrev pub lent_all : List MemberState → List Part → List Fetched
lent_all others ts = map (lent_one others) ts

-- The place after which the next phase begins is one of the parts `ts`. There is none only if there are no parts.
abbrev pub IsPlaceIn : List Part → Option Part → Type 0
IsPlaceIn ts None = ts ≡ []
IsPlaceIn ts (Some t) = contains part_cmp ts t ≡ true

-- The weight of a part where parts are counted.
abbrev pub one_each : Part → ℕ
one_each t = 1

module _ {H : Type 0} (words : HolderPredicates H) where
  -- The holder has gained parts that some of `others` store, and nothing else of it has changed.
  pub record GainsParts (g : GroupKeys) (logs : Logs) (others : List MemberState) (old new : H) : Type 0 where
    pub rest : words.rest new ≡ words.rest old
    pub consistent : words.is_consistent g logs new
    pub kept : (t : Part) → has words old t ≡ true → has words new t ≡ true
    pub came : (t : Part) → has words new t ≡ true → (has words old t ≡ true) ⊎ (lends others t ≡ true)
    pub hidden : (pair : Pair) → hides (held_plan (words.holdings old)) pair ≡ true
        → hides (held_plan (words.holdings new)) pair ≡ true

  -- The sum of the weights of the parts that the holder `s` holds.
  abbrev pub held_sum : (Part → ℕ) → H → ℕ
  held_sum weight s = sum_by weight (words.held s)

  -- The sum of the weights of held parts is greater by `n` in `new` than in `old`.
  abbrev pub Counts : (Part → ℕ) → ℕ → H → H → Type 0
  Counts weight n old new = n + held_sum weight old ≡ held_sum weight new

  -- None of `others` stores a wanted and unclaimed part of the holder `s`.
  abbrev pub NothingLeft : List MemberState → H → Type 0
  NothingLeft others s = (t : Part) → is_unclaimed (held_plan (words.holdings s)) t ≡ true → lends others t ≡ false

  -- What a round has done up to the place `after`: the holder gained `kept` parts. If it gained none, `others` store no
  -- wanted and unclaimed part up to that place.
  pub record RoundSoFar (g : GroupKeys) (logs : Logs) (others : List MemberState) (after : Option Part) (kept : ℕ)
      (old new : H) : Type 0 where
    pub gains : GainsParts g logs others old new
    pub count : Counts one_each kept old new
    pub still : kept ≡ 0 → (t : Part) → is_unclaimed (held_plan (words.holdings new)) t ≡ true
        → is_after after t ≡ false → lends others t ≡ false
