-- Limits of what was published in a group, and of the counts of attempts.
use Rattle.std.specs.Prelude.{ℕ, ◌+◌, ◌<◌, ◌^◌, Bool, List, length}
use Rattle.repo_plan.specs.declared.part.Part.{Part}
use Rattle.sorted_lists.specs.SortedList.{keys, contains}
use Rattle.repo_plan.specs.Parts.{part_cmp}
use Rattle.repo_plan.specs.Plan.{attempts_of}
use Rattle.group_model.specs.Publications.{Logs, all_parts}
use Rattle.repo_member.specs.Groups.{GroupKeys}
use Rattle.repo_holdings.specs.HoldingsState.{HoldingsState, held_plan}
use Rattle.repo_member.specs.MemberState.{MemberState, member_holdings}
use Rattle.repo_member.specs.InGroup.{AreLogs}
use Rattle.bench_world.specs.Worlds.{state_at}

-- A member stores the packet of a part.
abbrev pub stores : MemberState → Part → Bool
stores a t = contains part_cmp (keys a.store) t

-- The attempts at each part and 16 more are below 2,097,152, the limit of their count.
abbrev pub TriedFew : HoldingsState → Type 0
TriedFew h = (t : Part) → attempts_of (held_plan h) t + 16 < 2097152

-- For every member, the attempts at each part and 16 more are below 2,097,152, the limit of their count.
abbrev pub AllTriedFew : List MemberState → Type 0
AllTriedFew members = (j : ℕ) → j < length members → TriedFew (member_holdings (state_at members j))

-- The logs are those of a group with the keys `g`, and a 32-bit number counts their parts.
pub record AreFewLogs (g : GroupKeys) (logs : Logs) : Type 0 where
  pub are : AreLogs g logs
  pub few : length (all_parts logs) < 2 ^ 32
