-- What a holder of parts, a member or a mirror, fetches from members.
use Rattle.std.specs.Prelude.{ℕ, ◌+◌, Bool, List, Option, None, is_some, unwrap_or, find, map, if◌then◌else◌}
use Rattle.repo_plan.specs.declared.part.Part.{Part}
use Rattle.sorted_lists.specs.Range.{numbers_from}
use Rattle.repo_plan.specs.Plan.{attempts_of}
use Rattle.repo_holdings.specs.HoldingsState.{HoldingsState, held_plan}
use Rattle.repo_holdings.specs.Taking.{Fetched}
use Rattle.repo_member.specs.MemberState.{MemberState}
use Rattle.bench_world.specs.Lending.{lent, lends}

-- The first of `tries` attempts at the part `t` that passes, if one of `others` stores the part.
abbrev pub attempt_at : (Part → ℕ → Bool) → List MemberState → ℕ → HoldingsState → Part → Option ℕ
attempt_at passes others tries h t =
    if lends others t then find (λ n. passes t (attempts_of (held_plan h) t + n)) (numbers_from 1 tries) else None

-- The result of the part `t` with at most `tries` attempts.
abbrev pub fetched_one : (Part → ℕ → Bool) → List MemberState → ℕ → HoldingsState → Part → Fetched
fetched_one passes others tries h t = record {
  part = t;
  packet = if is_some (attempt_at passes others tries h t) then lent others t else None;
  attempts = unwrap_or (attempt_at passes others tries h t) tries;
}

-- The results of the parts `ts`, each with at most `tries` attempts.
abbrev pub fetched_all : (Part → ℕ → Bool) → List MemberState → ℕ → HoldingsState → List Part → List Fetched
fetched_all passes others tries h ts = map (fetched_one passes others tries h) ts
