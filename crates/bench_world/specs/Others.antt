-- The members of a group but one, which was taken out.
use Rattle.std.specs.Prelude.{ℕ, ◌-◌, List, Option, Some, None, nat_lt, ◌==◌, if◌then◌else◌}
use Rattle.repo_member.specs.MemberState.{MemberState}
use Rattle.bench_world.specs.Worlds.{state_at}

-- The place of member `number` among the others, where member `without` was taken out.
abbrev pub place_among_others : (without number : ℕ) → ℕ
place_among_others without number = if nat_lt number without then number else number - 1

-- Member `number` among the others, or none where it is the one that was taken out.
abbrev pub other_at : ℕ → List MemberState → ℕ → Option MemberState
other_at without others number =
    if number == without then None else Some (state_at others (place_among_others without number))
