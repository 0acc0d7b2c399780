-- Packets that members lend to a holder that asks for parts.
use Rattle.std.specs.Prelude.{ℕ, Bool, true, false, List, [], ◌∷◌, Option, Some, None, is_some, slice_get}
use Rattle.repo_plan.specs.declared.part.Part.{Part}
use Rattle.sorted_lists.specs.SortedList.{value_of}
use Rattle.repo_plan.specs.Parts.{part_cmp}
use Rattle.repo_object.specs.Wants.{WantedPart}
use Rattle.repo_member.specs.MemberState.{MemberState}
use Rattle.bench_world.specs.Others.{place_among_others}

-- A packet, or else another.
abbrev pub or_else : Option (List ℕ) → Option (List ℕ) → Option (List ℕ)
or_else None other = other
or_else (Some octets) other = Some octets

-- The packet of the part `t` at the first of these members that stores one.
abbrev pub lent : List MemberState → Part → Option (List ℕ)
lent [] t = None
lent (a ∷ others) t = or_else (value_of part_cmp a.store t) (lent others t)

-- One of `others` stores a packet of the part `t`.
abbrev pub lends : List MemberState → Part → Bool
lends others t = is_some (lent others t)

-- ---- the publisher first

-- The packet of the part `t` that the member stores, if there is a member.
abbrev pub lent_at : Option MemberState → Part → Option (List ℕ)
lent_at None t = None
lent_at (Some a) t = value_of part_cmp a.store t

-- The packet of the part `t` at its publisher, or else at the first of `others` that stores one.
abbrev pub lent_first : List MemberState → ℕ → Part → Option (List ℕ)
lent_first others asker t =
    or_else (lent_at (slice_get others (place_among_others asker t.publisher)) t) (lent others t)

-- ---- the way of attempts

-- Whether an attempt at the part `t` passes. If there is no loss, every attempt does.
abbrev pub attempt_passes : (ℕ → ℕ → ℕ → ℕ → ℕ → ℕ → Bool) → ℕ → Option ℕ → Part → ℕ → Bool
attempt_passes passes asker None t attempt = true
attempt_passes passes asker (Some loss) t attempt = passes asker t.publisher t.seq t.part attempt loss

-- The packet, if the attempt at it passes.
abbrev pub if_comes : Bool → Option (List ℕ) → Option (List ℕ)
if_comes true octets = octets
if_comes false octets = None

-- The packet that a link over members gives for an attempt at a want, where the network passes attempts by `passes`.
abbrev pub lent_answer : (ℕ → ℕ → ℕ → ℕ → ℕ → ℕ → Bool) → List MemberState → ℕ → Option ℕ → WantedPart → ℕ
    → Option (List ℕ)
lent_answer passes others asker loss want attempt =
    if_comes (attempt_passes passes asker loss want.part attempt) (lent_first others asker want.part)
