-- The result of a whole run.
use Rattle.std.specs.Prelude.{ℕ, zero, suc, ◌≡◌, List, [], ◌∷◌, ◌++◌, map, length, slice_index_or}
use Rattle.std.specs.List.{All}
use Rattle.group_model.specs.Publications.{join_of}
use Rattle.repo_member.specs.ConsistentMembers.{IsConsistentMember}
use Rattle.repo_holdings.specs.Listed.{member_catalogue}
use Rattle.live_member.specs.Meanings.{Meaning, whole_logs}
use Rattle.live_member.specs.Lives.{Living, AreOfPublishedParts, ReplaysTo}
use Rattle.live_settle.specs.declared.ran.Ran.{Ran}
use Rattle.live_settle.specs.Ready.{at, Continues}

-- The numbers below this one, in order.
abbrev pub numbers_below : ℕ → List ℕ
numbers_below zero = []
numbers_below (suc n) = numbers_below n ++ n ∷ []

-- The journal replays to the member, and each packet in it, taken or refused, is of a part of the lists. The member is
-- consistent with a group that has published all lists, and its catalogue is the join of all lists.
pub record IsRan (t : Meaning) (r : Ran) : Type 0 where
  pub replays : ReplaysTo t r.journal.items r.member
  pub brought : AreOfPublishedParts t r.journal.items
  pub consistent : IsConsistentMember t.group (whole_logs t) r.member
  pub catalogue : member_catalogue r.member.store ≡ join_of (whole_logs t)

-- There is one result for each member, in order of their numbers.
pub record AreRans (t : Meaning) (rans : List Ran) : Type 0 where
  pub numbers : map (λ r. r.member.number) rans ≡ numbers_below (length t.lists)
  pub each : All (IsRan t) rans

-- The journal of each result begins with that of the member at the same place, unchanged.
abbrev pub AreContinued : List Living → List Ran → Type 0
AreContinued lives rans = (p : ℕ)
    → Continues (at lives p).journal (slice_index_or (map (λ r. r.journal.items) rans) p [])
