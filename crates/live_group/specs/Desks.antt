-- What lies under a member's lock.
use Rattle.std.specs.Prelude.{ℕ, ◌≡◌, ◌+◌, ◌*◌, ◌<◌, [], length}
use Rattle.live_member.specs.Lives.{Living}
use Rattle.live_member.specs.Entries.{claims_by}

-- The journal has capacity, so that no call was answered Full.
abbrev pub HasRoom : Living → Type 0
HasRoom l = length l.journal < 900000

-- Nothing was done with the member.
abbrev pub HasBegun : Living → Type 0
HasBegun l = l.journal ≡ []

-- How many tickets the actors of a member have: one for each claim of its two fetchers, and one for the call that finds
-- nothing to publish.
abbrev pub tickets_each : ℕ → ℕ
tickets_each turns = turns * 2 + 1

-- The tokens of name `tokens` and of `count` parts are those of a run's ledger, of name `named` and of `size` parts:
-- four for each of `members` members, and one more.
pub record AreTokens (tokens count named size members : ℕ) : Type 0 where
  pub name : tokens ≡ named
  pub parts : count ≡ size
  pub enough : count ≡ members * 4 + 1

-- Under a lock lies the member `l`. Still to be made are `first` claims of fetcher 1, `second` claims of fetcher 2 and
-- `look` last looks for a publication, and `spent` tickets were spent. As long as its journal has capacity, the claims
-- of each fetcher in it and those still to be made are `turns` together; and after the last look nothing is to be
-- published.
pub record IsDesk (turns : ℕ) (l : Living) (first second look spent : ℕ) : Type 0 where
  pub tickets : spent + first + second + look ≡ tickets_each turns
  pub firsts : HasRoom l → claims_by 1 l.journal + first ≡ turns
  pub seconds : HasRoom l → claims_by 2 l.journal + second ≡ turns
  pub published : HasRoom l → look ≡ 0 → l.unpublished ≡ []

-- All that a member's own actors do was done with it: its journal has `turns` claims of each of its two fetchers, and
-- its whole list is published.
pub record HasActed (turns : ℕ) (l : Living) : Type 0 where
  pub first : claims_by 1 l.journal ≡ turns
  pub second : claims_by 2 l.journal ≡ turns
  pub published : l.unpublished ≡ []

-- Where no ticket of a member's actors is left, all that they do was done with the member, as long as its journal had
-- capacity.
abbrev pub HasEnded : ℕ → Living → ℕ → Type 0
HasEnded turns l left = left ≡ 0 → HasRoom l → HasActed turns l
