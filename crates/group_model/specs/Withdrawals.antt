-- What withdrawals are of.
use Rattle.std.specs.Prelude.{ℕ, ◌≡◌, ◌≤◌, ◌<◌, true, is_some}
use Rattle.repo_plan.specs.Parts.{Pair}
use Rattle.repo_object.specs.Objects.{offered, withdraws_number}
use Rattle.group_model.specs.Publications.{Logs, post_at}
use Rattle.group_model.specs.Events.{Event}
use Rattle.group_model.specs.World.{Environment, World, logs, initial_world}
use Rattle.group_model.specs.Steps.{after_event}
use Rattle.group_model.specs.Sound.{IsPublished}
use Rattle.group_model.specs.Refusals.{EventIsTaken}

-- The publication `pair` rightly withdraws the number `seq` of its publisher: an object was published under `seq`,
-- before, and no other publication withdraws it.
pub record WithdrawsRightly (logs : Logs) (pair : Pair) (seq : ℕ) : Type 0 where
  pub from_one : 1 ≤ seq
  pub earlier : seq < pair.1
  pub object : is_some (offered (post_at logs (pair.0, seq))) ≡ true
  pub once : (u : ℕ) → IsPublished logs (pair.0, u) → withdraws_number (post_at logs (pair.0, u)) seq ≡ true
      → u ≡ pair.1

-- Every withdrawal withdraws its object rightly.
abbrev pub AllWithdrawRightly : Logs → Type 0
AllWithdrawRightly logs = (pair : Pair) (seq : ℕ) → IsPublished logs pair
    → withdraws_number (post_at logs pair) seq ≡ true → WithdrawsRightly logs pair seq

-- Every withdrawal is right in a group in which nothing has happened.
abbrev pub BeginsRightly : Type 0
BeginsRightly = (env : Environment) (n : ℕ) → AllWithdrawRightly (logs (initial_world env n))

-- Where every withdrawal is right, it stays so after any event that is taken.
abbrev pub StaysRightly : Environment → World → Type 0
StaysRightly env w = (e : Event) → EventIsTaken env w e → AllWithdrawRightly (logs w)
    → AllWithdrawRightly (logs (after_event env w e))
