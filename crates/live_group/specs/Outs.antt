-- The results of the threads of a run, and of all of it.
use Rattle.std.specs.Prelude.{ℕ, ◌≡◌, ◌≢◌, ◌⊎◌, ◌*◌, List, [], length, sum_by}
use Rattle.group_model.specs.Publications.{all_parts}
use Rattle.live_member.specs.Meanings.{Meaning, whole_logs}
use Rattle.live_member.specs.Lives.{Living, IsLive}
use Rattle.live_member.specs.Entries.{claims_by}
use Rattle.live_settle.specs.declared.ran.Ran.{Ran}
use Rattle.live_settle.specs.Ready.{Continues}
use Rattle.live_group.specs.Desks.{HasRoom, HasActed}

-- A place's number, what lay under its lock, and how many tickets of its actors weren't spent on it.
pub record OutView : Type 0 where
  pub number : ℕ
  pub live : Living
  pub left : ℕ

-- How many tickets weren't spent in all places.
abbrev pub all_left : List OutView → ℕ
all_left outs = sum_by (λ (o : OutView). o.left) outs

-- The member `l` with which the run goes on after the threads. All that a member's own actors do was done with what lay
-- under the lock of its place, as long as that one's journal had capacity. It is `l`, or it is another place's member
-- and `l` begins anew.
pub record IsOut (t : Meaning) (turns : ℕ) (l : Living) : Type 0 where
  pub out : Living
  pub live : IsLive t 1000000 out
  pub acted : HasRoom out → HasActed turns out
  pub goes_on : (l ≡ out) ⊎ ((out.state.number ≢ l.state.number) × (l.journal ≡ []))

-- The number of turns of a fetcher: twice the number of parts of all lists.
abbrev pub turns_of : Meaning → ℕ
turns_of t = length (all_parts (whole_logs t)) * 2

-- The journal of the run's result begins with that of `out`, and has `turns` claims of fetcher 2, as long as that one's
-- journal had capacity.
pub record GoesOn (turns : ℕ) (out : Living) (r : Ran) : Type 0 where
  pub journal : Continues out.journal r.journal.items
  pub second : HasRoom out → claims_by 2 r.journal.items ≡ turns

-- Another place's member is `out`, and the run's result has no claim of fetcher 2 in its journal.
pub record BeginsAnew (out : Living) (r : Ran) : Type 0 where
  pub other : out.state.number ≢ r.member.number
  pub none : claims_by 2 r.journal.items ≡ 0

-- What lay under the lock of a member's place after all threads had ended. All that a member's own actors do was done
-- with it, as long as its journal had capacity. The run's result goes on from it; or it was another place's member, and
-- the result begins anew.
pub record HasRun (t : Meaning) (turns : ℕ) (r : Ran) : Type 0 where
  pub out : Living
  pub live : IsLive t 1000000 out
  pub acted : HasRoom out → HasActed turns out
  pub goes_on : GoesOn turns out r ⊎ BeginsAnew out r
