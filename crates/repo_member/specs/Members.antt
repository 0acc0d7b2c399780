-- How a member is kept, and what holds of every member.
use Rattle.std.specs.Prelude.{◌≡◌, ℕ, false, List, Some}
use Rattle.std.specs.Ordering.{nat_cmp}
use Rattle.sorted_lists.specs.SortedList.{value_of}
use Rattle.repo_process.specs.Processes.{Process, is_whole}
use Rattle.repo_member.specs.declared.member.Member.TheInside.{Inside}
use Rattle.repo_member.specs.MemberState.{MemberState, IsMemberState}
use Rattle.repo_member.specs.Posts.{posts_of, IsKeptLog}

-- what a member's fields say
abbrev pub member_state : Inside → MemberState
member_state m = record {
  number = m.number;
  log = posts_of m.log.items;
  known = m.vector;
  store = m.held.store;
  hidden = m.held.hidden;
  claims = m.held.claims;
  attempts = m.held.attempts;
  machine = m.machine;
  insertions = m.processes;
}

-- each process misses a block until its object is published
abbrev pub AreWaiting : List (ℕ × Process) → Type 0
AreWaiting processes = (number : ℕ) (p : Process) → value_of nat_cmp processes number ≡ Some p → p.published ≡ false
    → is_whole p ≡ false

-- what holds of a member's fields: they say what a member can have, its holdings have its vector, its log marks objects
-- where they are withdrawn, and each insertion process that has all its blocks has published its object
pub record IsMember (m : Inside) : Type 0 where
  pub member_state : IsMemberState (member_state m)
  pub known : m.held.known ≡ m.vector
  pub log : IsKeptLog m.log.items
  pub waiting : AreWaiting m.processes.processes
