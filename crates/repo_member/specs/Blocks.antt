-- What a member makes of a block of an insertion.
use Rattle.std.specs.Prelude.{◌≡◌, ◌≤◌, ℕ, List, Some, length, nat_lt, IsTrue, if◌then◌else◌}
use Rattle.std.specs.Ordering.{nat_cmp}
use Rattle.ndn_name.specs.Names.{IsName}
use Rattle.sorted_lists.specs.SortedList.{value_of}
use Rattle.repo_object.specs.Objects.{is_object_name, IsContent, IsObject}
use Rattle.repo_object.specs.Objects.Post.{Offers}
use Rattle.repo_process.specs.Processes.{Process, BlockState, indexes, object_of, closed, block_state}
use Rattle.repo_process.specs.Processes.BlockState.{Unknown, Already, Waiting, Whole}
use Rattle.repo_process.specs.Insertions.{with_process}
use Rattle.repo_member.specs.declared.member.block.Blocked.{Blocked}
use Rattle.repo_member.specs.declared.member.block.Blocked.TheVariants as blocked
use Rattle.repo_member.specs.Groups.{GroupKeys}
use Rattle.repo_member.specs.MemberState.{MemberState, publication_limit, next_seq, member_publishes}
use Rattle.repo_member.specs.Verdicts.{sync_of}

-- ---- what every insertion process keeps

-- the process is for an object's name and for at most 200 blocks, and each block that it has is a content within the
-- limits
pub record IsWithinLimits (p : Process) : Type 0 where
  pub name : IsName p.name
  pub named : IsTrue (is_object_name p.name)
  pub few : length (indexes p) ≤ 200
  pub contents : (index : ℕ) (content : List ℕ) → value_of nat_cmp p.blocks index ≡ Some content → IsContent content

-- Every process of the list is within the limits.
abbrev pub AreWithinLimits : List (ℕ × Process) → Type 0
AreWithinLimits processes = (number : ℕ) (p : Process) → value_of nat_cmp processes number ≡ Some p → IsWithinLimits p

-- ---- a block

-- the result of a block
abbrev pub member_block : MemberState → (process index : ℕ) → List ℕ → BlockState
member_block a process index content = block_state a.insertions.processes process index content

-- The member keeps a process under this number from now on.
abbrev pub member_keeps : ℕ → Process → MemberState → MemberState
member_keeps number p a = record a { insertions = with_process number p a.insertions }

-- A block that completes an object publishes it. Where the member has no number left, the block isn't taken.
abbrev pub member_publishes_whole : GroupKeys → (number time draw : ℕ) → Process → MemberState → MemberState
member_publishes_whole g number time draw p a =
    if nat_lt (length a.log) publication_limit
    then member_publishes g (Offers (object_of p)) time draw (member_keeps number (closed p) a) else a

-- The member after a block, by the block's result.
abbrev pub after_block : GroupKeys → (number time draw : ℕ) → MemberState → BlockState → MemberState
after_block g number time draw a Unknown = a
after_block g number time draw a Already = a
after_block g number time draw a (Waiting p) = member_keeps number p a
after_block g number time draw a (Whole p) = member_publishes_whole g number time draw p a

-- The member after it received the block `index` of a process.
abbrev pub member_blocks : GroupKeys → (process index : ℕ) → List ℕ → (time draw : ℕ) → MemberState → MemberState
member_blocks g process index content time draw a =
    after_block g process time draw a (member_block a process index content)

-- A block that completes an object completes one within the limits.
abbrev pub CompletesAnObject : BlockState → Type 0
CompletesAnObject (Whole p) = IsObject (object_of p)
CompletesAnObject _ = Unit {0}

-- The answer to a block says what was done with it.
abbrev pub IsBlockAnswer : GroupKeys → (old new : MemberState) → BlockState → Blocked → Type 0
IsBlockAnswer g old new Unknown blocked.Unknown = Unit {0}
IsBlockAnswer g old new Already blocked.Already = Unit {0}
IsBlockAnswer g old new (Waiting p) blocked.Waiting = Unit {0}
IsBlockAnswer g old new (Whole p) (blocked.Published published) =
    (published.seq ≡ next_seq old) × (published.sync.items ≡ sync_of g old.number new.known)
IsBlockAnswer g old new _ _ = ⊥
