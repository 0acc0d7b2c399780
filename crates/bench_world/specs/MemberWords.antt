-- A member as a holder of parts.
use Rattle.std.specs.Prelude.{[]}
use Rattle.sorted_lists.specs.SortedList.{keys}
use Rattle.repo_member.specs.MemberState.{MemberState, member_holdings, member_takes}
use Rattle.repo_member.specs.ConsistentMembers.{IsConsistentMember}
use Rattle.bench_world.specs.Holders.{HolderPredicates}

-- The functions by which contracts describe a holder, for members.
abbrev pub member_words : HolderPredicates MemberState
member_words = record {
  holdings = member_holdings;
  held = λ a. keys a.store;
  rest = λ a. record a { store = [] };
  takes = member_takes;
  is_consistent = IsConsistentMember;
}
