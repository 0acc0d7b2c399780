-- Publications that a member hides for good.
use Rattle.std.specs.Prelude.{ℕ, ◌-◌, List, length}
use Rattle.ndn_name.specs.Names.{Component}
use Rattle.repo_plan.specs.Parts.{Pair}
use Rattle.repo_catalog.specs.Entries.{all_named}
use Rattle.repo_holdings.specs.Listed.{member_catalogue}
use Rattle.repo_holdings.specs.Hiding.{outside_all, with_hidden}
use Rattle.repo_member.specs.MemberState.{MemberState}

-- the publications `pairs` are hidden, and none of their packets is stored
abbrev pub member_state_hides : List Pair → MemberState → MemberState
member_state_hides pairs a = record a { store = outside_all pairs a.store; hidden = with_hidden pairs a.hidden }

-- the catalogued publications of the objects of a name
abbrev pub catalogued_named : List Component → MemberState → List Pair
catalogued_named name a = all_named name (member_catalogue a.store)

-- The member hides every catalogued publication of an object of that name.
abbrev pub member_deletes : List Component → MemberState → MemberState
member_deletes name a = member_state_hides (catalogued_named name a) a

-- how many packets are dropped when the member deletes the objects of that name
abbrev pub member_drops : List Component → MemberState → ℕ
member_drops name a = length a.store - length (member_deletes name a).store
