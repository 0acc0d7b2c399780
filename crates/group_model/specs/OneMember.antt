-- A member taken by itself: over any publications, with no world and no other member.
use Rattle.std.specs.Prelude.{ℕ, ◌<◌, ◌≤◌, ◌≡◌, List, [], length, slice_index}
use Rattle.repo_plan.specs.Plan.{wanted}
use Rattle.group_model.specs.Publications.{Logs, last_of, join_of}
use Rattle.group_model.specs.Member.{plan_of, catalogue, Member}

-- A vector with these numbers reports all publications.
abbrev pub KnowsAll : Logs → List ℕ → Type 0
KnowsAll logs known = (p : ℕ) → p < length logs → last_of logs p ≤ slice_index known p

-- A member that knows of all publications, has deleted nothing and wants nothing lists their join.
abbrev pub JoinsByItself : Type 0
JoinsByItself = (logs : Logs) (m : Member) → KnowsAll logs m.known → m.hidden ≡ [] → wanted (plan_of logs m) ≡ []
    → catalogue logs m ≡ join_of logs
