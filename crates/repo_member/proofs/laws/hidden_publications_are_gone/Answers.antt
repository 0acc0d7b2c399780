use Rattle.repo_member.specs.Calls.{HiddenIsGone}
use Rattle.repo_member.proofs.CallReach.{in_every_member}
use Rattle.repo_member.proofs.CallPackets.{hidden_for_good, hidden_is_gone}
use Rattle.repo_member.proofs.laws.hidden_publications_are_gone.Goals as goal

pub returns-clause-stay : goal.returns-clause-stay
returns-clause-stay c = hidden_for_good

pub returns-clause-gone : goal.returns-clause-gone
returns-clause-gone c = in_every_member HiddenIsGone hidden_is_gone
