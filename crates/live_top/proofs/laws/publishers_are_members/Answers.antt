use Rattle.live_top.proofs.PrintedPublishers.{named_members}
use Rattle.live_top.proofs.laws.publishers_are_members.Goals as goal

pub returns : goal.returns
returns c = named_members
