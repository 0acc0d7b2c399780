use Rattle.group_model.proofs.OneMember.{joins_by_itself}
use Rattle.group_model.proofs.one_member.one_member_joins_by_itself.Goals as goal

pub returns : goal.returns
returns c = record { joins = joins_by_itself }
