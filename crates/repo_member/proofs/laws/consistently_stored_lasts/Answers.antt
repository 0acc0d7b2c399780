use Rattle.repo_member.proofs.LastingPackets.{begins_consistently, grows_consistently, publishes_consistently}
use Rattle.repo_member.proofs.LastingPackets.{accepts_consistently, takes_consistently}
use Rattle.repo_member.proofs.LastingPackets.{stays_consistent, logs_begin, logs_grow}
use Rattle.repo_member.proofs.laws.consistently_stored_lasts.Goals as goal

pub returns-clause-begins : goal.returns-clause-begins
returns-clause-begins c = begins_consistently

pub returns-clause-grows : goal.returns-clause-grows
returns-clause-grows c = grows_consistently

pub returns-clause-publishes : goal.returns-clause-publishes
returns-clause-publishes c = publishes_consistently

pub returns-clause-accepts : goal.returns-clause-accepts
returns-clause-accepts c = accepts_consistently

pub returns-clause-takes : goal.returns-clause-takes
returns-clause-takes c = takes_consistently

pub returns-clause-others : goal.returns-clause-others
returns-clause-others c = stays_consistent

pub returns-clause-logs_begin : goal.returns-clause-logs_begin
returns-clause-logs_begin c = logs_begin

pub returns-clause-logs_grow : goal.returns-clause-logs_grow
returns-clause-logs_grow c = logs_grow
