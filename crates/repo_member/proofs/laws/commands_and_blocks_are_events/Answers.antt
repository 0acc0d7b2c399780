use Rattle.repo_member.proofs.CommandEvents.{order_is_event, order_is_answered, issue_is_event, issue_is_answered}
use Rattle.repo_member.proofs.CommandEvents.{block_is_event, block_states_alike}
use Rattle.repo_member.proofs.laws.commands_and_blocks_are_events.Goals as goal

pub returns-clause-order : goal.returns-clause-order
returns-clause-order c = order_is_event

pub returns-clause-order_answer : goal.returns-clause-order_answer
returns-clause-order_answer c = order_is_answered

pub returns-clause-issue : goal.returns-clause-issue
returns-clause-issue c = issue_is_event

pub returns-clause-issue_answer : goal.returns-clause-issue_answer
returns-clause-issue_answer c = issue_is_answered

pub returns-clause-block : goal.returns-clause-block
returns-clause-block c = block_is_event

pub returns-clause-block_state : goal.returns-clause-block_state
returns-clause-block_state c = block_states_alike
