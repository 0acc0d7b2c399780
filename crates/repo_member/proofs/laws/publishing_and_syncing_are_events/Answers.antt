use Rattle.repo_member.proofs.EventLemmas.{publish_is_event, withdraw_is_event, deliver_is_event, hear_is_event}
use Rattle.repo_member.proofs.EventLemmas.{fire_is_event, restart_is_event}
use Rattle.repo_member.proofs.laws.publishing_and_syncing_are_events.Goals as goal

pub returns-clause-publish : goal.returns-clause-publish
returns-clause-publish c = publish_is_event

pub returns-clause-withdraw : goal.returns-clause-withdraw
returns-clause-withdraw c = withdraw_is_event

pub returns-clause-deliver : goal.returns-clause-deliver
returns-clause-deliver c = deliver_is_event

pub returns-clause-hear : goal.returns-clause-hear
returns-clause-hear c = hear_is_event

pub returns-clause-fire : goal.returns-clause-fire
returns-clause-fire c = fire_is_event

pub returns-clause-restart : goal.returns-clause-restart
returns-clause-restart c = restart_is_event
