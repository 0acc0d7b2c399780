use Rattle.repo_member.proofs.EventLemmas.{claim_is_event, lose_is_event, answer_is_event, feed_is_event}
use Rattle.repo_member.proofs.EventLemmas.{fetch_is_event}
use Rattle.repo_member.proofs.laws.fetching_is_events.Goals as goal

pub returns-clause-claim : goal.returns-clause-claim
returns-clause-claim c = claim_is_event

pub returns-clause-lose : goal.returns-clause-lose
returns-clause-lose c = lose_is_event

pub returns-clause-answer : goal.returns-clause-answer
returns-clause-answer c = answer_is_event

pub returns-clause-feed : goal.returns-clause-feed
returns-clause-feed c = feed_is_event

pub returns-clause-fetch : goal.returns-clause-fetch
returns-clause-fetch c = fetch_is_event
