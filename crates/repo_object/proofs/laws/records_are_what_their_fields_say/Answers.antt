use Rattle.repo_object.proofs.RecordLemmas.{stated, stated_within, index_stated, index_from}
use Rattle.repo_object.proofs.laws.records_are_what_their_fields_say.Goals as goal

pub returns-clause-fields : goal.returns-clause-fields
returns-clause-fields c = stated

pub returns-clause-within : goal.returns-clause-within
returns-clause-within c = stated_within

pub returns-clause-index : goal.returns-clause-index
returns-clause-index c =
    λ content count digests. (index_stated content count digests, λ h. index_from content count digests h.0 h.1)
