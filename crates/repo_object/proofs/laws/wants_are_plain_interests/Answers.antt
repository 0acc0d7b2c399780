use Rattle.repo_object.proofs.Asking.{record_interest, index_interest, segment_interest}
use Rattle.repo_object.proofs.laws.wants_are_plain_interests.Goals as goal

pub returns-clause-records : goal.returns-clause-records
returns-clause-records c = record_interest

pub returns-clause-indexes : goal.returns-clause-indexes
returns-clause-indexes c = index_interest

pub returns-clause-segments : goal.returns-clause-segments
returns-clause-segments c = segment_interest
