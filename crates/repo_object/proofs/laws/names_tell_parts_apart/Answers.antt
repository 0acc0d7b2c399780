use Rattle.repo_object.proofs.Report.{records_differ, segments_differ, records_are_no_segments}
use Rattle.repo_object.proofs.laws.names_tell_parts_apart.Goals as goal

pub returns-clause-records : goal.returns-clause-records
returns-clause-records c = records_differ

pub returns-clause-segments : goal.returns-clause-segments
returns-clause-segments c = segments_differ

pub returns-clause-apart : goal.returns-clause-apart
returns-clause-apart c = records_are_no_segments
