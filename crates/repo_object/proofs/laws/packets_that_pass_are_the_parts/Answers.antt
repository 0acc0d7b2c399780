use Rattle.repo_object.proofs.Report.{records_pass, indexes_pass, segments_pass}
use Rattle.repo_object.proofs.laws.packets_that_pass_are_the_parts.Goals as goal

pub returns-clause-records : goal.returns-clause-records
returns-clause-records c =
    λ own other part theirs seq x key_name key octets is_own is_other is_theirs group low_part low at ok.
    records_pass own other theirs is_own is_other seq is_theirs low key_name key octets part x group low_part at ok

pub returns-clause-indexes : goal.returns-clause-indexes
returns-clause-indexes c =
    λ own other part object theirs seq x key_name key packet octets is_own is_object is_other is_theirs clear low_part
    low above below its at ok.
    indexes_pass own other theirs is_own is_other seq is_theirs low key_name key octets object is_object part packet its
    clear x low_part above below at ok

pub returns-clause-segments : goal.returns-clause-segments
returns-clause-segments c =
    λ own other part object theirs seq x key_name key packet octets is_own is_object is_other is_theirs clear low above
    its at ok.
    segments_pass own other theirs is_own is_other seq is_theirs low key_name key octets object is_object part packet
    its
    clear x above at ok
