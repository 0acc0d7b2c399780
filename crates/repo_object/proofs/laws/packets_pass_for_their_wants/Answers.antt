use Rattle.repo_object.proofs.Publications.{record_passes, index_passes, segment_passes}
use Rattle.repo_object.proofs.laws.packets_pass_for_their_wants.Goals as goal

pub returns-clause-records : goal.returns-clause-records
returns-clause-records c =
    λ publisher part post octets is_publisher is_post low zero h.
    record_passes publisher is_publisher part post octets is_post low h

pub returns-clause-indexes : goal.returns-clause-indexes
returns-clause-indexes c =
    λ publisher part object octets is_publisher is_object low above below h.
    index_passes publisher is_publisher object is_object part octets low above below h

pub returns-clause-segments : goal.returns-clause-segments
returns-clause-segments c =
    λ publisher part object octets is_publisher is_object above h.
    segment_passes publisher is_publisher object is_object part octets above h
