use Rattle.repo_object.proofs.Publications.{record_stated, shape_again, index_again, content_again}
use Rattle.repo_object.proofs.laws.packets_are_read_back.Goals as goal

pub returns-clause-records : goal.returns-clause-records
returns-clause-records c = λ publisher seq post is_publisher is_post low. record_stated publisher is_publisher seq post
    is_post low

pub returns-clause-shapes : goal.returns-clause-shapes
returns-clause-shapes c = shape_again

pub returns-clause-indexes : goal.returns-clause-indexes
returns-clause-indexes c =
    λ publisher seq k object octets is_publisher is_object low inside h.
    index_again publisher is_publisher object is_object seq k octets low inside h

pub returns-clause-segments : goal.returns-clause-segments
returns-clause-segments c =
    λ publisher seq i object octets is_publisher is_object h.
    content_again publisher is_publisher object is_object seq i octets h
