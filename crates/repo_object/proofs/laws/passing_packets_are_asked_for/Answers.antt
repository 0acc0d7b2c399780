use Rattle.repo_object.proofs.Asking.{passing_is_asked_for}
use Rattle.repo_object.proofs.laws.passing_packets_are_asked_for.Goals as goal

pub returns : goal.returns
returns c =
    λ want key_name key octets d p valid read_valid. passing_is_asked_for want key_name key octets d p valid read_valid
