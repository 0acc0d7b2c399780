use Rattle.repo_member.proofs.GroupLemmas.{none_have_keys}
use Rattle.repo_member.proofs.nodes.Nodes.new.Goals as goal

pub invariant_of-result : goal.invariant_of-result
invariant_of-result c = rw (c.new.ensures, c.new-2.ensures) none_have_keys
