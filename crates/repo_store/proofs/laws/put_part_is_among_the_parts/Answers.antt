use Rattle.repo_store.proofs.LawLemmas.{keys_put}
use Rattle.repo_store.proofs.laws.put_part_is_among_the_parts.Goals as goal

pub returns : goal.returns
returns c = keys_put
