use Rattle.repo_mirror.proofs.GroupLemmas.{mirrors_begin_consistent, mirrors_learn_consistent}
use Rattle.repo_mirror.proofs.GrownLemmas.{mirrors_grow_consistent}
use Rattle.repo_mirror.proofs.ConsistentLemmas.{mirrors_take_consistent}
use Rattle.repo_mirror.proofs.laws.consistent_mirrors_stay_consistent.Goals as goal

pub returns-clause-begins : goal.returns-clause-begins
returns-clause-begins c = mirrors_begin_consistent

pub returns-clause-learns : goal.returns-clause-learns
returns-clause-learns c = mirrors_learn_consistent

pub returns-clause-grows : goal.returns-clause-grows
returns-clause-grows c = mirrors_grow_consistent

pub returns-clause-takes : goal.returns-clause-takes
returns-clause-takes c = mirrors_take_consistent
