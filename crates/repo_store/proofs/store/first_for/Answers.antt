use Rattle.repo_store.proofs.FindLemmas.{answer_found}
use Rattle.std.proofs.Common.{refl}
use Rattle.repo_store.proofs.store.first_for.Goals as goal

pub returns-clause-found : goal.returns-clause-found
returns-clause-found c =
    rw c.lesser.ensures
    (answer_found c.args.kept.now.slots c.args.name.now c.octets-asked.result.now c.octets-asked.ensures.name
    c.octets-asked.ensures.spelled c.args.kept.now c.args.can_be_prefix c.first.result c.first_with_full_name.result
    refl c.first_with_full_name.ensures.sound c.first.ensures c.first_with_full_name.ensures.found)
