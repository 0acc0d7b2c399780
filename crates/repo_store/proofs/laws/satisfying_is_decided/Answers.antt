use Rattle.repo_store.proofs.LawLemmas.{satisfies-Decides}
use Rattle.repo_store.proofs.laws.satisfying_is_decided.Goals as goal

pub returns : goal.returns
returns c = satisfies-Decides
