use Rattle.std.proofs.Common.{rules}
use Rattle.std.proofs.lemmas.List.Sorted.{answers_always}
use Rattle.repo_plan.specs.Parts.{Pair}
use Rattle.repo_watch.proofs.announced.place.Goals as goal

pub returns-clause-position : goal.returns-clause-position
returns-clause-position c =
    c.binary_search_by_key.ensures.position (λ (one : Pair). one)
    (answers_always _ _ _ (λ f a r g called. search rules))
