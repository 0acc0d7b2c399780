use Rattle.std.proofs.Common.{ℕ, List, length, ap, ◌∙◌}
use Rattle.repo_plan.specs.declared.part.Part.{Part}
use Rattle.repo_plan.specs.Parts.{Pair}
use Rattle.repo_store.specs.StoreList.{StoreList}
use Rattle.repo_store.proofs.StoreLemmas.{in_any_one, outside_all_one}
use Rattle.repo_store.proofs.store.Store.drop_parts.Goals as goal

pub returns-clause-number : goal.returns-clause-number
returns-clause-number c =
    let pair : Pair = (c.args.publisher, c.args.seq) in
    c.drop_all.ensures.number
    ∙ ap (λ (es : List (Part × List ℕ)). length es) (in_any_one pair c.args.self.now.packets)

pub returns-clause-dropped : goal.returns-clause-dropped
returns-clause-dropped c =
    let pair : Pair = (c.args.publisher, c.args.seq) in
    c.drop_all.ensures.dropped
    ∙ ap (λ (es : List (Part × List ℕ)).
    let s : StoreList = record { packets = es; spare = c.args.self.now.spare } in
    s) (outside_all_one pair c.args.self.now.packets)
