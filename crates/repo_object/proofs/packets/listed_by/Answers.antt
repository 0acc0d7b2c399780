use Rattle.std.proofs.Common.{ℕ, ◌*◌, take, drop, ap, ◌∙◌, arith}
use Rattle.repo_object.proofs.Packing.{take_upto}
use Rattle.repo_object.proofs.packets.listed_by.Goals as goal

pub returns-clause-same : goal.returns-clause-same
returns-clause-same g c =
    let others = c.split_at.result.1.now in
    c.split_at-2.ensures.front
    ∙ take_upto c.min.result 200 others (omega arith) (λ less. omega (arith, less))
    ∙ ap (take 200) (c.split_at.ensures.back ∙ ap (λ (m : ℕ). drop (m * 200) c.args.all.now) c.from.ensures)
