use Rattle.std.proofs.Common.{rules, ◌≡◌, ap, ◌∙◌, map}
use Rattle.lab_seeds.specs.declared.figures.Figures.{Figures}
use Rattle.lab_seeds.specs.Ranks.{greatest, least, median}
use Rattle.lab_seeds.proofs.Medians.{same_figures, same_ranks}
use Rattle.lab_seeds.proofs.ranks.ranks_of.Goals as goal

pub returns : goal.returns
returns c =
    let all = c.args.all.now in
    let a : c.in_ok-collect.field-0.items ≡ map (λ (f : Figures). f.syncs) all = search rules in
    let b : c.in_ok-collect-2.field-0.items ≡ map (λ (f : Figures). f.delivered) all = search rules in
    let d : c.in_ok-collect-3.field-0.items ≡ map (λ (f : Figures). f.attempts) all = search rules in
    let e : c.in_ok-collect-4.field-0.items ≡ map (λ (f : Figures). f.parts) all = search rules in
    let g : c.in_ok-collect-5.field-0.items ≡ map (λ (f : Figures). f.octets) all = search rules in
    let h : c.in_ok-collect-6.field-0.items ≡ map (λ (f : Figures). f.listed) all = search rules in
    same_ranks
    (same_figures (c.rank_of-syncs.ensures.least ∙ ap least a) (c.rank_of-delivered.ensures.least ∙ ap least b)
    (c.rank_of-attempts.ensures.least ∙ ap least d) (c.rank_of-parts.ensures.least ∙ ap least e)
    (c.rank_of-octets.ensures.least ∙ ap least g) (c.rank_of-listed.ensures.least ∙ ap least h))
    (same_figures (c.rank_of-syncs.ensures.median ∙ ap median a) (c.rank_of-delivered.ensures.median ∙ ap median b)
    (c.rank_of-attempts.ensures.median ∙ ap median d) (c.rank_of-parts.ensures.median ∙ ap median e)
    (c.rank_of-octets.ensures.median ∙ ap median g) (c.rank_of-listed.ensures.median ∙ ap median h))
    (same_figures (c.rank_of-syncs.ensures.greatest ∙ ap greatest a)
    (c.rank_of-delivered.ensures.greatest ∙ ap greatest b) (c.rank_of-attempts.ensures.greatest ∙ ap greatest d)
    (c.rank_of-parts.ensures.greatest ∙ ap greatest e) (c.rank_of-octets.ensures.greatest ∙ ap greatest g)
    (c.rank_of-listed.ensures.greatest ∙ ap greatest h))
