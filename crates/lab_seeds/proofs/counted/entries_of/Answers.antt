use Rattle.std.proofs.Common.{◌≤◌, ◌∙◌, length, ap, arith}
use Rattle.group_model.specs.Publications.{published}
use Rattle.group_model.specs.World.{logs}
use Rattle.bench_world.specs.Worlds.{world_of}
use Rattle.lab_seeds.proofs.Listings.{few_listed}
use Rattle.lab_seeds.proofs.counted.entries_of.Goals as goal

pub returns-clause-few : goal.returns-clause-few
returns-clause-few c =
    let w = world_of c.args.world.now in
    let few = few_listed w c.args.member in
    let most : length (published (logs w)) ≤ c.args.world.now.steps =
    c.cite_soundness.ensures.consistent.within.published in
    let steps : c.args.world.now.steps ≤ 100000 = c.cite_soundness.ensures.consistent.steps in
    let same = ap length (c.entries.ensures.entries ∙ c.catalogue.ensures ∙ c.member.ensures.catalogue) in
    omega arith
