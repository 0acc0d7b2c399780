use Rattle.std.proofs.Common.{Bool, ◌||◌, ap, sym, ◌∙◌}
use Rattle.std.specs.Prelude.{is_some}
use Rattle.sorted_lists.specs.SortedList.{keys, contains}
use Rattle.sorted_lists.proofs.Sets.{value_key}
use Rattle.repo_plan.specs.Parts.{Pair, pair_cmp}
use Rattle.bench_world.proofs.touched.Touched.has.Goals as goal

pub returns-else-self : goal.returns-else-self
returns-else-self c =
    let pair : Pair = (c.args.part.publisher, c.args.part.seq) in
    c.is_some.ensures ∙ ap is_some c.get.ensures
    ∙ value_key pair_cmp c.args.self.now.publications.entries pair
    ∙ ap (λ (b : Bool). b || contains pair_cmp (keys c.args.self.now.publications.entries) pair) (sym c.if-self.false)
