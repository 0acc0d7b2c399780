use Rattle.std.proofs.Common.{refl, ap, ◌∙◌}
use Rattle.sorted_lists.specs.SortedList.{keys, insert_key}
use Rattle.sorted_lists.proofs.Sets.{keys-with_value}
use Rattle.repo_plan.specs.Parts.{Pair, pair_cmp}
use Rattle.repo_plan.proofs.Orders.{exact_pairs}
use Rattle.bench_world.proofs.Touching.{noted_one, noted_all}
use Rattle.bench_world.proofs.touched.Touched.note.Goals as goal

pub returns-in-Ok : goal.returns-in-Ok
returns-in-Ok c =
    let pair : Pair = (c.args.publisher, c.args.seq) in
    noted_one c.args.self.now _ pair refl
    (ap keys c.insert.ensures.entries
    ∙ keys-with_value exact_pairs pair tt c.reserve.new.self.entries
    ∙ ap (λ es. insert_key pair_cmp pair (keys es)) c.in-Ok.ensures.entries)

pub returns-then-self : goal.returns-then-self
returns-then-self c = noted_all c.args.self.now c.args.self.now (c.args.publisher, c.args.seq) c.if-self.true
