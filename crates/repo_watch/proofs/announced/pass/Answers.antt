use Rattle.std.proofs.Common.{◌≡◌, List, ◌∷◌, sym, ap, subst, ◌∙◌}
use Rattle.repo_plan.specs.Parts.{Pair, pair_cmp}
use Rattle.repo_plan.proofs.Orders.{exact_pairs}
use Rattle.sorted_lists.specs.SortedList.{Rises, contains}
use Rattle.repo_watch.specs.Watching.{announced_after}
use Rattle.repo_watch.proofs.After.{here_after, past_announced, past_after}
use Rattle.repo_watch.proofs.announced.pass.Goals as goal

pub returns-in-Equal-clause-after : goal.returns-in-Equal-clause-after
returns-in-Equal-clause-after c =
    let pair : Pair = c.args.pair in
    let x : Pair = c.in-Some.first.now in
    let xs : List Pair = c.in-Some.after.now in
    let is : c.args.announced.now ≡ x ∷ xs = c.in-Some.ensures.cases.0 in
    sym (ap (announced_after pair) is
    ∙ here_after pair x xs (sym (exact_pairs.same x pair (sym c.in-Equal.ensures)))
    (subst (Rises pair_cmp) is c.requires))

pub returns-in-Greater-clause-announced : goal.returns-in-Greater-clause-announced
returns-in-Greater-clause-announced c =
    let pair : Pair = c.args.pair in
    let x : Pair = c.in-Some.first.now in
    let xs : List Pair = c.in-Some.after.now in
    let is : c.args.announced.now ≡ x ∷ xs = c.in-Some.ensures.cases.0 in
    sym (ap (λ (ys : List Pair). contains pair_cmp ys pair) is
    ∙ past_announced pair x xs (sym c.in-Greater.ensures) (subst (Rises pair_cmp) is c.requires))

pub returns-in-Greater-clause-after : goal.returns-in-Greater-clause-after
returns-in-Greater-clause-after c =
    let pair : Pair = c.args.pair in
    let x : Pair = c.in-Some.first.now in
    let xs : List Pair = c.in-Some.after.now in
    let is : c.args.announced.now ≡ x ∷ xs = c.in-Some.ensures.cases.0 in
    is
    ∙ sym (ap (announced_after pair) is
    ∙ past_after pair x xs (sym c.in-Greater.ensures) (subst (Rises pair_cmp) is c.requires))
