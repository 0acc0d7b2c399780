use Rattle.std.proofs.Common.{[], ◌∷◌, List, take, drop, Ok, Err, sym, ap, ◌∙◌, subst}
use Rattle.std.specs.List.{insert}
use Rattle.std.proofs.lemmas.List.{append_assoc}
use Rattle.sorted_lists.specs.SortedList.{Rises, insert_key}
use Rattle.repo_plan.specs.Parts.{Pair, pair_cmp}
use Rattle.repo_plan.proofs.Orders.{exact_pairs}
use Rattle.sorted_lists.proofs.Inserted.{keys_there, keys_between}
use Rattle.repo_catalog.proofs.PairLemmas.{found_pair}
use Rattle.repo_mirror.proofs.mirror.outcome.put_in_order.Goals as goal

pub returns-in_ok-insert : goal.returns-in_ok-insert
returns-in_ok-insert c =
    let place = c.in-Err.place in
    let there : List Pair = c.deref.result.now in
    let rises : Rises pair_cmp there = subst (Rises pair_cmp) (sym c.deref.ensures.value) c.requires in
    let at = found_pair c.args.publication there (Err place) rises c.in-Err.ensures.bound c.in-Err.ensures.position in
    c.in_ok-insert.ensures.items
    ∙ ap (λ (xs : List Pair). insert xs place c.args.publication) (sym c.deref.ensures.value)
    ∙ sym (append_assoc (take place there) (c.args.publication ∷ []) (drop place there))
    ∙ sym (keys_between exact_pairs c.args.publication [] there place rises (tt, tt) at)
    ∙ ap (insert_key pair_cmp c.args.publication) c.deref.ensures.value

pub returns-in_default : goal.returns-in_default
returns-in_default c =
    let there : List Pair = c.deref.result.now in
    let rises : Rises pair_cmp there = subst (Rises pair_cmp) (sym c.deref.ensures.value) c.requires in
    let at =
    found_pair c.args.publication there (Ok c.in_default.field-0) rises c.in_default.ensures.bound
    c.in_default.ensures.position in
    sym c.deref.ensures.value
    ∙ sym (keys_there exact_pairs c.args.publication [] there c.in_default.field-0 rises at)
    ∙ ap (insert_key pair_cmp c.args.publication) c.deref.ensures.value
