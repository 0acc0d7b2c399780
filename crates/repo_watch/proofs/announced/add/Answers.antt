use Rattle.std.proofs.Common.{◌≡◌, ◌++◌, ◌∷◌, List, Result, Ok, Err, OnOk, cond, length, drop}
use Rattle.std.proofs.Common.{sym, ap, subst, ◌∙◌, arith}
use Rattle.std.specs.Prelude.{is_ok}
use Rattle.std.specs.List.Sorted.{IsSearchInRange, IsBinarySearchResult}
use Rattle.repo_plan.specs.Parts.{Pair, pair_cmp}
use Rattle.sorted_lists.specs.SortedList.{Rises, insert_keys}
use Rattle.sorted_lists.proofs.Members.{some_first}
use Rattle.repo_catalog.proofs.PairLemmas.{found_pair}
use Rattle.repo_watch.proofs.After.{added_after}
use Rattle.repo_watch.proofs.announced.add.Goals as goal

where_ok : {V E : Type 0} (r : Result V E) (old more new all : List Pair) → new ≡ cond (is_ok r) (old ++ more) old
    → all ≡ old ++ more → OnOk r (new ≡ all)
where_ok (Ok v) old more new all is same = is ∙ sym same
where_ok (Err e) old more new all is same = tt

pub returns-in-Err-clause-ok : goal.returns-in-Err-clause-ok
returns-in-Err-clause-ok c =
    let announced : List Pair = c.args.announced.now.items in
    let pairs : List Pair = c.args.pairs.now in
    let i = c.in-Err.place in
    let k : Pair = c.in-Some.field-0.now in
    let split : pairs ≡ k ∷ drop 1 pairs = some_first pairs k c.in-Some.ensures.value in
    let bound : IsSearchInRange (Err i) (length announced) =
    subst (λ (ys : List Pair). IsSearchInRange (Err i) (length ys)) c.deref.ensures.value c.in-Err.ensures.bound in
    let position : IsBinarySearchResult (λ x. pair_cmp x k) announced (Err i) =
    subst (λ (ys : List Pair). IsBinarySearchResult (λ x. pair_cmp x k) ys (Err i)) c.deref.ensures.value
    c.in-Err.ensures.position in
    where_ok c.extend_from_slice.result announced pairs c.extend_from_slice.new.self.items
    (insert_keys pair_cmp pairs announced)
    c.extend_from_slice.ensures.items
    (ap (λ (ps : List Pair). insert_keys pair_cmp ps announced) split
    ∙ added_after k (drop 1 pairs) announced i (omega (arith, c.if-place-len.true, c.len.ensures)) c.requires.rises
    (subst (Rises pair_cmp) split c.requires.pairs_rise)
    (found_pair k announced (Err i) c.requires.rises bound position)
    ∙ ap (λ (ps : List Pair). announced ++ ps) (sym split))
