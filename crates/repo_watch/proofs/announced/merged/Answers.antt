use Rattle.std.proofs.Common.{◌≡◌, ◌+◌, ◌++◌, ◌∷◌, List, [], take, drop, get_or, Ok, Err, sym, ap, subst, ◌∙◌, arith}
use Rattle.std.proofs.lemmas.List.{append_assoc, at_drop_more, at_drop_all}
use Rattle.repo_plan.specs.Parts.{Pair, pair_cmp}
use Rattle.sorted_lists.specs.SortedList.{Rises, insert_keys}
use Rattle.sorted_lists.proofs.Inserted.{rises_parts, keys_there, keys_between}
use Rattle.repo_plan.proofs.Orders.{exact_pairs}
use Rattle.repo_catalog.proofs.PairLemmas.{found_pair}
use Rattle.repo_watch.proofs.announced.merged.Goals as goal
use Rattle.repo_watch.proofs.announced.merged.Goals.{in-Err+in_ok-extend_from_slice+in_ok-push, in_default}

pub loop-pair-preserved : goal.loop-pair-preserved
loop-pair-preserved c =
    let pairs : List Pair = c.args.pairs.now in
    let i = c.loop-pair.pair-index in
    let p : Pair = get_or pairs i (0, 0) in
    let later = drop (i + 1) pairs in
    let rest : List Pair = c.loop-pair.rest.now in
    let all : List Pair = c.loop-pair.all.items in
    let here : drop i pairs ≡ p ∷ later = at_drop_more (λ (ps : List Pair). ps) pairs i (0, 0) c.loop-pair-test.true in
    let rises : Rises pair_cmp (p ∷ later) =
    subst (Rises pair_cmp) here (rises_parts exact_pairs i pairs c.requires.pairs_rise).1 in
    elim c.match-place.branch [
      | in-Err+in_ok-extend_from_slice+in_ok-push w ↦
          let place = w.in-Err.place in
          let at =
          found_pair p rest (Err place) c.loop-pair.invariant.rises w.in-Err.ensures.bound w.in-Err.ensures.position in
          let before : w.split_at.result.0.now ≡ take place rest = w.split_at.ensures.front in
          let lent : c.match-place.rest.now ≡ w.split_at.result.1.now = λ j. (w.rest-is j).now in
          let after : c.match-place.rest.now ≡ drop place rest = lent ∙ w.split_at.ensures.back in
          let kept : c.match-place.all.items ≡ w.push.new.self.items = λ j. (w.all-is j).items in
          let pushed : c.match-place.all.items ≡ (all ++ take place rest) ++ p ∷ [] =
          kept
          ∙ w.in_ok-push.ensures.items
          ∙ ap (λ (xs : List Pair). xs ++ p ∷ [])
          (w.in_ok-extend_from_slice.ensures.items ∙ ap (λ (xs : List Pair). all ++ xs) before) in
          let end = insert_keys pair_cmp later (drop place rest) in
          let moved : c.match-place.all.items ++ insert_keys pair_cmp later c.match-place.rest.now
          ≡ ((all ++ take place rest) ++ p ∷ []) ++ end = λ j. pushed j ++ insert_keys pair_cmp later (after j) in
          record {
            rises =
                subst (Rises pair_cmp) (sym after) (rises_parts exact_pairs place rest c.loop-pair.invariant.rises).1;
            all =
                moved
                ∙ ap (λ (xs : List Pair). xs ++ end) (append_assoc all (take place rest) (p ∷ []))
                ∙ append_assoc all (take place rest ++ p ∷ []) end
                ∙ ap (λ (xs : List Pair). all ++ xs) (sym
                (keys_between exact_pairs p later rest place c.loop-pair.invariant.rises rises at))
                ∙ ap (λ (ps : List Pair). all ++ insert_keys pair_cmp ps rest) (sym here)
                ∙ c.loop-pair.invariant.all;
          }
      | in_default w ↦
          let place = w.in_default.field-0 in
          let at =
          found_pair p rest (Ok place) c.loop-pair.invariant.rises w.in_default.ensures.bound
          w.in_default.ensures.position in
          let after : c.match-place.rest.now ≡ rest = λ j. (w.rest-is j).now in
          let same : c.match-place.all.items ≡ all = λ j. (w.all-is j).items in
          let moved : c.match-place.all.items ++ insert_keys pair_cmp later c.match-place.rest.now
          ≡ all ++ insert_keys pair_cmp later rest =
          λ j. same j ++ insert_keys pair_cmp later (after j) in
          record {
            rises = subst (Rises pair_cmp) (sym after) c.loop-pair.invariant.rises;
            all =
                moved
                ∙ ap (λ (xs : List Pair). all ++ xs)
                (sym (keys_there exact_pairs p later rest place c.loop-pair.invariant.rises at))
                ∙ ap (λ (ps : List Pair). all ++ insert_keys pair_cmp ps rest) (sym here)
                ∙ c.loop-pair.invariant.all;
          }
    ]

pub returns : goal.returns
returns c =
    let pairs : List Pair = c.args.pairs.now in
    let rest : List Pair = c.loop-pair.rest.now in
    let all : List Pair = c.loop-pair.all.items in
    c.in_ok-extend_from_slice-2.ensures.items
    ∙ sym (at_drop_all (λ (ps : List Pair). all ++ insert_keys pair_cmp ps rest) pairs c.loop-pair.pair-index
    (omega (arith, c.loop-pair-test.false)))
    ∙ c.loop-pair.invariant.all
