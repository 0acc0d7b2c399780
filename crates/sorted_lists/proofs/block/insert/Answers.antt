use Rattle.std.proofs.Common.{◌∙◌, sym, refl, Ok, Err, rules}
use Rattle.std.proofs.lemmas.List.Sorted.{answers_always}
use Rattle.sorted_lists.proofs.Search.{found, with_value_at, with_value_between}
use Rattle.sorted_lists.proofs.block.insert.Goals as goal

pub returns-in-Ok-clause-entries : goal.returns-in-Ok-clause-entries
returns-in-Ok-clause-entries g c =
    let o = g.met.K.Ord.total in
    let rises = rw (← c.deref.ensures.value) at c.requires.rises in
    let by_key = c.in-Ok.ensures.position (λ entry. entry.0) (answers_always _ _ _ (λ f a r g called. search rules)) in
    let place =
    found o (λ entry. entry.0) c.deref.result.now c.args.key (Ok c.in-Ok.place) rises c.in-Ok.ensures.bound by_key in
    sym
    (rw c.deref.ensures.value at (with_value_at o c.deref.result.now c.args.key c.args.value c.in-Ok.place rises place))

pub returns-in-Err-clause-entries : goal.returns-in-Err-clause-entries
returns-in-Err-clause-entries g c =
    let o = g.met.K.Ord.total in
    let rises = rw (← c.deref.ensures.value) at c.requires.rises in
    let by_key = c.in-Err.ensures.position (λ entry. entry.0) (answers_always _ _ _ (λ f a r g called. search rules)) in
    let place =
    found o (λ entry. entry.0) c.deref.result.now c.args.key (Err c.in-Err.place) rises c.in-Err.ensures.bound by_key in
    let inserted = c.insert.ensures.items ∙ rw c.unwrap.ensures refl in
    inserted
    ∙ sym
    (rw c.deref.ensures.value at (with_value_between o c.deref.result.now c.args.key c.args.value c.in-Err.place place))
