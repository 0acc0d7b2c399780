use Rattle.std.proofs.Common.{◌∙◌, ◌<◌, ◌≤◌, length, arith, ap, sym, Some, Ok, Err, rules}
use Rattle.std.proofs.lemmas.List.Sorted.{answers_always}
use Rattle.sorted_lists.proofs.Search.{found, first_at, first_after, none_after}
use Rattle.sorted_lists.proofs.block.first_from.Goals as goal

pub returns-in-Ok : goal.returns-in-Ok
returns-in-Ok g c =
    let o = g.met.K.Ord.total in
    let by_key = c.in-Ok.ensures.position (λ entry. entry.0) (answers_always _ _ _ (λ f a r g called. search rules)) in
    let place =
    found o (λ entry. entry.0) c.args.block.now c.args.key (Ok c.in-Ok.place) c.requires c.in-Ok.ensures.bound by_key in
    ap Some c.index-block-place.is
    ∙ sym (first_at o c.args.block.now c.args.key c.in-Ok.place c.requires place c.index-block-place.result)

pub returns-in-Err : goal.returns-in-Err
returns-in-Err g c =
    let o = g.met.K.Ord.total in
    let by_key = c.in-Err.ensures.position (λ entry. entry.0) (answers_always _ _ _ (λ f a r g called. search rules)) in
    let place =
    found o (λ entry. entry.0) c.args.block.now c.args.key (Err c.in-Err.place) c.requires c.in-Err.ensures.bound
    by_key in
    let within : c.in-Err.place < length c.args.block.now =
    omega (arith, c.if-place-block.true) in
    ap Some c.index-block-place-in-Err.is
    ∙ sym (first_after o c.args.block.now c.args.key c.in-Err.place place within c.index-block-place-in-Err.result)

pub returns-in-Err-2 : goal.returns-in-Err-2
returns-in-Err-2 g c =
    let o = g.met.K.Ord.total in
    let by_key = c.in-Err.ensures.position (λ entry. entry.0) (answers_always _ _ _ (λ f a r g called. search rules)) in
    let place =
    found o (λ entry. entry.0) c.args.block.now c.args.key (Err c.in-Err.place) c.requires c.in-Err.ensures.bound
    by_key in
    let past : length c.args.block.now ≤ c.in-Err.place =
    omega (arith, c.if-place-block.false) in
    sym (none_after o c.args.block.now c.args.key c.in-Err.place place past)
