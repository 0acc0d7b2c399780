use Rattle.std.proofs.Common.{◌∙◌, ◌<◌, arith, ap, sym, Some, Ok, Err, rules}
use Rattle.std.proofs.lemmas.List.Sorted.{answers_always}
use Rattle.sorted_lists.proofs.Search.{found, last_at, last_before, none_before}
use Rattle.sorted_lists.proofs.block.last_up_to.Goals as goal

pub returns-in-Ok : goal.returns-in-Ok
returns-in-Ok g c =
    let o = g.met.K.Ord.total in
    let by_key = c.in-Ok.ensures.position (λ entry. entry.0) (answers_always _ _ _ (λ f a r g called. search rules)) in
    let place =
    found o (λ entry. entry.0) c.args.block.now c.args.key (Ok c.in-Ok.place) c.requires c.in-Ok.ensures.bound by_key in
    ap Some c.index-block-place.is
    ∙ sym (last_at o c.args.block.now c.args.key c.in-Ok.place c.requires place c.index-block-place.result)

pub returns-in-Err-eq0 : goal.returns-in-Err-eq0
returns-in-Err-eq0 g c =
    let o = g.met.K.Ord.total in
    let by_key =
    c.in-Err-eq0.ensures.position (λ entry. entry.0) (answers_always _ _ _ (λ f a r g called. search rules)) in
    let place =
    found o (λ entry. entry.0) c.args.block.now c.args.key (Err c.in-Err-eq0.field-0) c.requires
    c.in-Err-eq0.ensures.bound by_key in
    sym (none_before o c.args.block.now c.args.key c.in-Err-eq0.field-0 c.in-Err-eq0.field-0-test place)

pub returns-in-Err : goal.returns-in-Err
returns-in-Err g c =
    let o = g.met.K.Ord.total in
    let by_key = c.in-Err.ensures.position (λ entry. entry.0) (answers_always _ _ _ (λ f a r g called. search rules)) in
    let place =
    found o (λ entry. entry.0) c.args.block.now c.args.key (Err c.in-Err.place) c.requires c.in-Err.ensures.bound
    by_key in
    let some : 0 < c.in-Err.place = omega (arith, c.in-Err.place-test.1) in
    ap Some c.index-block-place-in-Err.is
    ∙ sym (last_before o c.args.block.now c.args.key c.in-Err.place some place c.index-block-place-in-Err.result)
